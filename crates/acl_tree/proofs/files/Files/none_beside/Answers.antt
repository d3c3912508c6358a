use Rattle.std.proofs.Common.{◌≡◌, [], false, sym, ap, subst, ◌∙◌}
use Rattle.kinds.specs.Numbered.{Numbers, entries_by, AreUsed}
use Rattle.acl_tree.specs.Changed.{differing}
use Rattle.acl_tree.proofs.Selected.{none_meant}
use Rattle.acl_tree.proofs.files.Files.none_beside.Goals as goal

pub invariant_of-result : goal.invariant_of-result
invariant_of-result c =
    let none : c.new.result.0 ≡ [] = ap (λ (w : Numbers × Numbers). w.0) c.new.ensures ∙ none_meant false c.numbers.result.now in
    subst (λ (ns : Numbers). AreUsed c.kinds.result.now ns) (sym none) tt

pub returns : goal.returns
returns c =
    let none : c.new.result.0 ≡ [] = ap (λ (w : Numbers × Numbers). w.0) c.new.ensures ∙ none_meant false c.numbers.result.now in
    ap (λ (ns : Numbers). differing false c.finder.result (entries_by c.kinds.result.now ns)) none
