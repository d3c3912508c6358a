use Rattle.std.proofs.Common.{◌≡◌, Some, None, sym, ap, ◌∙◌}
use Rattle.std.specs.Prelude.{option_and_then}
use Rattle.std.specs.FinMap.{find}
use Rattle.acl_names.specs.Paths.{path_cmp}
use Rattle.kinds.specs.Kinds.{KindsOf, node_at}
use Rattle.kinds.specs.Numbered.{Numbers}
use Rattle.kinds.proofs.Counts.{found_entry}
use Rattle.kinds.proofs.map.KindMap.get.Goals as goal

pub returns-in-Some : goal.returns-in-Some
returns-in-Some g c =
    let p = c.args.path.now in
    let found : find path_cmp p c.args.self.now.1 ≡ Some c.in-Some.number = ap (λ (ns : Numbers). find path_cmp p ns) (sym c.numbers.ensures.all) ∙ sym c.in-Some.ensures in
    c.get-in-Some.ensures
    ∙ ap (λ (k : KindsOf g.row.N.Denot). node_at k c.in-Some.number) c.kinds.ensures.all
    ∙ sym (ap (option_and_then (node_at c.args.self.now.0)) found)
    ∙ sym (found_entry c.args.self.now.0 p c.args.self.now.1 c.numbers.ensures.sound.used)

pub returns-in-None : goal.returns-in-None
returns-in-None g c =
    let p = c.args.path.now in
    let found : find path_cmp p c.args.self.now.1 ≡ None = ap (λ (ns : Numbers). find path_cmp p ns) (sym c.numbers.ensures.all) ∙ sym c.in-None.ensures in
    sym (ap (option_and_then (node_at c.args.self.now.0)) found)
    ∙ sym (found_entry c.args.self.now.0 p c.args.self.now.1 c.numbers.ensures.sound.used)
