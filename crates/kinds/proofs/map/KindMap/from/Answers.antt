use Rattle.std.proofs.Common.{◌≡◌, not, sym, ap, subst, ◌∙◌}
use Rattle.std.specs.Ordering.{is_gt}
use Rattle.acl_names.specs.Paths.{path_cmp}
use Rattle.path_map.specs.Below.{from}
use Rattle.kinds.specs.Kinds.{KindsOf}
use Rattle.kinds.specs.Numbered.{Numbers, AreUsed, entries_by}
use Rattle.kinds.proofs.Chosen.{entries_filter, used_filter}
use Rattle.kinds.proofs.map.KindMap.from.Goals as goal

pub new-requires : goal.new-requires
new-requires g c =
    let p = c.args.path.now in
    let numbers : c.from.result ≡ from p c.args.self.now.1 = c.from.ensures ∙ ap (λ (ns : Numbers). from p ns) c.numbers.ensures.all in
    subst (λ (k : KindsOf g.row.N.Denot). AreUsed k c.from.result) (sym c.kinds.ensures.all)
    (subst (λ (ns : Numbers). AreUsed c.args.self.now.0 ns) (sym numbers) (used_filter c.args.self.now.0 (λ q. not (is_gt (path_cmp p q))) c.args.self.now.1 c.numbers.ensures.sound.used))

pub returns : goal.returns
returns g c =
    let p = c.args.path.now in
    let numbers : c.from.result ≡ from p c.args.self.now.1 = c.from.ensures ∙ ap (λ (ns : Numbers). from p ns) c.numbers.ensures.all in
    c.new.ensures ∙ (λ i. entries_by (c.kinds.ensures.all i) (numbers i)) ∙ entries_filter c.args.self.now.0 (λ q. not (is_gt (path_cmp p q))) c.args.self.now.1 c.numbers.ensures.sound.used
