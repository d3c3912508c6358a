use Rattle.std.proofs.Common.{◌≡◌, ◌+◌, ◌-◌, ◌++◌, Global, List, [], drop, sym, ap, subst, ◌∙◌, arith}
use Rattle.std.specs.declared.rc.Rc.{Rc}
use Rattle.std.specs.List.{flat_map}
use Rattle.acl_names.specs.Paths.{PathOf}
use Rattle.path_map.specs.Entries.{IsInOrder}
use Rattle.path_map.specs.Below.{after}
use Rattle.path_map.specs.Inner.{ArePassed}
use Rattle.path_map.proofs.Passed.{after_whole, after_part}
use Rattle.path_map.proofs.map.Top+V.entries_after.Goals as goal

abbrev value : {V : Type 0} → Rc (List (PathOf × V)) Global → List (PathOf × V)
value b = b.value

pub returns-then-passed-eq0 : goal.returns-then-passed-eq0
returns-then-passed-eq0 g c =
    let order : IsInOrder (flat_map value c.parts-branches.result.now) = subst IsInOrder (sym c.parts-branches.ensures.all) c.parts-branches.ensures.order in
    let counted : ArePassed value c.parts-branches.result.now c.args.top.now 0 =
    subst (λ n. ArePassed value c.parts-branches.result.now c.args.top.now n) c.if-passed-eq0.true c.count_passed-passed.ensures in
    ap (λ l. l ++ [] ++ flat_map value c.parts-branches.result.now) c.new.ensures
    ∙ sym (after_whole value c.parts-branches.result.now c.args.top.now order counted)
    ∙ ap (λ es. after c.args.top.now es) c.parts-branches.ensures.all

pub returns : goal.returns
returns g c =
    let k = c.count_passed-passed.result - 1 in
    let more : c.count_passed-passed.result ≡ k + 1 = omega (arith, c.if-passed-eq0.false) in
    let parts = c.parts-branches.result.now in
    let order : IsInOrder (flat_map value parts) = subst IsInOrder (sym c.parts-branches.ensures.all) c.parts-branches.ensures.order in
    let counted : ArePassed value parts c.args.top.now (k + 1) = subst (λ n. ArePassed value parts c.args.top.now n) more c.count_passed-passed.ensures in
    let part = c.index-branches-passed.result in
    let rest = flat_map value c.split_at.result.1.now in
    ap (λ l. l ++ rest) (c.chunks_after-run.ensures ∙ ap (λ es. after c.args.top.now es) c.deref.ensures)
    ∙ ap (λ l. after c.args.top.now part.value ++ flat_map value l) (c.split_at.ensures.back ∙ ap (λ n. drop n parts) more)
    ∙ sym (after_part value parts c.args.top.now k part order counted c.index-branches-passed.is)
    ∙ ap (λ es. after c.args.top.now es) c.parts-branches.ensures.all
