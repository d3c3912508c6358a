use Rattle.std.proofs.Common.{◌≡◌, ◌++◌, ◌^◌, take, drop, length, sym, ap, ap₂, subst, ◌∙◌, arith}
use Rattle.facl_counts.specs.SumLists.{counts_after, totals, AreSmall, AreWithin}
use Rattle.facl_counts.proofs.SumsApart.{small, whole_now}
use Rattle.facl_counts.proofs.TwoParts.{kept_after}
use Rattle.facl_counts.proofs.user_counts.UserCounts.add.Goals as goal

pub add_to_parts-most-requires : goal.add_to_parts-most-requires
add_to_parts-most-requires c =
    let inside = c.self.inside in
    let kept = c.self.invariant in
    let wide = c.deref_mut.ensures.value in
    let narrow = c.deref_mut-2.ensures.value in
    let more = c.args.more in
    record {
      long = ap length wide ∙ kept.long ∙ sym (ap length narrow);
      small = subst (AreSmall (2 ^ 64) more) (sym (ap₂ totals wide narrow))
          (small (2 ^ 64) inside.all more (totals inside.wide.items inside.narrow.items) (omega (arith, c.in_ok-all.ensures)) kept.within);
      few = subst (AreWithin inside.most) (sym narrow) kept.few;
    }

pub invariant_of-self : goal.invariant_of-self
invariant_of-self c =
    let inside = c.self.inside in
    let added = c.add_to_parts-most in
    let row = c.args.row.now in
    let more = c.args.more in
    let was = ap₂ totals c.deref_mut.ensures.value c.deref_mut-2.ensures.value in
    let wide : take inside.wide.len (added.new.wide ++ drop (length added.new.wide) inside.wide.items) ≡ added.new.wide =
    whole_now inside.wide.len added.new.wide inside.wide.items c.deref_mut.result.now (omega (arith, added.auto.wide)) c.deref_mut.ensures.value (omega (arith, inside.wide.ok))
    in
    let narrow : take inside.narrow.len (added.new.narrow ++ drop (length added.new.narrow) inside.narrow.items) ≡ added.new.narrow =
    whole_now inside.narrow.len added.new.narrow inside.narrow.items c.deref_mut-2.result.now (omega (arith, added.auto.narrow)) c.deref_mut-2.ensures.value (omega (arith, inside.narrow.ok))
    in
    kept_after c.args.request inside.all more inside.most added.result c.in_ok-all.all row inside.wide.items inside.narrow.items added.new.wide added.new.narrow
    _ _ c.self.invariant (omega arith) c.in_ok-all.ensures wide narrow
    (added.auto.wide ∙ ap length c.deref_mut.ensures.value) (added.auto.narrow ∙ ap length c.deref_mut-2.ensures.value)
    (added.ensures.added ∙ ap (counts_after c.args.request more row) was) added.ensures.few

pub returns : goal.returns
returns c =
    let inside = c.self.inside in
    let added = c.add_to_parts-most in
    let was = ap₂ totals c.deref_mut.ensures.value c.deref_mut-2.ensures.value in
    let wide : take inside.wide.len (added.new.wide ++ drop (length added.new.wide) inside.wide.items) ≡ added.new.wide =
    whole_now inside.wide.len added.new.wide inside.wide.items c.deref_mut.result.now (omega (arith, added.auto.wide)) c.deref_mut.ensures.value (omega (arith, inside.wide.ok))
    in
    let narrow : take inside.narrow.len (added.new.narrow ++ drop (length added.new.narrow) inside.narrow.items) ≡ added.new.narrow =
    whole_now inside.narrow.len added.new.narrow inside.narrow.items c.deref_mut-2.result.now (omega (arith, added.auto.narrow)) c.deref_mut-2.ensures.value (omega (arith, inside.narrow.ok))
    in
    ap₂ totals wide narrow ∙ added.ensures.added ∙ ap (counts_after c.args.request c.args.more c.args.row.now) (was ∙ c.self.view_is)
