use Rattle.std.proofs.Common.{◌≡◌, ◌++◌, take, drop, length, refl, sym, ap, ap₂, ◌∙◌, arith, false}
use Rattle.facl_counts.specs.Counting.{tallied}
use Rattle.facl_counts.specs.SumLists.{firsts_after, grants_one, sums_kept, waits_of}
use Rattle.facl_counts.specs.Sums.{after_row}
use Rattle.facl_counts.proofs.SumsApart.{none_waits, row_added, whole_now}
use Rattle.facl_counts.proofs.sums.UserSums.add_row.Goals as goal

pub invariant_of-self-then-grants_one : goal.invariant_of-self-then-grants_one
invariant_of-self-then-grants_one c =
    let inside = c.self.inside in
    let waits : take inside.waits.len (c.look_again.new.waits ++ drop (length c.look_again.new.waits) inside.waits.items) ≡ c.look_again.new.waits =
    whole_now inside.waits.len c.look_again.new.waits inside.waits.items c.deref_mut-then-grants_one.result.now
    (omega (arith, c.look_again.auto.waits)) c.deref_mut-then-grants_one.ensures.value (omega (arith, inside.waits.ok))
    in
    waits ∙ c.look_again.ensures ∙ ap waits_of c.deref-then-grants_one.ensures.value

pub returns-then-grants_one : goal.returns-then-grants_one
returns-then-grants_one c =
    let inside = c.self.inside in
    let q = c.args.request in
    let t = tallied c.args.tally.now in
    let row = c.args.row.now in
    let first = c.args.tally.now.first in
    let firsts : take inside.firsts.len (c.add_firsts.new.firsts ++ drop (length c.add_firsts.new.firsts) inside.firsts.items) ≡ firsts_after q first row inside.firsts.items =
    whole_now inside.firsts.len c.add_firsts.new.firsts inside.firsts.items c.deref_mut.result.now
    (omega (arith, c.add_firsts.auto.firsts)) c.deref_mut.ensures.value (omega (arith, inside.firsts.ok))
    ∙ c.add_firsts.ensures
    ∙ ap (firsts_after q first row) c.deref_mut.ensures.value
    in
    ap₂ sums_kept c.in_ok-add.ensures firsts ∙ row_added q t first row inside.counts inside.firsts.items refl ∙ ap (after_row q t row) c.self.view_is

pub returns-else-grants_one : goal.returns-else-grants_one
returns-else-grants_one c =
    let inside = c.self.inside in
    let q = c.args.request in
    let t = tallied c.args.tally.now in
    let row = c.args.row.now in
    let first = c.args.tally.now.first in
    let none : grants_one q row (waits_of inside.firsts.items) ≡ false =
    ap (grants_one q row) (sym (c.deref.ensures.value ∙ c.self.invariant)) ∙ sym c.grants_one.ensures ∙ c.if-grants_one.false
    in
    ap₂ sums_kept c.in_ok-add.ensures (sym (none_waits q first row inside.firsts.items none)) ∙ row_added q t first row inside.counts inside.firsts.items refl ∙ ap (after_row q t row) c.self.view_is
