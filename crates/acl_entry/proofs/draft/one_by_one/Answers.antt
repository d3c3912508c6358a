use Rattle.std.proofs.Common.{◌≡◌, Some, option_map, take, cond, sym, ap, subst, ◌∙◌, arith}
use Rattle.std.proofs.lemmas.Grind.{common_steps}
use mathlib.Core.Bool.{false≢true}
use Rattle.std.specs.List.{insert}
use Rattle.std.specs.FinMap as maps
use Rattle.std.proofs.lemmas.List.{length-take}
use Rattle.std.proofs.lemmas.List.Sorted.{IsPermutation-push_more, IsPermutation-insert, length_permutation}
use Rattle.acl_entry.specs.declared.entry.ListFault.TheVariants.{Repeated}
use Rattle.acl_entry.specs.Keys.{key_cmp, same_key}
use Rattle.acl_entry.specs.Lists.{pairs, IsInOrder, HasIds, IsAt, IsGapFor}
use Rattle.acl_entry.proofs.Ids.{HasIds-insert}
use Rattle.acl_entry.proofs.Maps.{in_order-insert, find-insert}
use Rattle.acl_entry.proofs.Placed.{find_gap}
use Rattle.acl_entry.proofs.Faults.{next_entries, repeated_here, repeated_later, find-next, among_at, apart_gap}
use Rattle.acl_entry.proofs.draft.one_by_one.Goals as goal

pub returns-in-Ok-clause-err : goal.returns-in-Ok-clause-err
returns-in-Ok-clause-err c =
    let es = c.args.entries.now in
    let inv = c.loop-i.invariant in
    let e = c.index-entries-i.result in
    let at : IsAt c.loop-i.sorted.items e.key c.in-Ok.field-0 = subst (λ l. IsAt l e.key c.in-Ok.field-0) c.deref.ensures c.in-Ok.ensures.found in
    let before = among_at (take c.loop-i.i es) c.loop-i.sorted.items inv.in_order e.key (inv.same e.key) c.in-Ok.field-0 at e in
    λ _. ap (option_map Repeated) (sym inv.once ∙ repeated_here es c.loop-i.i e c.loop-i-test.true c.index-entries-i.is before)

pub loop-i-preserved : goal.loop-i-preserved
loop-i-preserved c =
    let es = c.args.entries.now in
    let i = c.loop-i.i in
    let in_range = c.loop-i-test.true in
    let sorted = c.loop-i.sorted.items in
    let inv = c.loop-i.invariant in
    let e = c.index-entries-i.result in
    let is = c.index-entries-i.is in
    let at = c.in-Err.at in
    let gap : IsGapFor sorted e.key at = subst (λ l. IsGapFor l e.key at) c.deref.ensures c.in-Err.ensures.absent in
    let none = sym (inv.same e.key) ∙ find_gap sorted e.key at gap in
    let apart = apart_gap (take i es) sorted inv.in_order e.key (inv.same e.key) at gap in
    let items : c.insert.new.self.items ≡ insert sorted at e = c.in_ok-insert-in-Err.ensures.ok in
    record {
      in_order = subst IsInOrder (sym items) (in_order-insert sorted inv.in_order e at gap);
      ids = subst HasIds (sym items) (HasIds-insert sorted e at inv.ids c.place.ensures.id);
      permutation = rw (items, next_entries es i e in_range is) (IsPermutation-push_more (take i es) sorted _ e inv.permutation (IsPermutation-insert sorted at e));
      same = λ k.
          ap (λ l. maps.find key_cmp k (pairs l)) items
          ∙ find-insert sorted e at gap k
          ∙ ap (cond (same_key k e.key) (Some e.perm)) (inv.same k)
          ∙ sym (find-next es i e in_range is none k);
      room = omega (arith, inv.room, c.in_ok-insert-in-Err.ensures.capacity);
      once = repeated_later es i e in_range is apart ∙ inv.once;
    }

-- a short list goes in inline
pub returns-in_err-insert-in-Err-clause-inline : goal.returns-in_err-insert-in-Err-clause-inline
returns-in_err-insert-in-Err-clause-inline c short =
    let es = c.args.entries.now in
    let inv = c.loop-i.invariant in
    let held = length_permutation (take c.loop-i.i es) c.loop-i.sorted.items inv.permutation in
    let taken = length-take c.loop-i.i es in
    absurd (false≢true (c.in_err-insert-in-Err.ensures.succeeds (omega (arith, inv.room, c.loop-i-test.true))))

pub returns-clause-once : goal.returns-clause-once
returns-clause-once c = grind (arith, common_steps)

pub returns-clause-permutation : goal.returns-clause-permutation
returns-clause-permutation c = grind (arith, common_steps)

pub returns-clause-same : goal.returns-clause-same
returns-clause-same c = grind (arith, common_steps)
