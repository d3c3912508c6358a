use Rattle.std.proofs.Common.{◌≡◌, false, is_some, length, refl, sym, ap, subst, ◌∙◌, arith}
use mathlib.Core.Bool.{false≢true}
use Rattle.std.specs.FinMap as maps
use Rattle.std.specs.FinMap.{put}
use Rattle.acl_entry.specs.Keys.{key_cmp}
use Rattle.acl_entry.specs.Lists.{pairs, keys, map_of, entries, is_among, IsAt, IsGapFor, IsInOrder, HasIds}
use Rattle.acl_entry.proofs.Placed.{put_gap, find_gap}
use Rattle.acl_entry.specs.declared.entry.Entry.{Entry}
use Rattle.acl_entry.proofs.Ids.{HasIds-keys, HasIds-insert}
use Rattle.acl_entry.proofs.Maps.{in_order-insert, in_order-put, map_of-put, refill-keys, entries-map_of, get-map_of}
use Rattle.acl_entry.proofs.Faults.{among_at}
use Rattle.acl_entry.proofs.draft.Draft.insert.Goals as goal

-- the key is present
pub set_perm-requires-clause-has_entry : goal.set_perm-requires-clause-has_entry
set_perm-requires-clause-has_entry c =
    let es = c.self.inside.entries.items in
    let at : IsAt es c.args.key c.in-Ok.field-0 = subst (λ l. IsAt l c.args.key c.in-Ok.field-0) c.deref.ensures c.in-Ok.ensures.found in
    ap (λ l. is_among c.args.key (keys l)) c.deref_mut.ensures.value ∙ among_at es es c.self.invariant.in_order c.args.key refl c.in-Ok.field-0 at (record { key = c.args.key; perm = c.args.perm })

pub invariant_of-self : goal.invariant_of-self
invariant_of-self c =
    let es = c.self.inside.entries.items in
    let is : pairs c.set_perm.new.entries ≡ put key_cmp c.args.key c.args.perm (pairs es) = c.set_perm.ensures.put ∙ ap (λ l. put key_cmp c.args.key c.args.perm (pairs l)) c.deref_mut.ensures.value in
    let whole = refill-keys es c.set_perm.new.entries (c.set_perm.ensures.keys ∙ ap keys c.deref_mut.ensures.value) in
    record {
      in_order = subst IsInOrder (sym whole) (in_order-put es c.set_perm.new.entries c.self.invariant.in_order c.args.key c.args.perm is);
      ids = subst HasIds (sym whole) (HasIds-keys es c.set_perm.new.entries (c.set_perm.ensures.keys ∙ ap keys c.deref_mut.ensures.value) c.self.invariant.ids);
    }

pub returns-in-Ok-clause-ok : goal.returns-in-Ok-clause-ok
returns-in-Ok-clause-ok c =
    let es = c.self.inside.entries.items in
    let is : pairs c.set_perm.new.entries ≡ put key_cmp c.args.key c.args.perm (pairs es) = c.set_perm.ensures.put ∙ ap (λ l. put key_cmp c.args.key c.args.perm (pairs l)) c.deref_mut.ensures.value in
    let whole = refill-keys es c.set_perm.new.entries (c.set_perm.ensures.keys ∙ ap keys c.deref_mut.ensures.value) in
    ap map_of whole ∙ map_of-put es c.set_perm.new.entries c.args.key c.args.perm is ∙ ap (λ m. maps.insert m c.args.key c.args.perm) c.self.view_is

pub invariant_of-self-in-Continue-1 : goal.invariant_of-self-in-Continue-1
invariant_of-self-in-Continue-1 c =
    let es = c.self.inside.entries.items in
    let gap : IsGapFor es c.args.key c.in-Err.at = subst (λ l. IsGapFor l c.args.key c.in-Err.at) c.deref.ensures c.in-Err.ensures.absent in
    let e : Entry = record { key = c.args.key; perm = c.args.perm } in
    record {
      in_order = subst IsInOrder (sym c.in_ok-insert-in-Err.ensures.ok) (in_order-insert es c.self.invariant.in_order e c.in-Err.at gap);
      ids = subst HasIds (sym c.in_ok-insert-in-Err.ensures.ok) (HasIds-insert es e c.in-Err.at c.self.invariant.ids c.place.ensures.id);
    }

pub returns-in_ok-insert-in-Err-clause-ok : goal.returns-in_ok-insert-in-Err-clause-ok
returns-in_ok-insert-in-Err-clause-ok c =
    let es = c.self.inside.entries.items in
    let gap : IsGapFor es c.args.key c.in-Err.at = subst (λ l. IsGapFor l c.args.key c.in-Err.at) c.deref.ensures c.in-Err.ensures.absent in
    map_of-put es c.insert.new.self.items c.args.key c.args.perm (ap pairs c.in_ok-insert-in-Err.ensures.ok ∙ sym (put_gap es c.args.key c.args.perm c.in-Err.at gap))
    ∙ ap (λ m. maps.insert m c.args.key c.args.perm) c.self.view_is

-- there is room for one entry more
pub returns-in_err-insert-in-Err-clause-inline : goal.returns-in_err-insert-in-Err-clause-inline
returns-in_err-insert-in-Err-clause-inline c short =
    let es = c.self.inside.entries.items in
    let same = ap length (sym (entries-map_of es c.self.invariant.in_order) ∙ ap entries c.self.view_is) in
    absurd (false≢true (c.in_err-insert-in-Err.ensures.succeeds (omega (arith, c.capacity-capacity.ensures.at_least_inline, c.capacity-capacity.ensures.value))))

-- the key is absent
pub returns-in_err-insert-in-Err-clause-has_entry : goal.returns-in_err-insert-in-Err-clause-has_entry
returns-in_err-insert-in-Err-clause-has_entry c has_entry =
    let es = c.self.inside.entries.items in
    let gap : IsGapFor es c.args.key c.in-Err.at = subst (λ l. IsGapFor l c.args.key c.in-Err.at) c.deref.ensures c.in-Err.ensures.absent in
    let apart : maps.contains_key c.args.self.now c.args.key ≡ false =
    ap (λ m. maps.contains_key m c.args.key) (sym c.self.view_is) ∙ ap is_some (get-map_of es c.args.key ∙ find_gap es c.args.key c.in-Err.at gap) in
    absurd (false≢true (sym apart ∙ has_entry))
