-- A recalculated mask hides nothing, and grants no more than the group class has.
use Rattle.std.proofs.Common.{◌≡◌, Bool, true, false, cond, if◌then◌else◌, ◌&&◌, ◌||◌, List, [], ◌∷◌, map, filter, Option, Some, None, is_some, option_map, refl, sym, ap, subst, ◌∙◌}
use Rattle.std.specs.Ordering.{eq_by_cmp}
use Rattle.std.specs.List.{list_any}
use Rattle.std.specs.FinMap as maps
use Rattle.acl_entry.specs.Perms.{Perms, none, union, meet}
use Rattle.acl_entry.specs.Keys.{key_cmp, same_key, is_class}
use Rattle.acl_entry.specs.Lists.{KeyMap, entries, masked_by, union_all, perm_of_entry, in_class, class_union}
use Rattle.acl_entry.specs.declared.entry.Key.{Key}
use Rattle.acl_entry.specs.declared.entry.Key.TheVariants.{Owner, User, OwningGroup, Group, Mask, Other}
use Rattle.acl_entry.specs.declared.entry.Entry.{Entry}
use Rattle.acl_entry.proofs.KeyLaws.{key_total, exact_keys}
use Rattle.acl_entry.proofs.Basics.{is_equal}
use Rattle.acl_edit.specs.Masks.{has_mask, recalculate}
use Rattle.acl_edit.specs.Laws.{HidesNothing, GrantsNoMore, MasksNoMore}

-- ---- a set within a union

within_one : (a b : Bool) → (a && (a || b)) ≡ a
within_one true b = refl
within_one false b = refl

within_more : (a b u : Bool) → (a && u) ≡ a → (a && (b || u)) ≡ a
within_more false b u h = refl
within_more true true u h = refl
within_more true false u h = h

pub meet-union : (s t : Perms) → meet s (union s t) ≡ s
meet-union s t = λ i. record {
  read = within_one s.read t.read i;
  write = within_one s.write t.write i;
  execute = within_one s.execute t.execute i;
}

pub meet-more : (s t u : Perms) → meet s u ≡ s → meet s (union t u) ≡ s
meet-more s t u h = λ i. record {
  read = within_more s.read t.read u.read (ap (λ (p : Perms). p.read) h) i;
  write = within_more s.write t.write u.write (ap (λ (p : Perms). p.write) h) i;
  execute = within_more s.execute t.execute u.execute (ap (λ (p : Perms). p.execute) h) i;
}

-- ---- each entry of the group class has no more than all of them

abbrev entry_of : Key × Perms → Entry
entry_of p = record { key = p.0; perm = p.1 }

abbrev all_of : List (Key × Perms) → Perms
all_of ps = union_all (map perm_of_entry (filter in_class (map entry_of ps)))

one_more : (b : Bool) (s v : Perms) (e : Entry) (es : List Entry) → meet s (union_all (map perm_of_entry es)) ≡ s → meet s (union_all (map perm_of_entry (cond b (e ∷ es) es))) ≡ s
one_more true s v e es h = meet-more s e.perm (union_all (map perm_of_entry es)) h
one_more false s v e es h = h

-- keys that tie are one
pub tied : (q k : Key) → eq_by_cmp key_cmp q k ≡ true → q ≡ k
tied q k h = exact_keys q k (is_equal (key_cmp q k) h)

module _ (q : Key) (s : Perms) (of_class : is_class q ≡ true) where
  step : (b : Bool) (k : Key) (v : Perms) (ps : List (Key × Perms)) → eq_by_cmp key_cmp q k ≡ b → (maps.find key_cmp q ps ≡ Some s → meet s (all_of ps) ≡ s)
      → cond b (Some v) (maps.find key_cmp q ps) ≡ Some s → meet s (all_of ((k, v) ∷ ps)) ≡ s
  step true k v ps e rest h =
      let same : v ≡ s = cc in
      let class : is_class k ≡ true = subst (λ z. is_class z ≡ true) (tied q k e) of_class in
      ap (λ b. meet s (union_all (map perm_of_entry (cond b (entry_of (k, v) ∷ filter in_class (map entry_of ps)) (filter in_class (map entry_of ps)))))) class
      ∙ ap (λ z. meet s (union z (all_of ps))) same ∙ meet-union s (all_of ps)
  step false k v ps e rest h = one_more (is_class k) s v (entry_of (k, v)) (filter in_class (map entry_of ps)) (rest h)

  bounded : (ps : List (Key × Perms)) → maps.find key_cmp q ps ≡ Some s → meet s (all_of ps) ≡ s
  bounded [] h = cc
  bounded (p ∷ ps) h = step (eq_by_cmp key_cmp q p.0) p.0 p.1 ps refl (bounded ps) h

-- what an entry of the class has is part of what all have
pub meet-class_union : (m : KeyMap) (q : Key) (s : Perms) → is_class q ≡ true → maps.get m q ≡ Some s → meet s (class_union m) ≡ s
meet-class_union m q s of_class h = bounded q s of_class (maps.entries m) (sym (maps.get-entries m q) ∙ h)

-- ---- the mask

masked_or_not : (b : Bool) (mask o : Option Perms) → ((s : Perms) → b ≡ true → o ≡ Some s → masked_by mask s ≡ s) → option_map (λ s. if b then masked_by mask s else s) o ≡ o
masked_or_not true mask None h = refl
masked_or_not true mask (Some s) h = ap Some (h s refl refl)
masked_or_not false mask None h = refl
masked_or_not false mask (Some s) h = refl

-- a list whose mask, if there is one, has all that an entry of the class has
hides_nothing : (m : KeyMap) → ((k : Key) (s : Perms) → is_class k ≡ true → maps.get m k ≡ Some s → masked_by (maps.get m Mask) s ≡ s) → HidesNothing m
hides_nothing m h k = masked_or_not (is_class k) (maps.get m Mask) (maps.get m k) (h k)

no_mask : (o : Option Perms) → is_some o ≡ false → o ≡ None
no_mask None h = refl
no_mask (Some s) h = cc

is_other : (k : Key) → is_class k ≡ true → same_key k Mask ≡ false
is_other Owner h = refl
is_other (User id) h = refl
is_other OwningGroup h = refl
is_other (Group id) h = refl
is_other Mask h = cc
is_other Other h = refl

pub recalculate_shows : (m : KeyMap) → HidesNothing (recalculate m)
recalculate_shows m = by_mask (has_mask m) refl
  where
    by_mask : (b : Bool) → has_mask m ≡ b → HidesNothing (if b then maps.insert m Mask (class_union m) else m)
    by_mask true e = hides_nothing _ (λ k s of_class h.
        ap (λ o. masked_by o s) (maps.get-insert key_total m Mask (class_union m) Mask)
        ∙ meet-class_union m k s of_class (sym (maps.get-insert key_total m Mask (class_union m) k ∙ ap (λ b. cond b (Some (class_union m)) (maps.get m k)) (is_other k of_class)) ∙ h))
    by_mask false e = hides_nothing m (λ k s of_class h. ap (λ o. masked_by o s) (no_mask (maps.get m Mask) e))

-- ---- what all entries of the class have, some entry has

module _ (f : Perms → Bool) (joins : (s t : Perms) → f (union s t) ≡ (f s || f t)) (nothing : f none ≡ false) where
  some_has : (es : List Entry) → f (union_all (map perm_of_entry (filter in_class es))) ≡ list_any (λ e. is_class e.key && f e.perm) es
  some_has [] = nothing
  some_has (e ∷ es) = by_class (is_class e.key) (some_has es)
    where
      by_class : (b : Bool) → f (union_all (map perm_of_entry (filter in_class es))) ≡ list_any (λ e. is_class e.key && f e.perm) es
          → f (union_all (map perm_of_entry (cond b (e ∷ filter in_class es) (filter in_class es)))) ≡ ((b && f e.perm) || list_any (λ e. is_class e.key && f e.perm) es)
      by_class true h = joins e.perm (union_all (map perm_of_entry (filter in_class es))) ∙ ap (λ b. f e.perm || b) h
      by_class false h = h

union_grants_no_more : (m : KeyMap) → GrantsNoMore m (class_union m)
union_grants_no_more m = record {
  read = λ h. sym (some_has (λ p. p.read) (λ s t. refl) refl (entries m)) ∙ h;
  write = λ h. sym (some_has (λ p. p.write) (λ s t. refl) refl (entries m)) ∙ h;
  execute = λ h. sym (some_has (λ p. p.execute) (λ s t. refl) refl (entries m)) ∙ h;
}

-- a mask that is recalculated, if there is one
pub masks_no_more : (m : KeyMap) (o : Option Perms) → maps.get m Mask ≡ option_map (λ _. class_union m) o → MasksNoMore m
masks_no_more m None h mask e = cc
masks_no_more m (Some s) h mask e = let is : class_union m ≡ mask = cc in subst (GrantsNoMore m) is (union_grants_no_more m)
