-- What a line leaves at each key of a list that it names.
use Rattle.std.proofs.Common.{◌≡◌, Bool, true, false, cond, if◌then◌else◌, not, ◌&&◌, ◌||◌, List, [], ◌∷◌, map, filter, Option, Some, None, is_some, option_map}
use Rattle.std.proofs.Common.{Ordering, Less, Equal, Greater, refl, sym, ap, ◌∙◌}
use Rattle.std.specs.List.{list_any}
use Rattle.std.specs.FinMap as maps
use Rattle.std.specs.FinMap.Entries.{by_order}
use Rattle.acl_entry.specs.Perms.{Perms}
use Rattle.acl_entry.specs.Keys.{key_cmp, same_key, is_base, is_named, is_class}
use Rattle.acl_entry.specs.Lists.{KeyMap, class_union, in_class, perm_of_entry, union_all, or_else}
use Rattle.acl_entry.specs.declared.entry.Key.{Key}
use Rattle.acl_entry.specs.declared.entry.Key.TheVariants.{Owner, User, OwningGroup, Group, Mask, Other}
use Rattle.acl_entry.specs.declared.entry.Entry.{Entry}
use Rattle.acl_entry.proofs.KeyLaws.{key_total, exact_keys}
use Rattle.acl_text.specs.declared.entries.Spec.{Spec}
use Rattle.acl_edit.specs.Parts.{Part, is_given, is_mask}
use Rattle.acl_edit.specs.Steps.{remove, replace, put_some, fill_one, fill_from}
use Rattle.acl_edit.specs.Masks.{has_mask, has_named, add_mask, recalculate, is_recalculated, takes_mask, with_mask}
use Rattle.acl_edit.specs.Edits.{worked}
use Rattle.acl_edit.specs.Laws.{given, has_entry, set_at, left_at, loses_mask, mask_after}
use Rattle.acl_edit.specs.Changes.{Change}
use Rattle.acl_edit.proofs.Given.{get-modify, get-remove, get-masked}
use Rattle.acl_edit.proofs.Shown.{tied}
use Rattle.acl_edit.proofs.Stripped.{only}

-- ---- the steps at one key

pub get-replace : (x : Bool) (p : Part) (m : KeyMap) (k : Key) → maps.get (replace x p.set m) k ≡ set_at x p k (maps.get m k)
get-replace x p m k = by_set p.set
  where
    by_set : (specs : List Spec) → maps.get (replace x specs m) k ≡ (if is_given specs then given x k specs else maps.get m k)
    by_set [] = refl
    by_set (s ∷ specs) = get-modify x (s ∷ specs) maps.empty k ∙ ap (or_else (given x k (s ∷ specs))) (maps.get-empty key_cmp k) ∙ only (given x k (s ∷ specs))

pub get-worked : (x : Bool) (p : Part) (m : KeyMap) (k : Key) → maps.get (worked x p m) k ≡ left_at x p k (maps.get m k)
unfolding worked
get-worked x p m k =
    get-modify x p.modify (remove p.remove (replace x p.set m)) k
    ∙ ap (or_else (given x k p.modify)) (get-remove p.remove (replace x p.set m) k ∙ ap (λ o. if has_entry k p.remove then None else o) (get-replace x p m k))

-- ---- base entries that are copied

get-fill_one : (other m : KeyMap) (q k : Key) → maps.get (fill_one other m q) k ≡ cond (same_key k q) (or_else (maps.get m q) (maps.get other q)) (maps.get m k)
get-fill_one other m q k = by_list (maps.get m q) refl (maps.get other q)
  where
    stays : (b : Bool) → same_key k q ≡ b → (o : Option Perms) → maps.get m q ≡ o → maps.get m k ≡ cond b o (maps.get m k)
    stays true e o is = ap (maps.get m) (tied k q e) ∙ is
    stays false e o is = refl

    by_list : (o : Option Perms) → maps.get m q ≡ o → (r : Option Perms) → maps.get (if is_some o then m else put_some m q r) k ≡ cond (same_key k q) (or_else o r) (maps.get m k)
    by_list (Some s) is r = stays (same_key k q) refl (Some s) is
    by_list None is None = stays (same_key k q) refl None is
    by_list None is (Some t) = maps.get-insert key_total m q t k

pub get-fill_all : (other m : KeyMap) (k : Key) → maps.get (fill_from other m) k ≡ (if is_base k then or_else (maps.get m k) (maps.get other k) else maps.get m k)
get-fill_all other m Owner = get-fill_one other _ Other Owner ∙ get-fill_one other _ OwningGroup Owner ∙ get-fill_one other m Owner Owner
get-fill_all other m (User id) = get-fill_one other _ Other (User id) ∙ get-fill_one other _ OwningGroup (User id) ∙ get-fill_one other m Owner (User id)
get-fill_all other m OwningGroup =
    get-fill_one other _ Other OwningGroup ∙ get-fill_one other _ OwningGroup OwningGroup
    ∙ ap (λ o. or_else o (maps.get other OwningGroup)) (get-fill_one other m Owner OwningGroup)
get-fill_all other m (Group id) = get-fill_one other _ Other (Group id) ∙ get-fill_one other _ OwningGroup (Group id) ∙ get-fill_one other m Owner (Group id)
get-fill_all other m Mask = get-fill_one other _ Other Mask ∙ get-fill_one other _ OwningGroup Mask ∙ get-fill_one other m Owner Mask
get-fill_all other m Other =
    get-fill_one other _ Other Other
    ∙ ap (λ o. or_else o (maps.get other Other)) (get-fill_one other _ OwningGroup Other ∙ get-fill_one other m Owner Other)

-- ---- a mask is of no class, and names nobody

abbrev entry_of : Key × Perms → Entry
entry_of p = record { key = p.0; perm = p.1 }

abbrev of_class : List (Key × Perms) → List Entry
of_class ps = filter in_class (map entry_of ps)

abbrev some_named : List (Key × Perms) → Bool
some_named ps = list_any (λ e. is_named e.key) (map entry_of ps)

class_put : (v : Perms) (ps : List (Key × Perms)) → of_class (maps.put key_cmp Mask v ps) ≡ of_class ps
class_put v [] = refl
class_put v ((k, s) ∷ ps) = by_place (class_put v ps) (key_cmp Mask k) refl
  where
    by_place : of_class (maps.put key_cmp Mask v ps) ≡ of_class ps → (o : Ordering) → key_cmp Mask k ≡ o
        → of_class (by_order o ((Mask, v) ∷ (k, s) ∷ ps) ((k, v) ∷ ps) ((k, s) ∷ maps.put key_cmp Mask v ps)) ≡ of_class ((k, s) ∷ ps)
    by_place rest Less e = refl
    by_place rest Equal e =
        let none : is_class k ≡ false = ap is_class (sym (exact_keys Mask k e)) in
        ap (λ b. cond b (entry_of (k, v) ∷ of_class ps) (of_class ps)) none ∙ sym (ap (λ b. cond b (entry_of (k, s) ∷ of_class ps) (of_class ps)) none)
    by_place rest Greater e = ap (λ z. cond (is_class k) (entry_of (k, s) ∷ z) z) rest

named_put : (v : Perms) (ps : List (Key × Perms)) → some_named (maps.put key_cmp Mask v ps) ≡ some_named ps
named_put v [] = refl
named_put v ((k, s) ∷ ps) = by_place (named_put v ps) (key_cmp Mask k)
  where
    by_place : some_named (maps.put key_cmp Mask v ps) ≡ some_named ps → (o : Ordering)
        → some_named (by_order o ((Mask, v) ∷ (k, s) ∷ ps) ((k, v) ∷ ps) ((k, s) ∷ maps.put key_cmp Mask v ps)) ≡ some_named ((k, s) ∷ ps)
    by_place rest Less = refl
    by_place rest Equal = refl
    by_place rest Greater = ap (λ z. is_named k || z) rest

union-insert : (m : KeyMap) (v : Perms) → class_union (maps.insert m Mask v) ≡ class_union m
union-insert m v = ap (λ ps. union_all (map perm_of_entry (of_class ps))) (maps.entries-insert key_total m Mask v) ∙ ap (λ es. union_all (map perm_of_entry es)) (class_put v (maps.entries m))

named-insert : (m : KeyMap) (v : Perms) → has_named (maps.insert m Mask v) ≡ has_named m
named-insert m v = ap some_named (maps.entries-insert key_total m Mask v) ∙ named_put v (maps.entries m)

-- what does not see the mask does not see that it is completed
module _ {A : Type 0} (f : KeyMap → A) (blind : (m : KeyMap) (v : Perms) → f (maps.insert m Mask v) ≡ f m) where
  chosen : (b : Bool) (u m : KeyMap) → f u ≡ f m → f (if b then u else m) ≡ f m
  chosen true u m h = h
  chosen false u m h = refl

  put_blind : (m : KeyMap) (o : Option Perms) → f (put_some m Mask o) ≡ f m
  put_blind m None = refl
  put_blind m (Some v) = blind m v

  masked_blind : (lost : Bool) (m : KeyMap) → f (if lost then m else add_mask m) ≡ f m
  masked_blind true m = refl
  masked_blind false m = chosen (has_named m && not (has_mask m)) (put_some m Mask (maps.get m OwningGroup)) m (put_blind m (maps.get m OwningGroup))

  with_mask_blind : (c : Change) (p : Part) (lost : Bool) (m : KeyMap) → f (with_mask c p lost m) ≡ f m
  with_mask_blind c p lost m =
      let masked = if lost then m else add_mask m in
      chosen (is_recalculated c p) (recalculate masked) masked (chosen (has_mask masked) (maps.insert masked Mask (class_union masked)) masked (blind masked (class_union masked)))
      ∙ masked_blind lost m

-- ---- the mask

-- the present mask, or else one that is made
abbrev made : Bool → KeyMap → Option Perms
made lost m = or_else (maps.get m Mask) (if has_named m && not lost then maps.get m OwningGroup else None)

get-made : (lost : Bool) (m : KeyMap) → maps.get (if lost then m else add_mask m) Mask ≡ made lost m
get-made lost m = by_mask lost (has_named m) (maps.get m Mask) refl
  where
    put_mask : (o : Option Perms) → maps.get m Mask ≡ None → maps.get (put_some m Mask o) Mask ≡ o
    put_mask None none = none
    put_mask (Some v) none = maps.get-insert key_total m Mask v Mask

    by_mask : (lost named : Bool) (o : Option Perms) → maps.get m Mask ≡ o
        → maps.get (if lost then m else (if named && not (is_some o) then put_some m Mask (maps.get m OwningGroup) else m)) Mask
        ≡ or_else o (if named && not lost then maps.get m OwningGroup else None)
    by_mask true named (Some s) e = e
    by_mask false true (Some s) e = e
    by_mask false false (Some s) e = e
    by_mask true true None e = e
    by_mask true false None e = e
    by_mask false true None e = put_mask (maps.get m OwningGroup) e
    by_mask false false None e = e

get-recalculated : (m : KeyMap) → maps.get (recalculate m) Mask ≡ option_map (λ _. class_union m) (maps.get m Mask)
get-recalculated m = by_mask (maps.get m Mask) refl
  where
    by_mask : (o : Option Perms) → maps.get m Mask ≡ o → maps.get (if is_some o then maps.insert m Mask (class_union m) else m) Mask ≡ option_map (λ _. class_union m) o
    by_mask None e = e
    by_mask (Some s) e = maps.get-insert key_total m Mask (class_union m) Mask

get-mask : (c : Change) (p : Part) (lost : Bool) (m : KeyMap) → maps.get (with_mask c p lost m) Mask ≡ (if is_recalculated c p then option_map (λ _. class_union m) (made lost m) else made lost m)
get-mask c p lost m = by_again (is_recalculated c p)
  where
    by_again : (b : Bool) → maps.get (if b then recalculate (if lost then m else add_mask m) else (if lost then m else add_mask m)) Mask
        ≡ (if b then option_map (λ _. class_union m) (made lost m) else made lost m)
    by_again true =
        get-recalculated (if lost then m else add_mask m)
        ∙ (λ i. option_map (λ _. masked_blind class_union union-insert lost m i) (get-made lost m i))
    by_again false = get-made lost m

-- ---- a mask that the line takes out

pub mask_key : (k : Key) → is_mask k ≡ same_key Mask k
mask_key Owner = refl
mask_key (User id) = refl
mask_key OwningGroup = refl
mask_key (Group id) = refl
mask_key Mask = refl
mask_key Other = refl

pub loses : (x : Bool) (p : Part) (m : KeyMap) → takes_mask p (replace x p.set m) ≡ loses_mask x p (maps.get m Mask)
loses x p m = λ i. is_some (get-replace x p m Mask i) && list_any (λ (s : Spec). mask_key s.key i) p.remove

-- the mask of a list that is completed, from the list that it becomes
pub get-mask_after : (x : Bool) (c : Change) (p : Part) (lost : Bool) (had : Option Perms) (m : KeyMap) → lost ≡ loses_mask x p had → maps.get m Mask ≡ left_at x p Mask had
    → maps.get (with_mask c p lost m) Mask ≡ mask_after x c p had (with_mask c p lost m)
get-mask_after x c p lost had m takes is_present =
    let new = with_mask c p lost m in
    let class = sym (with_mask_blind class_union union-insert c p lost m) in
    let named = sym (with_mask_blind has_named named-insert c p lost m) in
    let owning = sym (get-masked c p lost m OwningGroup refl) in
    get-mask c p lost m
    ∙ (λ i. if is_recalculated c p then option_map (λ _. class i) (or_else (is_present i) (if named i && not (takes i) then owning i else None))
    else or_else (is_present i) (if named i && not (takes i) then owning i else None))
