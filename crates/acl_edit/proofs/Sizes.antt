-- How many entries the steps add.
use Rattle.std.proofs.Common.{◌≡◌, ℕ, ◌+◌, ◌-◌, ◌≤◌, Bool, true, false, cond, if◌then◌else◌, not, ◌&&◌, List, [], ◌∷◌, length, Option, Some, None, Result, Ok, Err, IsErrAnd, sym, ◌∙◌, arith}
use Rattle.std.proofs.lemmas.List.{length-map}
use Rattle.std.specs.FinMap as maps
use Rattle.acl_entry.specs.Perms.{Perms}
use Rattle.acl_entry.specs.Keys.{key_cmp}
use Rattle.acl_entry.specs.Lists.{KeyMap}
use Rattle.acl_entry.specs.declared.entry.Key.{Key}
use Rattle.acl_entry.specs.declared.entry.Key.TheVariants.{Owner, OwningGroup, Mask, Other}
use Rattle.acl_entry.proofs.KeyLaws.{key_total}
use Rattle.acl_text.specs.declared.entries.Spec.{Spec}
use Rattle.acl_edit.specs.Steps.{perms_of, put_some, remove, modify, replace, fill_one, fill_from}
use Rattle.acl_edit.specs.Masks.{has_mask, has_named, add_mask}
use Rattle.acl_edit.specs.Parts.{Part}
use Rattle.acl_edit.specs.Edits.{worked}
use Rattle.acl_edit.specs.Rooms.{LeavesIn, size, puts_of}

size-len : (m : KeyMap) → size m ≡ maps.len m
size-len m = length-map (maps.entries m) (λ (p : Key × Perms). record { key = p.0; perm = p.1 }) ∙ sym (maps.len-entries m)

pub size-empty : size maps.empty ≡ 0
size-empty = size-len maps.empty ∙ maps.len-empty key_cmp Perms

more : (b : Bool) (n : ℕ) → cond b n (n + 1) ≤ n + 1
more true n = omega arith
more false n = omega arith

fewer : (b : Bool) (n : ℕ) → cond b (n - 1) n ≤ n
fewer true n = omega arith
fewer false n = omega arith

pub size-insert : (m : KeyMap) (k : Key) (v : Perms) → size (maps.insert m k v) ≤ size m + 1
size-insert m k v = let grown = size-len (maps.insert m k v) ∙ maps.len-insert key_total m k v in
    omega (arith, grown, size-len m, more (maps.contains_key m k) (maps.len m))

pub size-put_some : (m : KeyMap) (k : Key) (o : Option Perms) → size (put_some m k o) ≤ size m + 1
size-put_some m k None = omega arith
size-put_some m k (Some v) = size-insert m k v

pub size-remove : (specs : List Spec) (m : KeyMap) → size (remove specs m) ≤ size m
size-remove [] m = omega arith
size-remove (s ∷ specs) m = let once = size-len (maps.remove m s.key) ∙ maps.len-remove key_total m s.key in
    omega (arith, once, size-len m, fewer (maps.contains_key m s.key) (maps.len m), size-remove specs (maps.remove m s.key))

pub size-modify : (x : Bool) (specs : List Spec) (m : KeyMap) → size (modify x specs m) ≤ size m + length specs
size-modify x [] m = omega arith
size-modify x (s ∷ specs) m = omega (arith, size-insert m s.key (perms_of x s.perm), size-modify x specs (maps.insert m s.key (perms_of x s.perm)))

pub size-replace : (x : Bool) (specs : List Spec) (m : KeyMap) → size (replace x specs m) ≤ size m + length specs
size-replace x [] m = omega arith
size-replace x (s ∷ specs) m = omega (arith, size-empty, size-modify x (s ∷ specs) maps.empty)

if_more : (b : Bool) (u m : KeyMap) → size u ≤ size m + 1 → size (if b then u else m) ≤ size m + 1
if_more true u m h = h
if_more false u m h = omega arith

pub size-fill_one : (other m : KeyMap) (k : Key) → size (fill_one other m k) ≤ size m + 1
size-fill_one other m k = by_test (maps.contains_key m k)
  where
    by_test : (b : Bool) → size (if b then m else put_some m k (maps.get other k)) ≤ size m + 1
    by_test true = omega arith
    by_test false = size-put_some m k (maps.get other k)

pub size-fill_from : (other m : KeyMap) → size (fill_from other m) ≤ size m + 3
size-fill_from other m =
    omega (arith, size-fill_one other m Owner, size-fill_one other (fill_one other m Owner) OwningGroup, size-fill_one other (fill_one other (fill_one other m Owner) OwningGroup) Other)

pub size-add_mask : (m : KeyMap) → size (add_mask m) ≤ size m + 1
size-add_mask m = if_more (has_named m && not (has_mask m)) (put_some m Mask (maps.get m OwningGroup)) m (size-put_some m Mask (maps.get m OwningGroup))

pub size-worked : (x : Bool) (p : Part) (m : KeyMap) → size (worked x p m) ≤ size m + puts_of p
unfolding worked
size-worked x p m =
    omega (arith, size-modify x p.modify (remove p.remove (replace x p.set m)), size-remove p.remove (replace x p.set m), size-replace x p.set m)

-- what is left in some room is left in more
pub leaves_in : {X F : Type 0} {Room More : Type 0} (result : Result X F) (new is same : KeyMap) → (More → Room) → is ≡ same → LeavesIn Room result new is → LeavesIn More result new same
leaves_in (Ok x) new is same room equal left = left ∙ equal
leaves_in (Err fault) new is same room equal left = λ more. left (room more)

-- a call that fails where there is room
pub none_left : {X F : Type 0} {Room : Type 0} (Q : F → Type 0) (result : Result X F) (new is : KeyMap) → IsErrAnd result Q → (Room → false ≡ true) → LeavesIn Room result new is
none_left Q (Ok x) new is failed room = absurd failed
none_left Q (Err fault) new is failed room = room
