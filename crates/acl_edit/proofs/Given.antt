-- What a line gives the keys that it modifies.
use Rattle.std.proofs.Common.{◌≡◌, Bool, true, false, cond, if◌then◌else◌, not, ◌&&◌, ◌||◌, List, [], ◌∷◌, Option, Some, None, is_some, option_map, refl, sym, ap, ◌∙◌}
use Rattle.std.specs.FinMap as maps
use Rattle.acl_entry.specs.Perms.{Perms}
use Rattle.acl_entry.specs.Keys.{same_key}
use Rattle.acl_entry.specs.Lists.{KeyMap, class_union, or_else}
use Rattle.acl_entry.specs.declared.entry.Key.{Key}
use Rattle.acl_entry.specs.declared.entry.Key.TheVariants.{Owner, User, OwningGroup, Group, Mask, Other}
use Rattle.acl_entry.proofs.KeyLaws.{key_total}
use Rattle.acl_entry.proofs.Basics.{and_false, or_true, first_false, second_false}
use Rattle.acl_text.specs.declared.entries.Spec.{Spec}
use Rattle.acl_edit.specs.Parts.{Part, is_given, is_mask, names, puts}
use Rattle.acl_edit.specs.Steps.{perms_of, remove, replace, modify, put_some, fill_one, fill_from}
use Rattle.acl_edit.specs.Masks.{has_mask, has_named, add_mask, recalculate, is_recalculated, with_mask}
use Rattle.acl_edit.specs.Laws.{last_for, given, has_entry, left_at}
use Rattle.acl_edit.proofs.Shown.{tied}
use Rattle.acl_edit.specs.Changes.{Change}

-- ---- modified entries

given_once : (b : Bool) (x : Bool) (s : Spec) (later : Option Spec) (o : Option Perms)
    → or_else (option_map (λ (t : Spec). perms_of x t.perm) later) (cond b (Some (perms_of x s.perm)) o)
    ≡ or_else (option_map (λ (t : Spec). perms_of x t.perm) (or_else later (cond b (Some s) None))) o
given_once b x s (Some t) o = refl
given_once true x s None o = refl
given_once false x s None o = refl

pub get-modify : (x : Bool) (specs : List Spec) (m : KeyMap) (k : Key)
    → maps.get (modify x specs m) k ≡ or_else (option_map (λ (s : Spec). perms_of x s.perm) (last_for k specs)) (maps.get m k)
get-modify x [] m k = refl
get-modify x (s ∷ specs) m k =
    get-modify x specs (maps.insert m s.key (perms_of x s.perm)) k
    ∙ ap (or_else (option_map (λ (t : Spec). perms_of x t.perm) (last_for k specs))) (maps.get-insert key_total m s.key (perms_of x s.perm) k)
    ∙ given_once (same_key k s.key) x s (last_for k specs) (maps.get m k)

-- ---- the mask touches no other key

only_mask : (k : Key) → is_mask k ≡ false → same_key k Mask ≡ false
only_mask Owner h = refl
only_mask (User id) h = refl
only_mask OwningGroup h = refl
only_mask (Group id) h = refl
only_mask Mask h = cc
only_mask Other h = refl

get-insert_mask : (m : KeyMap) (v : Perms) (k : Key) → is_mask k ≡ false → maps.get (maps.insert m Mask v) k ≡ maps.get m k
get-insert_mask m v k h = maps.get-insert key_total m Mask v k ∙ ap (λ b. cond b (Some v) (maps.get m k)) (only_mask k h)

get-put_mask : (m : KeyMap) (o : Option Perms) (k : Key) → is_mask k ≡ false → maps.get (put_some m Mask o) k ≡ maps.get m k
get-put_mask m None k h = refl
get-put_mask m (Some v) k h = get-insert_mask m v k h

if_same : (b : Bool) (u m : KeyMap) (k : Key) → maps.get u k ≡ maps.get m k → maps.get (if b then u else m) k ≡ maps.get m k
if_same true u m k h = h
if_same false u m k h = refl

get-add_mask : (m : KeyMap) (k : Key) (s : Perms) → maps.get m k ≡ Some s → maps.get (add_mask m) k ≡ maps.get m k
get-add_mask m Owner s h = if_same _ (put_some m Mask (maps.get m OwningGroup)) m Owner (get-put_mask m _ Owner refl)
get-add_mask m (User id) s h = if_same _ (put_some m Mask (maps.get m OwningGroup)) m (User id) (get-put_mask m _ (User id) refl)
get-add_mask m OwningGroup s h = if_same _ (put_some m Mask (maps.get m OwningGroup)) m OwningGroup (get-put_mask m _ OwningGroup refl)
get-add_mask m (Group id) s h = if_same _ (put_some m Mask (maps.get m OwningGroup)) m (Group id) (get-put_mask m _ (Group id) refl)
get-add_mask m Mask s h = ap (λ b. maps.get (if has_named m && not b then put_some m Mask (maps.get m OwningGroup) else m) Mask) (ap is_some h)
    ∙ ap (λ b. maps.get (if b then put_some m Mask (maps.get m OwningGroup) else m) Mask) (and_false (has_named m))
get-add_mask m Other s h = if_same _ (put_some m Mask (maps.get m OwningGroup)) m Other (get-put_mask m _ Other refl)

get-recalculate : (m : KeyMap) (k : Key) → is_mask k ≡ false → maps.get (recalculate m) k ≡ maps.get m k
get-recalculate m k h = if_same (has_mask m) (maps.insert m Mask (class_union m)) m k (get-insert_mask m (class_union m) k h)

pub get-with_mask : (c : Change) (p : Part) (lost : Bool) (m : KeyMap) (k : Key) (s : Perms) → maps.get m k ≡ Some s → (is_mask k && is_recalculated c p) ≡ false
    → maps.get (with_mask c p lost m) k ≡ Some s
get-with_mask c p lost m k s h stays = by_again (is_recalculated c p) stays ∙ masked lost
  where
    masked : (b : Bool) → maps.get (if b then m else add_mask m) k ≡ Some s
    masked true = h
    masked false = get-add_mask m k s h ∙ h

    not_mask : (b : Bool) → (b && true) ≡ false → b ≡ false
    not_mask true e = cc
    not_mask false e = refl

    by_again : (b : Bool) → (is_mask k && b) ≡ false → maps.get
        (if b then recalculate (if lost then m else add_mask m) else (if lost then m else add_mask m)) k ≡ maps.get (if lost then m else add_mask m) k
    by_again true e = get-recalculate (if lost then m else add_mask m) k (not_mask (is_mask k) e)
    by_again false e = refl

-- ---- copied base entries touch no key that is present

get-fill_one : (other m : KeyMap) (q k : Key) (s : Perms) → maps.get m k ≡ Some s → maps.get (fill_one other m q) k ≡ Some s
get-fill_one other m q k s h = by_test (is_some (maps.get m q)) refl
  where
    none_of : (o : Option Perms) → is_some o ≡ false → o ≡ None
    none_of None e = refl
    none_of (Some t) e = cc

    apart : (b : Bool) → same_key k q ≡ b → is_some (maps.get m q) ≡ false → b ≡ false
    apart true e none = let same = ap (maps.get m) (tied k q e) in let gone = none_of (maps.get m q) none in cc
    apart false e none = refl

    by_put : (o : Option Perms) → is_some (maps.get m q) ≡ false → maps.get (put_some m q o) k ≡ Some s
    by_put None none = h
    by_put (Some t) none = maps.get-insert key_total m q t k ∙ ap (λ b. cond b (Some t) (maps.get m k)) (apart (same_key k q) refl none) ∙ h

    by_test : (b : Bool) → is_some (maps.get m q) ≡ b → maps.get (if b then m else put_some m q (maps.get other q)) k ≡ Some s
    by_test true e = h
    by_test false e = by_put (maps.get other q) e

pub get-fill_from : (other m : KeyMap) (k : Key) (s : Perms) → maps.get m k ≡ Some s → maps.get (fill_from other m) k ≡ Some s
get-fill_from other m k s h =
    get-fill_one other _ Other k s (get-fill_one other _ OwningGroup k s (get-fill_one other m Owner k s h))

-- ---- a line that modifies a key names the list

gives_some : (specs : List Spec) (k : Key) (s : Spec) → last_for k specs ≡ Some s → is_given specs ≡ true
gives_some [] k s h = cc
gives_some (t ∷ specs) k s h = refl

pub puts_some : (p : Part) (k : Key) (s : Spec) → last_for k p.modify ≡ Some s → puts p ≡ true
puts_some p k s h = ap (λ b. is_given p.set || b) (gives_some p.modify k s h) ∙ or_true (is_given p.set)

pub names_some : (p : Part) (k : Key) (s : Spec) → last_for k p.modify ≡ Some s → names p ≡ true
names_some p k s h = ap (λ b. is_given p.remove || b) (puts_some p k s h) ∙ or_true (is_given p.remove)

-- what the steps leave at a modified key
pub get-modified : (x : Bool) (specs : List Spec) (m : KeyMap) (k : Key) (s : Spec) → last_for k specs ≡ Some s → maps.get (modify x specs m) k ≡ Some (perms_of x s.perm)
get-modified x specs m k s h = get-modify x specs m k ∙ ap (λ o. or_else (option_map (λ (t : Spec). perms_of x t.perm) o) (maps.get m k)) h

-- ---- removed keys

gone_once : (b : Bool) (more : Bool) (o : Option Perms) → (if more then None else cond b None o) ≡ (if b || more then None else o)
gone_once true true o = refl
gone_once true false o = refl
gone_once false more o = refl

pub get-remove : (specs : List Spec) (m : KeyMap) (k : Key) → maps.get (remove specs m) k ≡ (if has_entry k specs then None else maps.get m k)
get-remove [] m k = refl
get-remove (s ∷ specs) m k =
    get-remove specs (maps.remove m s.key) k
    ∙ ap (λ o. if has_entry k specs then None else o) (maps.get-remove key_total m s.key k)
    ∙ gone_once (same_key k s.key) (has_entry k specs) (maps.get m k)

-- ---- a list key by key

not_replaced : (x : Bool) (specs : List Spec) (m : KeyMap) → is_given specs ≡ false → replace x specs m ≡ m
not_replaced x [] m h = refl
not_replaced x (s ∷ specs) m h = cc

pub get-steps : (x : Bool) (p : Part) (m : KeyMap) (k : Key) → is_given p.set ≡ false
    → maps.get (modify x p.modify (remove p.remove (replace x p.set m))) k ≡ or_else (given x k p.modify) (if has_entry k p.remove then None else maps.get m k)
get-steps x p m k h =
    get-modify x p.modify (remove p.remove (replace x p.set m)) k
    ∙ ap (or_else (given x k p.modify)) (get-remove p.remove (replace x p.set m) k ∙ ap (λ z. if has_entry k p.remove then None else maps.get z k) (not_replaced x p.set m h))

-- the mask touches no other key
pub get-masked : (c : Change) (p : Part) (lost : Bool) (m : KeyMap) (k : Key) → is_mask k ≡ false → maps.get (with_mask c p lost m) k ≡ maps.get m k
get-masked c p lost m k h =
    if_same (is_recalculated c p) (recalculate (if lost then m else add_mask m)) (if lost then m else add_mask m) k (get-recalculate (if lost then m else add_mask m) k h)
    ∙ by_lost lost
  where
    added : maps.get (add_mask m) k ≡ maps.get m k
    added = if_same (has_named m && not (has_mask m)) (put_some m Mask (maps.get m OwningGroup)) m k (get-put_mask m (maps.get m OwningGroup) k h)

    by_lost : (b : Bool) → maps.get (if b then m else add_mask m) k ≡ maps.get m k
    by_lost true = refl
    by_lost false = added

-- a list that is not named has neither modified nor removed entries
none_given : (specs : List Spec) → is_given specs ≡ false → specs ≡ []
none_given [] h = refl
none_given (s ∷ specs) h = cc

pub unnamed_key : (x : Bool) (p : Part) (m : KeyMap) (k : Key) → names p ≡ false
    → maps.get m k ≡ or_else (given x k p.modify) (if has_entry k p.remove then None else maps.get m k)
unnamed_key x p m k h =
    let removed = none_given p.remove (first_false (is_given p.remove) (puts p) h) in
    let modified = none_given p.modify (second_false (is_given p.set) (is_given p.modify) (second_false (is_given p.remove) (puts p) h)) in
    λ i. or_else (given x k (sym modified i)) (if has_entry k (sym removed i) then None else maps.get m k)

pub unnamed_left : (x : Bool) (p : Part) (k : Key) (had : Option Perms) → names p ≡ false → had ≡ left_at x p k had
unnamed_left x p k had h =
    let put = second_false (is_given p.remove) (puts p) h in
    let removed = none_given p.remove (first_false (is_given p.remove) (puts p) h) in
    let set = none_given p.set (first_false (is_given p.set) (is_given p.modify) put) in
    let modified = none_given p.modify (second_false (is_given p.set) (is_given p.modify) put) in
    λ i. or_else (given x k (sym modified i)) (if has_entry k (sym removed i) then None else if is_given (sym set i) then given x k (sym set i) else had)
