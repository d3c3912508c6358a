-- The base entries alone, with what they grant.
use Rattle.std.proofs.Common.{◌≡◌, Bool, true, false, cond, Option, Some, None, refl, ap, ◌∙◌}
use Rattle.std.specs.FinMap as maps
use Rattle.acl_entry.specs.Perms.{Perms}
use Rattle.acl_entry.specs.Keys.{key_cmp, same_key, is_base}
use Rattle.acl_entry.specs.Lists.{KeyMap, effective, or_else}
use Rattle.acl_entry.specs.declared.entry.Key.{Key}
use Rattle.acl_entry.specs.declared.entry.Key.TheVariants.{Owner, User, OwningGroup, Group, Mask, Other}
use Rattle.acl_entry.proofs.KeyLaws.{key_total}
use Rattle.acl_edit.specs.Steps.{put_some, strip}

-- what a list has once an entry is put, if there is one
get-put_some : (m : KeyMap) (k : Key) (o : Option Perms) (q : Key) → maps.get (put_some m k o) q ≡ cond (same_key q k) (or_else o (maps.get m q)) (maps.get m q)
get-put_some m k None q = unchanged (same_key q k)
  where
    unchanged : (b : Bool) → maps.get m q ≡ cond b (maps.get m q) (maps.get m q)
    unchanged true = refl
    unchanged false = refl
get-put_some m k (Some s) q = maps.get-insert key_total m k s q

pub only : (o : Option Perms) → or_else o None ≡ o
only None = refl
only (Some s) = refl

module _ (a b c : Option Perms) where
  one : KeyMap
  one = put_some maps.empty Owner a

  two : KeyMap
  two = put_some (put_some maps.empty Owner a) OwningGroup b

  three : KeyMap
  three = put_some (put_some (put_some maps.empty Owner a) OwningGroup b) Other c

  get-three : (q : Key) → maps.get three q ≡ cond (same_key q Other) (or_else c (maps.get two q)) (maps.get two q)
  unfolding three two
  get-three q = get-put_some _ Other c q

  get-two : (q : Key) → maps.get two q ≡ cond (same_key q OwningGroup) (or_else b (maps.get one q)) (maps.get one q)
  unfolding two one
  get-two q = get-put_some _ OwningGroup b q

  get-one : (q : Key) → maps.get one q ≡ cond (same_key q Owner) (or_else a None) None
  unfolding one
  get-one q = get-put_some maps.empty Owner a q ∙ ap (λ o. cond (same_key q Owner) (or_else a o) o) (maps.get-empty key_cmp q)

  at_owner : maps.get three Owner ≡ a
  at_owner = get-three Owner ∙ get-two Owner ∙ get-one Owner ∙ only a

  at_group : maps.get three OwningGroup ≡ b
  at_group = get-three OwningGroup ∙ get-two OwningGroup ∙ ap (or_else b) (get-one OwningGroup) ∙ only b

  at_other : maps.get three Other ≡ c
  at_other = get-three Other ∙ ap (or_else c) (get-two Other ∙ get-one Other) ∙ only c

  nowhere_else : (q : Key) → is_base q ≡ false → maps.get three q ≡ None
  nowhere_else Owner h = cc
  nowhere_else (User id) h = get-three (User id) ∙ get-two (User id) ∙ get-one (User id)
  nowhere_else OwningGroup h = cc
  nowhere_else (Group id) h = get-three (Group id) ∙ get-two (Group id) ∙ get-one (Group id)
  nowhere_else Mask h = get-three Mask ∙ get-two Mask ∙ get-one Mask
  nowhere_else Other h = cc

strip-is : (m : KeyMap) → strip m ≡ three (effective m Owner) (effective m OwningGroup) (effective m Other)
unfolding three
strip-is m = refl

pub get-strip_base : (m : KeyMap) (q : Key) → is_base q ≡ true → maps.get (strip m) q ≡ effective m q
get-strip_base m Owner h = ap (λ z. maps.get z Owner) (strip-is m) ∙ at_owner _ _ _
get-strip_base m (User id) h = cc
get-strip_base m OwningGroup h = ap (λ z. maps.get z OwningGroup) (strip-is m) ∙ at_group _ _ _
get-strip_base m (Group id) h = cc
get-strip_base m Mask h = cc
get-strip_base m Other h = ap (λ z. maps.get z Other) (strip-is m) ∙ at_other _ _ _

pub get-strip_other : (m : KeyMap) (q : Key) → is_base q ≡ false → maps.get (strip m) q ≡ None
get-strip_other m q h = ap (λ z. maps.get z q) (strip-is m) ∙ nowhere_else _ _ _ q h
