-- The entries that decide on a user are the check.
use Rattle.std.proofs.Common.{◌≡◌, ◌==◌, ℕ, Bool, true, false, cond, not, ◌||◌, ◌&&◌, eqb, List, [], ◌∷◌, map, filter, Option, Some, None, option_map, is_some}
use Rattle.std.proofs.Common.{unwrap_or, Ordering, Less, Equal, Greater, refl, sym, ap, ◌∙◌}
use Rattle.std.specs.Prelude.{nat_lt, length}
use Rattle.std.specs.List.{list_any}
use Rattle.std.specs.Option.{option_map_or}
use Rattle.std.specs.Ordering.{is_eq, is_lt}
use Rattle.std.specs.FinMap as maps
use Rattle.std.specs.FinSet as sets
use Rattle.std.specs.FinMap.Entries.{below_all}
use Rattle.std.proofs.lemmas.Bool.{and_parts}
use Rattle.acl_names.proofs.Basics.{and_false, is_equal, or_false}
use Rattle.acl_entry.specs.Check.{check, is_for, some_entry_grants}
use Rattle.acl_entry.specs.Keys.{key_cmp, same_key, is_class}
use Rattle.acl_entry.specs.Lists.{KeyMap, IsValid, entries, keys, is_among, missing_base, unmasked, repeated, most_entries, or_else, perm_at, masked, masked_by}
use Rattle.acl_entry.specs.Linux.{check_mode, has_empty_mask, linux_check}
use Rattle.acl_entry.specs.Perms.{Perms, none, contains, number}
use Rattle.acl_entry.specs.Person.{Person}
use Rattle.acl_entry.specs.declared.entry.Entry.{Entry}
use Rattle.acl_entry.specs.declared.entry.ListFault.TheVariants.{TooLong, Repeated, MissingBase, MissingMask}
use Rattle.acl_entry.specs.declared.entry.Key.{Key}
use Rattle.acl_entry.specs.declared.entry.Key.TheVariants.{Owner, User, OwningGroup, Group, Mask, Other}
use Rattle.acl_entry.specs.declared.label.Label.{Label}
use Rattle.acl_entry.proofs.Faults.{is_among-keys}
use Rattle.acl_entry.proofs.KeyLaws.{exact_keys}
use Rattle.acl_entry.proofs.Maps.{get-map_of, map_of-entries}
use Rattle.acl_entry.proofs.Basics.{from_T}
use Rattle.acl_rights.specs.Deciders.{linux_sole_key, mode_key, sole_key}
use Rattle.facl_answers.specs.WhyText.{perms_listed, some_decides}

-- ---- the entry of a key

below_apart : (o : Ordering) → is_lt o ≡ true → is_eq o ≡ false
below_apart Less h = refl
below_apart Equal h = cc
below_apart Greater h = cc

abbrev entry_of : Key × Perms → Entry
entry_of p = record { key = p.0; perm = p.1 }

module _ (k : Key) where
  -- no entry after a key is that of the key
  none_after : (ps : List (Key × Perms)) → below_all key_cmp k ps ≡ true → filter (λ (e : Entry). same_key k e.key) (map entry_of ps) ≡ []
  none_after [] h = refl
  none_after (p ∷ ps) h =
      let parts = and_parts (is_lt (key_cmp k p.0)) (below_all key_cmp k ps) h in
      let rest = filter (λ (e : Entry). same_key k e.key) (map entry_of ps) in
      ap (λ b. cond b (entry_of p ∷ rest) rest) (below_apart (key_cmp k p.0) parts.0) ∙ none_after ps parts.1

  module _ (g : Entry → Bool) where
    -- at most one entry is that of the key
    at_most_one : (ps : List (Key × Perms)) → maps.is_sorted key_cmp ps ≡ true
        → list_any g (filter (λ (e : Entry). same_key k e.key) (map entry_of ps)) ≡ option_map_or (λ s. g (entry_of (k, s))) (maps.find key_cmp k ps) false
    at_most_one [] h = refl
    at_most_one (p ∷ ps) h = by (same_key k p.0) refl (at_most_one ps parts.1)
      where
        parts : (below_all key_cmp p.0 ps ≡ true) × (maps.is_sorted key_cmp ps ≡ true)
        parts = and_parts (below_all key_cmp p.0 ps) (maps.is_sorted key_cmp ps) h

        by : (b : Bool) → same_key k p.0 ≡ b
            → list_any g (filter (λ (e : Entry). same_key k e.key) (map entry_of ps)) ≡ option_map_or (λ s. g (entry_of (k, s))) (maps.find key_cmp k ps) false
            → list_any g (cond b (entry_of p ∷ filter (λ (e : Entry). same_key k e.key) (map entry_of ps)) (filter (λ (e : Entry). same_key k e.key) (map entry_of ps)))
            ≡ option_map_or (λ s. g (entry_of (k, s))) (cond b (Some p.1) (maps.find key_cmp k ps)) false
        by true is rest =
            let at : k ≡ p.0 = exact_keys k p.0 (is_equal (key_cmp k p.0) is) in
            ap (λ es. g (entry_of p) || list_any g es) (none_after ps (ap (λ x. below_all key_cmp x ps) at ∙ parts.0))
            ∙ or_false (g (entry_of p)) ∙ ap (λ x. g (entry_of (x, p.1))) (sym at)
        by false is rest = rest

  -- a test of the entry of the key
  only : (m : KeyMap) (g : Entry → Bool) → list_any g (filter (λ (e : Entry). same_key k e.key) (entries m)) ≡ option_map_or (λ s. g (entry_of (k, s))) (maps.get m k) false
  only m g = at_most_one g (maps.entries m) (from_T (maps.is_sorted key_cmp (maps.entries m)) (maps.entries_sorted m))
      ∙ ap (λ o. option_map_or (λ s. g (entry_of (k, s))) o false) (sym (maps.get-entries m k))

-- ---- valid lists

no_base_missing : (long : Bool) (again : Option ℕ) (base : Option Key) (bare : Option ℕ)
    → cond long (Some TooLong) (or_else (option_map Repeated again) (or_else (option_map MissingBase base) (option_map MissingMask bare))) ≡ None → base ≡ None
no_base_missing true again base bare h = cc
no_base_missing false (Some at) base bare h = cc
no_base_missing false None (Some k) bare h = cc
no_base_missing false None None bare h = refl

all_there : (a b c : Bool) → cond (not a) (Some Owner) (cond (not b) (Some OwningGroup) (cond (not c) (Some Other) None)) ≡ None → (a ≡ true) × ((b ≡ true) × (c ≡ true))
all_there false b c h = cc
all_there true false c h = cc
all_there true true false h = cc
all_there true true true h = (refl, (refl, refl))

module _ (m : KeyMap) (valid : IsValid m) where
  at_key : (k : Key) → is_among k (keys (entries m)) ≡ is_some (maps.get m k)
  at_key k = is_among-keys k (entries m) ∙ ap is_some (sym (get-map_of (entries m) k) ∙ ap (λ n. maps.get n k) (map_of-entries m))

  there : (is_among Owner (keys (entries m)) ≡ true) × ((is_among OwningGroup (keys (entries m)) ≡ true) × (is_among Other (keys (entries m)) ≡ true))
  there =
      let ks = keys (entries m) in
      all_there (is_among Owner ks) (is_among OwningGroup ks) (is_among Other ks)
      (no_base_missing (nat_lt most_entries (length ks)) (repeated ks) (missing_base ks) (unmasked ks) valid)

  owner_there : is_some (maps.get m Owner) ≡ true
  owner_there = sym (at_key Owner) ∙ there.0

  group_there : is_some (maps.get m OwningGroup) ≡ true
  group_there = sym (at_key OwningGroup) ∙ there.1.0

  other_there : is_some (maps.get m Other) ≡ true
  other_there = sym (at_key Other) ∙ there.1.1

-- ---- the check

in_class : (u : Person) (owning : ℕ) (e : Entry) → is_for u owning e ≡ true → is_class e.key ≡ true
in_class u owning e h = by e.key h
  where
    by : (k : Key) → is_for u owning (record { key = k; perm = e.perm }) ≡ true → is_class k ≡ true
    by Owner h = cc
    by (User id) h = refl
    by OwningGroup h = refl
    by (Group id) h = refl
    by Mask h = cc
    by Other h = cc

module _ (u : Person) (f : Label) (q : Perms) where
  abbrev grants : Entry → Bool
  grants e = contains (perms_listed f.acl e) q

  alone : (o : Option Perms) → is_some o ≡ true → contains (unwrap_or o none) q ≡ option_map_or (λ s. contains s q) o false
  alone None h = cc
  alone (Some s) h = refl

  in_groups : (es : List Entry) → some_entry_grants u f.group (maps.get f.acl Mask) es q ≡ list_any grants (filter (is_for u f.group) es)
  in_groups [] = refl
  in_groups (e ∷ es) = by (is_for u f.group e) refl (in_groups es)
    where
      by : (b : Bool) → is_for u f.group e ≡ b → some_entry_grants u f.group (maps.get f.acl Mask) es q ≡ list_any grants (filter (is_for u f.group) es)
          → ((b && contains (masked_by (maps.get f.acl Mask) e.perm) q) || some_entry_grants u f.group (maps.get f.acl Mask) es q)
          ≡ list_any grants (cond b (e ∷ filter (is_for u f.group) es) (filter (is_for u f.group) es))
      by true is rest = let group : true ≡ is_class e.key = sym (in_class u f.group e is) in (λ i. contains (cond (group i) (masked f.acl e.perm) e.perm) q || rest i)
      by false is rest = rest

  -- a request is granted exactly if an entry that decides contains it
  pub decided : IsValid f.acl → check u f q ≡ some_decides sole_key u f q
  decided valid = by (eqb u.uid f.owner) (maps.get f.acl (User u.uid)) refl (list_any (is_for u f.group) (entries f.acl))
    where
      by : (owns : Bool) (o : Option Perms) → maps.get f.acl (User u.uid) ≡ o → (matched : Bool)
          → cond owns (contains (perm_at f.acl Owner) q)
          (option_map_or (λ s. contains (masked f.acl s) q) o (cond matched (some_entry_grants u f.group (maps.get f.acl Mask) (entries f.acl) q) (contains (perm_at f.acl Other) q)))
          ≡ list_any grants
          (filter (λ (e : Entry). option_map_or (λ k. same_key k e.key) (cond owns (Some Owner) (cond (is_some o) (Some (User u.uid)) (cond matched None (Some Other))))
          (is_for u f.group e)) (entries f.acl))
      by true o is matched = alone (maps.get f.acl Owner) (owner_there f.acl valid) ∙ sym (only Owner f.acl grants)
      by false (Some s) is matched = sym (only (User u.uid) f.acl grants ∙ ap (λ x. option_map_or (λ s. contains (masked f.acl s) q) x false) is)
      by false None is true = in_groups (entries f.acl)
      by false None is false = alone (maps.get f.acl Other) (other_there f.acl valid) ∙ sym (only Other f.acl grants)

  -- ---- what Linux grants

  -- nothing is left under a mask that grants nothing
  under_empty : (mask : Option Perms) → option_map_or (λ s. number s == 0) mask false ≡ true → (s : Perms) → masked_by mask s ≡ none
  under_empty None h s = cc
  under_empty (Some m) h s = by m.read m.write m.execute h
    where
      by : (r w x : Bool) → (number (record { read = r; write = w; execute = x }) == 0) ≡ true → masked_by (Some (record { read = r; write = w; execute = x })) s ≡ none
      by true true true h = cc
      by true true false h = cc
      by true false true h = cc
      by true false false h = cc
      by false true true h = cc
      by false true false h = cc
      by false false true h = cc
      by false false false h = λ i. record { read = and_false s.read i; write = and_false s.write i; execute = and_false s.execute i }

  -- the entry of the owning group, under such a mask
  in_group : has_empty_mask f.acl ≡ true → (o : Option Perms) → is_some o ≡ true → contains none q ≡ option_map_or (λ s. contains (masked f.acl s) q) o false
  in_group empty None there = cc
  in_group empty (Some s) there = ap (λ t. contains t q) (sym (under_empty (maps.get f.acl Mask) empty s))

  by_mode : IsValid f.acl → has_empty_mask f.acl ≡ true → check_mode u f q ≡ some_decides mode_key u f q
  by_mode valid empty = by (eqb u.uid f.owner) (sets.contains u.groups f.group)
    where
      by : (owns is_member : Bool)
          → cond owns (contains (perm_at f.acl Owner) q) (cond is_member (contains none q) (contains (perm_at f.acl Other) q))
          ≡ list_any grants
          (filter (λ (e : Entry). option_map_or (λ k. same_key k e.key) (cond owns (Some Owner) (cond is_member (Some OwningGroup) (Some Other))) (is_for u f.group e)) (entries f.acl))
      by true is_member = alone (maps.get f.acl Owner) (owner_there f.acl valid) ∙ sym (only Owner f.acl grants)
      by false true = in_group empty (maps.get f.acl OwningGroup) (group_there f.acl valid) ∙ sym (only OwningGroup f.acl grants)
      by false false = alone (maps.get f.acl Other) (other_there f.acl valid) ∙ sym (only Other f.acl grants)

  -- a request is granted by Linux exactly if an entry that decides under it contains it
  pub decided_by_linux : IsValid f.acl → linux_check u f q ≡ some_decides linux_sole_key u f q
  decided_by_linux valid = by (has_empty_mask f.acl) refl
    where
      by : (empty : Bool) → has_empty_mask f.acl ≡ empty
          → cond empty (check_mode u f q) (check u f q)
          ≡ list_any grants (filter (λ (e : Entry). option_map_or (λ k. same_key k e.key) (cond empty (mode_key u f) (sole_key u f)) (is_for u f.group e)) (entries f.acl))
      by true is = by_mode valid is
      by false is = decided valid
