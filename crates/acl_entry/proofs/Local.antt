-- The check asks for no other group than those that the label mentions.
use Rattle.std.proofs.Common.{ap}
use Rattle.std.specs.Prelude.{◌≡◌, ℕ, ◌==◌, ◌&&◌, ◌||◌, Bool, true, false, List, [], ◌∷◌, if◌then◌else◌, refl}
use Rattle.std.specs.List.{list_any, filter_map}
use Rattle.std.specs.Option.{option_map_or}
use Rattle.std.specs.FinMap as maps
use Rattle.std.specs.FinSet as sets
use Rattle.std.proofs.lemmas.Bool.{eq-eqb}
use Rattle.acl_entry.specs.Perms.{Perms, contains, none}
use Rattle.acl_entry.specs.Lists.{entries, perm_at, masked, masked_by}
use Rattle.acl_entry.specs.Linux.{check_mode, has_empty_mask, linux_check, linux_rights}
use Rattle.acl_entry.specs.Check.{is_for, group_of, check, byte_of, rights}
use Rattle.acl_entry.specs.Mentions.{named_group, named_groups, is_one_of, AgreeOn, AgreeOnMentions}
use Rattle.acl_entry.specs.Person.{Person}
use Rattle.acl_entry.specs.declared.entry.Key.{Key}
use Rattle.acl_entry.specs.declared.entry.Key.TheVariants.{Owner, User, OwningGroup, Group, Mask, Other}
use Rattle.acl_entry.specs.declared.entry.Entry.{Entry}
use Rattle.acl_entry.specs.declared.label.Label.{Label}

or_true : (a b : Bool) → b ≡ true → (a || b) ≡ true
or_true true b h = refl
or_true false b h = h

first_agrees : (u w : Person) (g : ℕ) (ids : List ℕ) → AgreeOn u w (g ∷ ids) → sets.contains u.groups g ≡ sets.contains w.groups g
first_agrees u w g ids a = a g (ap (λ b. b || is_one_of g ids) (eq-eqb g g refl))

rest_agrees : (u w : Person) (g : ℕ) (ids : List ℕ) → AgreeOn u w (g ∷ ids) → AgreeOn u w ids
rest_agrees u w g ids a = λ x h. a x (or_true (g == x) (is_one_of x ids) h)

same_for_one : (u w : Person) (owning : ℕ) (e : Entry) (es : List Entry) → sets.contains u.groups owning ≡ sets.contains w.groups owning → AgreeOn u w (named_groups (e ∷ es))
    → is_for u owning e ≡ is_for w owning e
same_for_one u w owning e es own a = by_key e.key a
  where
    by_key : (k : Key) → AgreeOn u w (filter_map (λ (x : Entry). named_group x.key) (record { key = k; perm = e.perm } ∷ es))
        → option_map_or (sets.contains u.groups) (group_of owning k) false ≡ option_map_or (sets.contains w.groups) (group_of owning k) false
    by_key Owner a = refl
    by_key (User id) a = refl
    by_key OwningGroup a = own
    by_key (Group id) a = first_agrees u w id (named_groups es) a
    by_key Mask a = refl
    by_key Other a = refl

others_agree : (u w : Person) (e : Entry) (es : List Entry) → AgreeOn u w (named_groups (e ∷ es)) → AgreeOn u w (named_groups es)
others_agree u w e es a = by_key e.key a
  where
    by_key : (k : Key) → AgreeOn u w (filter_map (λ (x : Entry). named_group x.key) (record { key = k; perm = e.perm } ∷ es)) → AgreeOn u w (named_groups es)
    by_key Owner a = a
    by_key (User id) a = a
    by_key OwningGroup a = a
    by_key (Group id) a = rest_agrees u w id (named_groups es) a
    by_key Mask a = a
    by_key Other a = a

any_local : (u w : Person) (owning : ℕ) (h : Bool → Entry → Bool) (es : List Entry) → sets.contains u.groups owning ≡ sets.contains w.groups owning → AgreeOn u w (named_groups es)
    → list_any (λ e. h (is_for u owning e) e) es ≡ list_any (λ e. h (is_for w owning e) e) es
any_local u w owning h [] own a = refl
any_local u w owning h (e ∷ es) own a =
    λ i. h (same_for_one u w owning e es own a i) e || any_local u w owning h es own (others_agree u w e es a) i

check_local : (u w : Person) (f : Label) → AgreeOnMentions u w f → (q : Perms) → check u f q ≡ check w f q
check_local u w f h q =
    let own = first_agrees u w f.group (named_groups (entries f.acl)) h.groups in
    let named = rest_agrees u w f.group (named_groups (entries f.acl)) h.groups in
    let matched = any_local u w f.group (λ b e. b) (entries f.acl) own named in
    let grants = any_local u w f.group (λ b e. b && contains (masked_by (maps.get f.acl Mask) e.perm) q) (entries f.acl) own named in
    λ i. if h.uid i == f.owner then contains (perm_at f.acl Owner) q
    else option_map_or (λ s. contains (masked f.acl s) q) (maps.get f.acl (User (h.uid i)))
    (if matched i then grants i else contains (perm_at f.acl Other) q)

-- what is granted rests on the user's id and on the groups that the label mentions
pub rights_local : (u w : Person) (f : Label) → AgreeOnMentions u w f → rights u f ≡ rights w f
rights_local u w f h = λ i. byte_of (λ q. check_local u w f h q i)

-- ---- what Linux grants asks for no other group than the check

linux_check_local : (u w : Person) (f : Label) → AgreeOnMentions u w f → (q : Perms) → linux_check u f q ≡ linux_check w f q
linux_check_local u w f h q = by (has_empty_mask f.acl)
  where
    by : (empty : Bool) → (if empty then check_mode u f q else check u f q) ≡ (if empty then check_mode w f q else check w f q)
    by true =
        let own = first_agrees u w f.group (named_groups (entries f.acl)) h.groups in
        λ i. if h.uid i == f.owner then contains (perm_at f.acl Owner) q
        else (if own i then contains none q else contains (perm_at f.acl Other) q)
    by false = check_local u w f h q

-- what Linux grants rests on the user's id and on the groups that the label mentions
pub linux_rights_local : (u w : Person) (f : Label) → AgreeOnMentions u w f → linux_rights u f ≡ linux_rights w f
linux_rights_local u w f h = λ i. byte_of (λ q. linux_check_local u w f h q i)
