-- The row of all users, one entry of the file after another, and what the row is in the end.
use Rattle.std.proofs.Common.{◌≡◌, ℕ, ◌+◌, ◌<◌, ◌≤◌, ◌==◌, ◌||◌, Bool, true, false, cond, Option, Some, None, List, ◌∷◌, length, map, take, drop, get_or, eqb, if◌then◌else◌, refl, ap, sym, ◌∙◌}
use Rattle.std.specs.Int.RustNames.{bit_or}
use Rattle.std.specs.Ordering.{eq_by_cmp}
use Rattle.std.specs.List.{list_any}
use Rattle.std.specs.Option.{option_map_or}
use Rattle.std.specs.FinMap as maps
use Rattle.std.specs.FinSet as sets
use Rattle.std.proofs.lemmas.List.{drop_more, take_all}
use Rattle.std.proofs.lemmas.List.Folds.{list_any_more, list_any_at}
use Rattle.acl_names.proofs.Basics.{or_false}
use Rattle.acl_names.proofs.Begins.{nat_is_eq}
use Rattle.acl_entry.specs.declared.entry.Key.{Key}
use Rattle.acl_entry.specs.declared.entry.Key.TheVariants.{Owner, User, OwningGroup, Group, Mask, Other}
use Rattle.acl_entry.specs.declared.entry.Entry.{Entry}
use Rattle.acl_entry.specs.declared.label.Label.{Label}
use Rattle.acl_entry.specs.Perms.{Perms, contains}
use Rattle.acl_entry.specs.Keys.{key_cmp}
use Rattle.acl_entry.specs.Lists.{pairs, entries, perm_at, masked, masked_by}
use Rattle.acl_entry.specs.Check.{byte_of, group_of, is_for, some_entry_grants, rights}
use Rattle.acl_entry.specs.Mentions.{is_one_of}
use Rattle.acl_entry.specs.Person.{Person}
use Rattle.acl_entry.proofs.Bytes.{then_granted, else_granted}
use Rattle.acl_entry.proofs.Maps.{get-map_of, map_of-entries}
use Rattle.acl_people.specs.Places.{AreThose, has_id, is_in}
use Rattle.acl_people.specs.Cases.{is_matched, by_groups, by_name_or, of_owner, of_others}
use Rattle.acl_people.proofs.AtPlaces.{done_is}

-- ---- what a user has while the entries are gone through

-- where the users of these entries' groups have nothing yet, and all others what f says
abbrev pub cleared : ℕ → (Person → ℕ) → List Entry → Person → ℕ
cleared owning f es u = if list_any (is_for u owning) es then 0 else f u

-- where those that m picks have what these entries grant their groups, each alone
abbrev pub added : ℕ → Option Perms → (Person → Bool) → (Person → ℕ) → List Entry → Person → ℕ
added owning mask m f es u = if m u then byte_of (some_entry_grants u owning mask es) else f u

-- where those whom these entries name have what the first that does grants
abbrev pub named : Option Perms → (Person → ℕ) → List Entry → Person → ℕ
named mask f es u = option_map_or (λ s. byte_of (contains (masked_by mask s))) (maps.find key_cmp (User u.uid) (pairs es)) (f u)

-- ---- entries of groups, from the first on

module _ (users : List Person) (owning : ℕ) (es : List Entry) (i : ℕ) (e : Entry) (lt : i < length es) (is : e ≡ get_or es i e) where
  matched_more : (u : Person) → list_any (is_for u owning) (take (i + 1) es) ≡ (list_any (is_for u owning) (take i es) || is_for u owning e)
  matched_more u = list_any_more (is_for u owning) es i e lt ∙ ap (λ x. list_any (is_for u owning) (take i es) || is_for u owning x) (sym is)

  for_group : (g : ℕ) → group_of owning e.key ≡ Some g → (u : Person) → is_for u owning e ≡ is_in g u
  for_group g key_is u = ap (λ o. option_map_or (sets.contains u.groups) o false) key_is

  for_nobody : group_of owning e.key ≡ None → (u : Person) → is_for u owning e ≡ false
  for_nobody key_is u = ap (λ o. option_map_or (sets.contains u.groups) o false) key_is

  -- the users of one group more have nothing
  pub cleared_more : (f : Person → ℕ) (g v : ℕ) (places old new : List ℕ) → group_of owning e.key ≡ Some g → v ≡ 0 → AreThose (is_in g) users places → length new ≡ length users
      → old ≡ map (cleared owning f (take i es)) users
      → ((at : ℕ) → get_or new at 0 ≡ (if is_one_of at places then v else get_or old at 0))
      → new ≡ map (cleared owning f (take (i + 1) es)) users
  cleared_more f g v places old new key_is none those long old_is done =
      done_is (λ _. v) (is_in g) (cleared owning f (take i es)) users places old new those long old_is done
      ∙ (λ j. map (λ u. each u j) users)
    where
      by : (a b : Bool) (n : ℕ) → (if b then 0 else (if a then 0 else n)) ≡ (if (a || b) then 0 else n)
      by true true n = refl
      by true false n = refl
      by false true n = refl
      by false false n = refl

      each : (u : Person) → (if is_in g u then v else cleared owning f (take i es) u) ≡ cleared owning f (take (i + 1) es) u
      each u =
          (λ j. if (sym (for_group g key_is u)) j then none j else cleared owning f (take i es) u)
          ∙ by (list_any (is_for u owning) (take i es)) (is_for u owning e) (f u)
          ∙ ap (λ b. if b then 0 else f u) (sym (matched_more u))

  pub cleared_same : (f : Person → ℕ) (row : List ℕ) → group_of owning e.key ≡ None → row ≡ map (cleared owning f (take i es)) users → row ≡ map (cleared owning f (take (i + 1) es)) users
  cleared_same f row key_is row_is = row_is ∙ (λ j. map (λ u. if same u j then 0 else f u) users)
    where
      same : (u : Person) → list_any (is_for u owning) (take i es) ≡ list_any (is_for u owning) (take (i + 1) es)
      same u = sym (matched_more u ∙ ap (λ b. list_any (is_for u owning) (take i es) || b) (for_nobody key_is u) ∙ or_false (list_any (is_for u owning) (take i es)))

  -- the users of one group more have what its entry grants too
  module _ (mask : Option Perms) (f : Person → ℕ) (m : Person → Bool) (matches : (u : Person) → m u ≡ list_any (is_for u owning) es) where
    one_more : (u : Person) (b : Bool) → is_for u owning e ≡ b
        → (if b then bit_or (added owning mask m f (take i es) u) (byte_of (contains (masked_by mask e.perm))) else added owning mask m f (take i es) u)
        ≡ added owning mask m f (take (i + 1) es) u
    one_more u true h =
        let yes : m u ≡ true = matches u ∙ list_any_at (is_for u owning) es i e lt (ap (is_for u owning) (sym is) ∙ h) in
        ap (λ b. bit_or (if b then byte_of (some_entry_grants u owning mask (take i es)) else f u) (byte_of (contains (masked_by mask e.perm)))) yes
        ∙ then_granted u owning mask es i e lt is h
        ∙ ap (λ b. if b then byte_of (some_entry_grants u owning mask (take (i + 1) es)) else f u) (sym yes)
    one_more u false h = ap (λ n. if m u then n else f u) (else_granted u owning mask es i e lt is h)

    pub added_more : (g v : ℕ) (places old new : List ℕ) → group_of owning e.key ≡ Some g → v ≡ byte_of (contains (masked_by mask e.perm)) → AreThose (is_in g) users places → length new ≡ length users
        → old ≡ map (added owning mask m f (take i es)) users
        → ((at : ℕ) → get_or new at 0 ≡ (if is_one_of at places then bit_or (get_or old at 0) v else get_or old at 0))
        → new ≡ map (added owning mask m f (take (i + 1) es)) users
    added_more g v places old new key_is v_is those long old_is done =
        done_is (λ n. bit_or n v) (is_in g) (added owning mask m f (take i es)) users places old new those long old_is done
        ∙ (λ j. map (λ u. each u j) users)
      where
        each : (u : Person) → (if is_in g u then bit_or (added owning mask m f (take i es) u) v else added owning mask m f (take i es) u) ≡ added owning mask m f (take (i + 1) es) u
        each u =
            (λ j. if (sym (for_group g key_is u)) j then bit_or (added owning mask m f (take i es) u) (v_is j) else added owning mask m f (take i es) u)
            ∙ one_more u (is_for u owning e) refl

    pub added_same : (row : List ℕ) → group_of owning e.key ≡ None → row ≡ map (added owning mask m f (take i es)) users → row ≡ map (added owning mask m f (take (i + 1) es)) users
    added_same row key_is row_is = row_is ∙ (λ j. map (λ u. one_more u false (for_nobody key_is u) j) users)

-- after the last entry all of them are added
pub added_all : (l : Label) (mask : Option Perms) (es : List Entry) (i : ℕ) → mask ≡ maps.get l.acl Mask → es ≡ entries l.acl → length es ≤ i → (f : Person → ℕ) (u : Person)
    → added l.group mask (is_matched l) f (take i es) u ≡ (if is_matched l u then by_groups l u else f u)
added_all l mask es i mask_is es_are past f u = λ j. if is_matched l u then byte_of (some_entry_grants u l.group (mask_is j) ((take_all i es past ∙ es_are) j)) else f u

-- ---- entries of named users, from the last on: of two of one key the first counts

names : (n : ℕ) (k : Key) (id : ℕ) → k ≡ User id → eq_by_cmp key_cmp (User n) k ≡ eqb n id
names n k id is = ap (eq_by_cmp key_cmp (User n)) is ∙ nat_is_eq n id

names_nobody : (k : Key) → ((id : ℕ) → k ≡ User id → ⊥) → (n : ℕ) → eq_by_cmp key_cmp (User n) k ≡ false
names_nobody Owner other n = refl
names_nobody (User id) other n = absurd (other id refl)
names_nobody OwningGroup other n = refl
names_nobody (Group id) other n = refl
names_nobody Mask other n = refl
names_nobody Other other n = refl

module _ (users : List Person) (mask : Option Perms) (f : Person → ℕ) (es : List Entry) (i n : ℕ) (e : Entry) (lt : i < length es) (is : e ≡ get_or es i e) (above : n ≡ i + 1) where
  next : (u : Person) (b : Bool) → eq_by_cmp key_cmp (User u.uid) e.key ≡ b → (if b then byte_of (contains (masked_by mask e.perm)) else named mask f (drop n es) u) ≡ named mask f (drop i es) u
  next u b h =
      by b
      ∙ ap (λ t. option_map_or (λ s. byte_of (contains (masked_by mask s))) (cond t (Some e.perm) (maps.find key_cmp (User u.uid) (pairs (drop n es)))) (f u)) (sym h)
      ∙ ap (λ l. named mask f l u) (sym (drop_more es i e lt ∙ (λ j. (sym is) j ∷ drop ((sym above) j) es)))
    where
      by : (t : Bool) → (if t then byte_of (contains (masked_by mask e.perm)) else named mask f (drop n es) u)
          ≡ option_map_or (λ s. byte_of (contains (masked_by mask s))) (cond t (Some e.perm) (maps.find key_cmp (User u.uid) (pairs (drop n es)))) (f u)
      by true = refl
      by false = refl

  pub named_more : (id v : ℕ) (places old new : List ℕ) → e.key ≡ User id → v ≡ byte_of (contains (masked_by mask e.perm)) → AreThose (has_id id) users places → length new ≡ length users
      → old ≡ map (named mask f (drop n es)) users
      → ((at : ℕ) → get_or new at 0 ≡ (if is_one_of at places then v else get_or old at 0))
      → new ≡ map (named mask f (drop i es)) users
  named_more id v places old new key_is v_is those long old_is done =
      done_is (λ _. v) (has_id id) (named mask f (drop n es)) users places old new those long old_is done
      ∙ (λ j. map (λ u. if u.uid == id then v_is j else named mask f (drop n es) u) users)
      ∙ (λ j. map (λ u. next u (u.uid == id) (names u.uid e.key id key_is) j) users)

  pub named_same : (row : List ℕ) → ((id : ℕ) → e.key ≡ User id → ⊥) → row ≡ map (named mask f (drop n es)) users → row ≡ map (named mask f (drop i es)) users
  named_same row other row_is = row_is ∙ (λ j. map (λ u. next u false (names_nobody e.key other u.uid) j) users)

-- at the first entry all are looked up
pub named_all : (l : Label) (mask : Option Perms) (es : List Entry) (i : ℕ) → mask ≡ maps.get l.acl Mask → es ≡ entries l.acl → i ≡ 0 → (f : Person → ℕ) (u : Person)
    → named mask f (drop i es) u ≡ by_name_or l u (f u)
named_all l mask es i mask_is es_are none f u =
    (λ j. named (mask_is j) f (drop (none j) (es_are j)) u)
    ∙ ap (λ o. option_map_or (λ s. byte_of (contains (masked l.acl s))) o (f u)) (sym (get-map_of (entries l.acl) (User u.uid)) ∙ ap (λ m. maps.get m (User u.uid)) (map_of-entries l.acl))

-- ---- all cases of the check

by_cases : (is_owner is_matched : Bool) (name : Option Perms) (own group other : Perms → Bool) (at_name : Perms → Perms → Bool)
    → (if is_owner then byte_of own else option_map_or (λ s. byte_of (at_name s)) name (if is_matched then byte_of group else byte_of other))
    ≡ byte_of (λ q. if is_owner then own q else option_map_or (λ s. at_name s q) name (if is_matched then group q else other q))
by_cases true m o own group other at_name = refl
by_cases false m (Some s) own group other at_name = refl
by_cases false true None own group other at_name = refl
by_cases false false None own group other at_name = refl

pub rights_is : (l : Label) (u : Person) → (if has_id l.owner u then of_owner l else by_name_or l u (if is_matched l u then by_groups l u else of_others l)) ≡ rights u l
rights_is l u =
    by_cases (has_id l.owner u) (is_matched l u) (maps.get l.acl (User u.uid)) (contains (perm_at l.acl Owner)) (some_entry_grants u l.group (maps.get l.acl Mask) (entries l.acl))
    (contains (perm_at l.acl Other)) (λ s. contains (masked l.acl s))
