-- The entries of both lists of a file give these lists back where `setfacl --set` puts them.
use Rattle.std.proofs.Common.{◌≡◌, ℕ, ◌+◌, Bool, true, false, cond, not, ◌&&◌, ◌||◌, if◌then◌else◌, List, [], ◌∷◌, ◌++◌, map, filter, length, Option, Some}
use Rattle.std.proofs.Common.{None, option_map, unwrap_or, Ok, Err, refl, sym, ap, subst, ◌∙◌, append_assoc, arith}
use Rattle.std.specs.Prelude.{IfSome}
use Rattle.std.specs.FinMap as maps
use Rattle.std.specs.List.{list_any, position_from, AllByRecursion}
use Rattle.std.specs.Option.{option_map_or}
use Rattle.std.proofs.lemmas.List.{append-nil, length-map}
use Rattle.acl_text.proofs.EntryRoundTrips.{few, new_key, one_more}
use Rattle.acl_entry.proofs.Faults.{fault_short, no_place}
use Rattle.acl_entry.proofs.Maps.{map_of-entries, in_order-entries}
use Rattle.acl_edit.proofs.Kept.{checked_valid, default_unnamed}
use Rattle.acl_text.specs.RoundTrips.{IsListIf}
use Rattle.acl_edit.specs.Changes.{Change, options}
use Rattle.acl_edit.specs.Edits.{worked, access_after, default_after, checked, checked_default, changed_access, changed_default, change}
use Rattle.acl_edit.specs.Masks.{has_mask, has_named, add_mask, recalculate, is_recalculated, takes_mask, with_mask}
use Rattle.acl_edit.specs.Nodes.{IsSound, is_directory, with_lists}
use Rattle.acl_edit.specs.Parts.{Part, part, is_for, is_of_mask, names, puts}
use Rattle.acl_edit.specs.Steps.{gives_execute, perms_of, put_some, modify, replace, fill_one, fill_from}
use Rattle.acl_edit.specs.declared.edit.EditFault.TheVariants.{DefaultOnFile, List as ListIs}
use Rattle.acl_edit.specs.declared.node.Kind.{Kind}
use Rattle.acl_edit.specs.declared.node.Kind.TheVariants as kinds
use Rattle.acl_edit.specs.declared.node.Node.{Node}
use Rattle.acl_edit.proofs.ByKey.{mask_key}
use Rattle.acl_edit.proofs.Lines.{checked_empty}
use Rattle.acl_entry.specs.Keys.{same_key, is_named}
use Rattle.acl_entry.specs.Lists.{KeyMap, IsInOrder, IsValid, class_union, entries, fault, is_among, keys, map_of, missing_base, or_else, repeated, unmasked}
use Rattle.acl_entry.specs.Perms.{Perms}
use Rattle.acl_entry.specs.declared.entry.Entry.{Entry}
use Rattle.acl_entry.specs.declared.entry.ListFault.{ListFault}
use Rattle.acl_entry.specs.declared.entry.ListFault.TheVariants.{Repeated, MissingBase, MissingMask}
use Rattle.acl_entry.specs.declared.entry.Key.{Key}
use Rattle.acl_entry.specs.declared.entry.Key.TheVariants.{Owner, OwningGroup, Mask, Other}
use Rattle.acl_people.specs.KnownPeople.{KnownPeople, naming_of}
use Rattle.acl_text.specs.declared.entries.Spec.{Spec}
use Rattle.acl_text.specs.declared.fault.Which.{Which}
use Rattle.acl_text.specs.declared.fault.Which.TheVariants.{Access, Default}
use Rattle.acl_text.specs.Writing.{spec_of}
use Rattle.acl_text.specs.Results.{◌>>=◌}
use Rattle.acl_names.specs.Paths.{PathOf}
use Rattle.acl_names.proofs.Basics.{and_false}
use Rattle.acl_tree.specs.Files.{Files}
use Rattle.acl_tree.specs.Sound.{ArePlaced}
use Rattle.facl_output.specs.RoundTrips.{IsReadAgain, IsShortAgain, entries_for, dacl_entries, all_entries, specs_of, AreSetAs, AreListsAgain}
use Rattle.facl_output.proofs.ListRoundTrips.{both_again, short_is_again}

-- ---- the entries for each list

access_part : (es ds : List Entry) (at : ℕ) → filter (is_for false Access) (specs_of at (entries_for false es ++ entries_for true ds)) ≡ specs_of at (entries_for false es)
access_part [] [] at = refl
access_part [] (d ∷ ds) at = access_part [] ds (at + 1)
access_part (e ∷ es) ds at = ap (λ (l : List Spec). record (spec_of at e) { dflt = false } ∷ l) (access_part es ds (at + 1))

access_entries : (es : List Entry) (dacl : Option KeyMap) (at : ℕ) → filter (is_for false Access) (specs_of at (entries_for false es ++ dacl_entries dacl)) ≡ specs_of at (entries_for false es)
access_entries es None at = access_part es [] at
access_entries es (Some dacl) at = access_part es (entries dacl) at

all_default : (ds : List Entry) (at : ℕ) → filter (is_for false Default) (specs_of at (entries_for true ds)) ≡ specs_of at (entries_for true ds)
all_default [] at = refl
all_default (d ∷ ds) at = ap (λ (l : List Spec). record (spec_of at d) { dflt = true } ∷ l) (all_default ds (at + 1))

default_part : (es ds : List Entry) (at : ℕ) → filter (is_for false Default) (specs_of at (entries_for false es ++ entries_for true ds)) ≡ specs_of (at + length es) (entries_for true ds)
default_part [] ds at = all_default ds at ∙ ap (λ (n : ℕ). specs_of n (entries_for true ds)) (omega arith)
default_part (e ∷ es) ds at = default_part es ds (at + 1) ∙ ap (λ (n : ℕ). specs_of n (entries_for true ds)) (omega arith)

-- ---- the list that they make

given_fixed : (x : Bool) (p : Perms) → perms_of x (Some (record { fixed = p; cond_x = false })) ≡ p
given_fixed true p = refl
given_fixed false p = refl

put_in_order : (x dflt : Bool) (at : ℕ) (done es : List Entry) → IsInOrder (done ++ es) → modify x (specs_of at (entries_for dflt es)) (map_of done) ≡ map_of (done ++ es)
put_in_order x dflt at done [] order = ap map_of (sym (append-nil done))
put_in_order x dflt at done (e ∷ es) order =
    let more = specs_of (at + 1) (entries_for dflt es) in
    ap (λ (p : Perms). modify x more (maps.insert (map_of done) e.key p)) (given_fixed x e.perm)
    ∙ (ap (modify x more) (one_more done e (new_key done e es order))
    ∙ (put_in_order x dflt (at + 1) (done ++ e ∷ []) es (subst IsInOrder (sym (append_assoc done (e ∷ []) es)) order)
    ∙ ap map_of (append_assoc done (e ∷ []) es)))

some_replace : (x dflt : Bool) (at : ℕ) (m : KeyMap) (es : List Entry) → fault es ≡ None → replace x (specs_of at (entries_for dflt es)) m ≡ modify x (specs_of at (entries_for dflt es)) maps.empty
some_replace x dflt at m [] none = absurd (cc none)
some_replace x dflt at m (e ∷ es) none = refl

replaced : (x dflt : Bool) (at : ℕ) (m acl : KeyMap) → IsValid acl → replace x (specs_of at (entries_for dflt (entries acl))) m ≡ acl
replaced x dflt at m acl valid =
    some_replace x dflt at m (entries acl) valid
    ∙ (put_in_order x dflt at [] (entries acl) (in_order-entries acl) ∙ map_of-entries acl)

-- ---- what a valid list has

last_none : (a b : Option ListFault) (c : Option ℕ) → or_else a (or_else b (option_map MissingMask c)) ≡ None → c ≡ None
last_none None None None h = refl
last_none None None (Some c) h = absurd (cc h)
last_none None (Some b) c h = absurd (cc h)
last_none (Some a) b c h = absurd (cc h)

base_none : (a : Option ListFault) (b : Option Key) (c : Option ListFault) → or_else a (or_else (option_map MissingBase b) c) ≡ None → b ≡ None
base_none None None c h = refl
base_none None (Some b) c h = absurd (cc h)
base_none (Some a) b c h = absurd (cc h)

-- the keys of a valid list are few, so its faults are those of single keys
short_faults : (acl : KeyMap) → IsValid acl
    → or_else (option_map Repeated (repeated (keys (entries acl))))
    (or_else (option_map MissingBase (missing_base (keys (entries acl)))) (option_map MissingMask (unmasked (keys (entries acl))))) ≡ None
short_faults acl valid = sym (fault_short (keys (entries acl)) (omega (arith, few acl valid, length-map (entries acl) (λ e. e.key)))) ∙ valid

masked_named : (acl : KeyMap) → IsValid acl → unmasked (keys (entries acl)) ≡ None
masked_named acl valid = last_none (option_map Repeated (repeated (keys (entries acl)))) (option_map MissingBase (missing_base (keys (entries acl))))
    (unmasked (keys (entries acl))) (short_faults acl valid)

no_base_missing : (acl : KeyMap) → IsValid acl → missing_base (keys (entries acl)) ≡ None
no_base_missing acl valid = base_none (option_map Repeated (repeated (keys (entries acl)))) (missing_base (keys (entries acl)))
    (option_map MissingMask (unmasked (keys (entries acl)))) (short_faults acl valid)

abbrev entry_of : Key × Perms → Entry
entry_of p = record { key = p.0; perm = p.1 }

among_pairs : (k : Key) (ps : List (Key × Perms)) → list_any (same_key k) (map (λ p. p.0) ps) ≡ is_among k (keys (map entry_of ps))
among_pairs k [] = refl
among_pairs k (p ∷ ps) = ap (λ b. same_key k p.0 || b) (among_pairs k ps)

has_key : (acl : KeyMap) (k : Key) → maps.contains_key acl k ≡ is_among k (keys (entries acl))
has_key acl k = maps.contains_key-keys acl k ∙ among_pairs k (maps.entries acl)

-- ---- base entries are there

abbrev first_missing : Bool → Bool → Bool → Option Key
first_missing a b c = cond (not a) (Some Owner) (cond (not b) (Some OwningGroup) (cond (not c) (Some Other) None))

all_there : (a b c : Bool) → first_missing a b c ≡ None → (a ≡ true) × ((b ≡ true) × (c ≡ true))
all_there true true true h = (refl, (refl, refl))
all_there true true false h = absurd (cc h)
all_there true false c h = absurd (cc h)
all_there false b c h = absurd (cc h)

filled : (other acl : KeyMap) → IsValid acl → fill_from other acl ≡ acl
filled other acl valid =
    let ks = keys (entries acl) in
    let there = all_there (is_among Owner ks) (is_among OwningGroup ks) (is_among Other ks) (no_base_missing acl valid) in
    ap (λ m. fill_one other (fill_one other m OwningGroup) Other) (one Owner (has_key acl Owner ∙ there.0))
    ∙ (ap (λ m. fill_one other m Other) (one OwningGroup (has_key acl OwningGroup ∙ there.1.0))
    ∙ one Other (has_key acl Other ∙ there.1.1))
  where
    one : (k : Key) → maps.contains_key acl k ≡ true → fill_one other acl k ≡ acl
    one k h = ap (λ b. if b then acl else put_some acl k (maps.get other k)) h

-- ---- the mask stays

named_keys : (es : List Entry) → list_any (λ e. is_named e.key) es ≡ list_any is_named (keys es)
named_keys [] = refl
named_keys (e ∷ es) = ap (λ b. is_named e.key || b) (named_keys es)

-- a valid list without a mask has no named entries
none_named : (acl : KeyMap) → IsValid acl → has_mask acl ≡ false → has_named acl ≡ false
none_named acl valid without =
    let ks = keys (entries acl) in
    let no_mask : is_among Mask ks ≡ false = sym (has_key acl Mask) ∙ without in
    named_keys (entries acl) ∙ no_place ks 1 (sym (ap (λ b. cond b None (position_from is_named 1 ks)) no_mask) ∙ masked_named acl valid)

no_mask_added : (acl : KeyMap) → IsValid acl → add_mask acl ≡ acl
no_mask_added acl valid = by_mask (has_mask acl) refl
  where
    by_mask : (b : Bool) → has_mask acl ≡ b → (if has_named acl && not (has_mask acl) then put_some acl Mask (maps.get acl OwningGroup) else acl) ≡ acl
    by_mask true e = ap (λ b. if has_named acl && not b then put_some acl Mask (maps.get acl OwningGroup) else acl) e
        ∙ ap (λ b. if b then put_some acl Mask (maps.get acl OwningGroup) else acl) (and_false (has_named acl))
    by_mask false e = ap (λ b. if b && not (has_mask acl) then put_some acl Mask (maps.get acl OwningGroup) else acl) (none_named acl valid e)

mask_given : (dflt : Bool) (at : ℕ) (es : List Entry) → list_any is_of_mask (specs_of at (entries_for dflt es)) ≡ is_among Mask (keys es)
mask_given dflt at [] = refl
mask_given dflt at (e ∷ es) = λ i. mask_key e.key i || mask_given dflt (at + 1) es i

-- a line that has `--set` alone, and what it asks of one list
abbrev line : List Spec → Change
line specs = options false false false false false [] specs []

abbrev only_set : List Spec → Part
only_set specs = record { remove = []; set = specs; modify = [] }

-- the mask that the entries of a valid list give is left
mask_stays : (all : List Spec) (dflt : Bool) (at : ℕ) (lost : Bool) (acl : KeyMap) → IsValid acl → with_mask (line all) (only_set (specs_of at (entries_for dflt (entries acl)))) lost acl ≡ acl
mask_stays all dflt at lost acl valid =
    ap (λ m. if is_recalculated (line all) (only_set specs) then recalculate m else m) (not_added lost) ∙ by_mask (has_mask acl) refl
  where
    specs : List Spec
    specs = specs_of at (entries_for dflt (entries acl))

    not_added : (b : Bool) → (if b then acl else add_mask acl) ≡ acl
    not_added true = refl
    not_added false = no_mask_added acl valid

    either : (b : Bool) → (if b then acl else acl) ≡ acl
    either true = refl
    either false = refl

    by_mask : (b : Bool) → has_mask acl ≡ b → (if is_recalculated (line all) (only_set specs) then recalculate acl else acl) ≡ acl
    by_mask true e = ap (λ b. if not (b || false) then recalculate acl else acl) (mask_given dflt at (entries acl) ∙ (sym (has_key acl Mask) ∙ e))
    by_mask false e =
        ap (λ b. if is_recalculated (line all) (only_set specs) then (if b then maps.insert acl Mask (class_union acl) else acl) else acl) e
        ∙ either (is_recalculated (line all) (only_set specs))

-- ---- each list

puts_some : (dflt : Bool) (at : ℕ) (es : List Entry) → fault es ≡ None → puts (only_set (specs_of at (entries_for dflt es))) ≡ true
puts_some dflt at [] none = absurd (cc none)
puts_some dflt at (e ∷ es) none = refl

access_set : (x : Bool) (all : List Spec) (at : ℕ) (m acl : KeyMap) → IsValid acl → filter (is_for false Access) all ≡ specs_of at (entries_for false (entries acl)) → access_after (line all) x m ≡ acl
unfolding access_after worked
access_set x all at m acl valid is =
    let specs = specs_of at (entries_for false (entries acl)) in
    let made : List Spec → KeyMap = λ specs. with_mask (line all) (only_set specs) (takes_mask (only_set specs) (replace x specs m)) (replace x specs m) in
    ap (λ (specs : List Spec). if names (only_set specs) then made specs else m) is
    ∙ (ap (λ b. if b then made specs else m) (puts_some false at (entries acl) valid)
    ∙ (ap (with_mask (line all) (only_set specs) (takes_mask (only_set specs) (replace x specs m))) (replaced x false at m acl valid)
    ∙ mask_stays all false at (takes_mask (only_set specs) (replace x specs m)) acl valid))

default_set : (x : Bool) (all : List Spec) (at : ℕ) (other m acl : KeyMap) → IsValid acl
    → filter (is_for false Default) all ≡ specs_of at (entries_for true (entries acl)) → default_after (line all) x other m ≡ acl
unfolding default_after worked
default_set x all at other m acl valid is =
    let specs = specs_of at (entries_for true (entries acl)) in
    let lost : List Spec → Bool = λ specs. takes_mask (only_set specs) (replace x specs m) in
    let full : List Spec → KeyMap = λ specs. if puts (only_set specs) then fill_from other (replace x specs m) else replace x specs m in
    ap (λ (specs : List Spec). if names (only_set specs) then with_mask (line all) (only_set specs) (lost specs) (full specs) else m) is
    ∙ (ap (λ b. if b then with_mask (line all) (only_set specs) (lost specs) (if b then fill_from other (replace x specs m) else replace x specs m) else m) (puts_some true at (entries acl) valid)
    ∙ (ap (λ m. with_mask (line all) (only_set specs) (lost specs) (fill_from other m)) (replaced x true at m acl valid)
    ∙ (ap (with_mask (line all) (only_set specs) (lost specs)) (filled other acl valid)
    ∙ mask_stays all true at (lost specs) acl valid)))

-- ---- a file

no_default : (es : List Entry) (dacl : Option KeyMap) → dacl ≡ None → filter (is_for false Default) (specs_of 1 (entries_for false es ++ dacl_entries dacl)) ≡ []
no_default es dacl none = ap (λ o. filter (is_for false Default) (specs_of 1 (entries_for false es ++ dacl_entries o))) none ∙ default_part es [] 1

checked_same : (which : Which) (acl : KeyMap) → IsValid acl → checked which acl ≡ Ok acl
checked_same which acl valid = ap (λ f. option_map_or (λ f. Err (ListIs which f)) f (Ok acl)) valid

not_misplaced : (in_recursion b : Bool) → b ≡ false → (not false && not in_recursion && b) ≡ false
not_misplaced true b h = refl
not_misplaced false b h = h

valid_dacl : (known : KnownPeople) (o : Option KeyMap) (d : KeyMap) → o ≡ Some d → IsListIf (naming_of known) o → IsValid d
valid_dacl known o d e is = (subst (IsListIf (naming_of known)) e is).valid

module _ (n : Node) (sound : IsSound n) (valid : IsValid n.label.acl) (valid_default : (d : KeyMap) → n.dacl ≡ Some d → IsValid d) where
  abbrev all : List Spec
  all = specs_of 1 (all_entries n)

  set_again : AreSetAs all n
  unfolding change
  set_again m in_recursion same bare = by_kind m.kind (sym same)
    where
      access : access_after (line all) (gives_execute m) m.label.acl ≡ n.label.acl
      access = access_set (gives_execute m) all 1 m.label.acl n.label.acl valid (access_entries (entries n.label.acl) n.dacl 1)

      access_checked : changed_access m (line all) ≡ Ok n.label.acl
      access_checked = ap (checked Access) access ∙ checked_same Access n.label.acl valid

      by_default : (o : Option KeyMap) → n.dacl ≡ o → checked_default (default_after (line all) (gives_execute m) n.label.acl (unwrap_or m.dacl maps.empty)) ≡ Ok o
      by_default None e =
          let none : names (part (line all) Default) ≡ false = ap (λ specs. names (only_set specs)) (no_default (entries n.label.acl) n.dacl e) in
          ap checked_default (default_unnamed (line all) (gives_execute m) n.label.acl (unwrap_or m.dacl maps.empty) none ∙ ap (λ o. unwrap_or o maps.empty) (bare e)) ∙ checked_empty
      by_default (Some d) e =
          let is = ap (λ o. filter (is_for false Default) (specs_of 1 (entries_for false (entries n.label.acl) ++ dacl_entries o))) e ∙ default_part (entries n.label.acl) (entries d) 1 in
          ap checked_default (default_set (gives_execute m) all (1 + length (entries n.label.acl)) n.label.acl (unwrap_or m.dacl maps.empty) d
          (valid_default d e) is) ∙ checked_valid d (valid_default d e)

      by_kind : (k : Kind) → n.kind ≡ k
          → (if not (is_directory k) && not in_recursion && puts (part (line all) Default) then Err DefaultOnFile
          else (changed_access m (line all) >>= λ acl. changed_default k m (line all) acl >>= λ dacl. Ok (with_lists m acl dacl)))
          ≡ Ok (with_lists m n.label.acl n.dacl)
      by_kind kinds.Plain e =
          let none = sound e in
          let no_puts : puts (part (line all) Default) ≡ false = ap (λ specs. puts (only_set specs)) (no_default (entries n.label.acl) n.dacl none) in
          ap (λ b. if b then Err DefaultOnFile
          else (changed_access m (line all) >>= λ acl. changed_default kinds.Plain m (line all) acl >>= λ dacl. Ok (with_lists m acl dacl)))
          (not_misplaced in_recursion (puts (part (line all) Default)) no_puts)
          ∙ (ap (λ r. r >>= λ acl. changed_default kinds.Plain m (line all) acl >>= λ dacl. Ok (with_lists m acl dacl)) access_checked
          ∙ ap (λ o. Ok (with_lists m n.label.acl o)) (bare none ∙ sym none))
      by_kind kinds.Directory e =
          ap (λ r. r >>= λ acl. changed_default kinds.Directory m (line all) acl >>= λ dacl. Ok (with_lists m acl dacl)) access_checked
          ∙ ap (λ r. r >>= λ dacl. Ok (with_lists m n.label.acl dacl)) (by_default n.dacl refl)

-- ---- all files

default_short : (known : KnownPeople) (o : Option KeyMap) → IsListIf (naming_of known) o → IfSome o (IsShortAgain known)
default_short known None is = tt
default_short known (Some dacl) is = short_is_again known dacl is

node_again : (known : KnownPeople) (e : PathOf × Node) → IsSound e.1 → IsReadAgain known e → AreListsAgain known e.1
node_again known e sound is = record {
  access = short_is_again known e.1.label.acl is.access;
  dacl = default_short known e.1.dacl is.dacl;
  both = both_again known e.1 is.access is.dacl;
  set = set_again e.1 sound is.access.valid (λ d same. valid_dacl known e.1.dacl d same is.dacl);
}

pub lists_again : (known : KnownPeople) (whole es : Files) → ArePlaced whole es → AllByRecursion (IsReadAgain known) es → AllByRecursion (λ e. AreListsAgain known e.1) es
lists_again known whole [] placed are = tt
lists_again known whole (e ∷ es) placed are = (node_again known e placed.0.default are.0, lists_again known whole es placed.1 are.1)
