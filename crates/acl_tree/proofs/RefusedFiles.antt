-- Why a new file is refused.
use Rattle.std.proofs.Common.{◌≡◌, ◌≤◌, ◌<◌, ℕ, Bool, true, false, cond, ◌||◌, List, [], ◌∷◌, Ordering, Less, Equal, Greater, length, slice_get, Option, Some}
use Rattle.std.proofs.Common.{None, Result, Ok, Err, if◌then◌else◌, nat_lt, refl, sym, ap, subst, true≢false, arith}
use Rattle.std.specs.Prelude.{◌==◌, position, option_and_then}
use Rattle.std.specs.FinMap.{find, put}
use Rattle.std.proofs.lemmas.Bool.{ltb-false, le-ltb}
use Rattle.std.proofs.lemmas.List.{length-map}
use Rattle.std.proofs.lemmas.List.Quantifiers.{position-Some}
use Rattle.std.proofs.lemmas.Option.{slice_get-get_or}
use Rattle.std.specs.Ordering.{is_eq}
use Rattle.acl_names.specs.Paths.{path_cmp, PathOf}
use Rattle.acl_names.proofs.PathOrder.{exact_paths}
use Rattle.path_map.proofs.Differences.{Leads, leads_all}
use Rattle.acl_names.specs.Below.{encloses, parent}
use Rattle.acl_names.proofs.Basics.{some_is_not_none, none_is_not_some, not_both}
use Rattle.acl_text.specs.Ids.{is_number, id_of}
use Rattle.acl_text.specs.declared.rows.PasswdRow.{PasswdRow}
use Rattle.acl_text.specs.Results.{◌>>=◌}
use Rattle.acl_edit.specs.Creation.{inherit}
use Rattle.acl_edit.specs.Nodes.{is_directory}
use Rattle.acl_edit.specs.declared.node.Kind.{Kind}
use Rattle.acl_edit.specs.declared.node.Kind.TheVariants.{Plain, Directory}
use Rattle.acl_edit.specs.declared.node.Node.{Node}
use Rattle.acl_tree.specs.declared.fault.TreeFault.{TreeFault}
use Rattle.acl_tree.specs.declared.fault.TreeFault.TheVariants.{NoSuchUser, Exists, NoSuchFile, NotDirectory, TooMany}
use Rattle.acl_tree.specs.Files.{Files, Recorded, max_files}
use Rattle.path_map.specs.Entries.{IsInOrder}
use Rattle.acl_people.specs.Entries.{user_entry}
use Rattle.acl_people.specs.KnownPeople.{KnownPeople, users_of}
use Rattle.acl_people.specs.NameTables.{Named, is_id, is_name, place_of_word}
use Rattle.acl_tree.specs.declared.command.Command.{Command}
use Rattle.acl_tree.specs.declared.command.Command.TheVariants.{Creat}
use Rattle.acl_tree.specs.declared.command.NewFile.{NewFile}
use Rattle.acl_tree.specs.Creat.{row_of, exists, only_directory, creat_in, creat_by, HoldsWithin}
use Rattle.acl_tree.specs.State.{State, with_tree}
use Rattle.acl_tree.specs.Refusals.{rank, IsNotAfter, IsRefusedForFirst}
use Rattle.acl_tree.specs.Causes.{MeansNoUser, IsMissing, IsRecordedAs}
use Rattle.acl_tree.specs.Step.{Applies}
use Rattle.acl_tree.proofs.Refused.{Decides, decides_err, decides_ok, refused_for_first, ranked, apart_by}

-- ---- the user of a word

-- a word means a row that is there
row_within : (word : List ℕ) (es : List Named) (i : ℕ) → place_of_word word es ≡ Some i → i < length es
row_within word es i h = by (is_number word) (id_of word) h
  where
    by : (b : Bool) (o : Option ℕ) → (if b then option_and_then (λ id. position (is_id id) es) o else position (is_name word) es) ≡ Some i → i < length es
    by true None h = absurd (none_is_not_some i h)
    by true (Some id) h = (position-Some (is_id id) es i ([], 0) h).0
    by false o h = (position-Some (is_name word) es i ([], 0) h).0

no_row : (known : KnownPeople) (word : List ℕ) → row_of known word ≡ None → MeansNoUser known word
no_row known word h = by (place_of_word word (users_of known)) refl h
  where
    by : (o : Option ℕ) → place_of_word word (users_of known) ≡ o → option_and_then (slice_get known.users) o ≡ None → o ≡ None
    by None is h = refl
    by (Some i) is h =
        let r : PasswdRow = record { name = []; uid = 0; gid = 0 } in
        let within : i < length known.users = subst (λ n. i < n) (length-map known.users user_entry) (row_within word (users_of known) i is) in
        absurd (some_is_not_none _ _ (slice_get-get_or known.users i r within) h)

some_row : (known : KnownPeople) (word : List ℕ) (row : PasswdRow) → row_of known word ≡ Some row → MeansNoUser known word → ⊥
some_row known word row is none = some_is_not_none (row_of known word) row is (ap (λ o. option_and_then (slice_get known.users) o) none)

-- ---- files at a path or below it

-- a file that is recorded at a path or below it is one of the list
within_exists : (p q : PathOf) (n : Node) (t : Files) → find path_cmp q t ≡ Some n → encloses p q ≡ true → exists p t ≡ true
within_exists p q n [] h in_it = absurd (none_is_not_some n h)
within_exists p q n (e ∷ t) h in_it = by (path_cmp q e.0) refl h (λ h. within_exists p q n t h in_it)
  where
    first : (a b : Bool) → a ≡ true → (a || b) ≡ true
    first a b h = cc

    later : (a b : Bool) → b ≡ true → (a || b) ≡ true
    later true b h = refl
    later false b h = h

    by : (o : Ordering) → path_cmp q e.0 ≡ o → cond (is_eq o) (Some e.1) (find path_cmp q t) ≡ Some n → (find path_cmp q t ≡ Some n → exists p t ≡ true) → (encloses p e.0 || exists p t) ≡ true
    by Equal is h rest = first (encloses p e.0) (exists p t) (subst (λ z. encloses p z ≡ true) (exact_paths q e.0 is) in_it)
    by Less is h rest = later (encloses p e.0) (exists p t) (rest h)
    by Greater is h rest = later (encloses p e.0) (exists p t) (rest h)

-- and of one of the list a file is recorded
exists_within : (p : PathOf) (all t : Files) → Leads all t → exists p t ≡ true → HoldsWithin all p
exists_within p all [] leads h = absurd (true≢false (sym h))
exists_within p all (e ∷ t) leads h = by (encloses p e.0) refl h (λ h. exists_within p all t leads.1 h)
  where
    by : (b : Bool) → encloses p e.0 ≡ b → (b || exists p t) ≡ true → (exists p t ≡ true → HoldsWithin all p) → HoldsWithin all p
    by true is h rest = record { path = e.0; node = e.1; recorded = leads.0; within = is }
    by false is h rest = rest h

-- ---- creat

module _ (s : State) (order : IsInOrder s.tree.files) (new : NewFile) where
  abbrev creates : Command
  creates = Creat new

  abbrev above : PathOf
  above = parent new.path

  creat_cases : (Q : TreeFault → Type 0) → (MeansNoUser s.people new.user → Q (NoSuchUser new.user)) → (exists new.path s.tree.files ≡ true → Q (Exists new.path))
      → (IsMissing s.tree.files (parent new.path) → Q (NoSuchFile (parent new.path))) → (IsRecordedAs Plain s.tree.files (parent new.path) → Q (NotDirectory (parent new.path)))
      → (max_files ≤ length s.tree.files → Q TooMany) → (g : TreeFault) → Applies s (Creat new) g → Q g
  creat_cases Q no_user there no_parent plain many (NoSuchUser word) h = subst (λ w. Q (NoSuchUser w)) (sym h.0) (no_user h.1)
  creat_cases Q no_user there no_parent plain many (Exists p) h = subst (λ p. Q (Exists p)) (sym h.0) (there (within_exists new.path h.1.path h.1.node s.tree.files h.1.recorded h.1.within))
  creat_cases Q no_user there no_parent plain many (NoSuchFile p) h = subst (λ p. Q (NoSuchFile p)) (sym h.0) (no_parent h.1)
  creat_cases Q no_user there no_parent plain many (NotDirectory p) h = subst (λ p. Q (NotDirectory p)) (sym h.0) (plain h.1)
  creat_cases Q no_user there no_parent plain many TooMany h = many h
  creat_cases Q no_user there no_parent plain many g h = absurd h

  abbrev of_rank : ℕ → TreeFault
  of_rank r =
      if r == 2 then NoSuchUser new.user
      else (if r == 8 then Exists new.path else (if r == 9 then NoSuchFile (parent new.path) else (if r == 10 then NotDirectory (parent new.path) else TooMany)))

  -- a directory is no plain file
  not_plain : (n : Node) → find path_cmp (parent new.path) s.tree.files ≡ Some n → n.kind ≡ Directory → IsRecordedAs Plain s.tree.files (parent new.path) → ⊥
  not_plain n at is h = let a = h.recorded in let b = h.is in cc

  -- in a directory
  in_directory : (row : PasswdRow) (n : Node) (d : Bool) → row_of s.people new.user ≡ Some row → exists new.path s.tree.files ≡ false
      → find path_cmp (parent new.path) s.tree.files ≡ Some n → n.kind ≡ Directory → nat_lt (length s.tree.files) max_files ≡ d
      → Decides s creates ((if d then Ok (record s.tree { files = put path_cmp new.path (inherit n new.kind new.mode new.umask row.uid row.gid) s.tree.files }) else Err TooMany) >>= with_tree s)
  in_directory row n false user_is fresh at is full =
      decides_err s creates TooMany (ltb-false _ _ full) (creat_cases (λ g. IsNotAfter s creates TooMany g)
      (λ h. absurd (some_row s.people new.user row user_is h)) (λ h. absurd (not_both _ h fresh)) (λ h. absurd (some_is_not_none _ n at h))
      (λ h. absurd (not_plain n at is h)) (λ _. ranked s creates _ _ refl (omega arith)))
  in_directory row n true user_is fresh at is room =
      decides_ok s creates _ (creat_cases (λ g. ⊥)
      (λ h. some_row s.people new.user row user_is h) (λ h. not_both _ h fresh) (λ h. some_is_not_none _ n at h) (λ h. not_plain n at is h) (λ h. not_both _ room (le-ltb _ _ h)))

  in_parent : (row : PasswdRow) (o : Option Node) → row_of s.people new.user ≡ Some row → exists new.path s.tree.files ≡ false
      → find path_cmp (parent new.path) s.tree.files ≡ o → Decides s creates ((only_directory (parent new.path) o >>= creat_in new row s.tree) >>= with_tree s)
  in_parent row None user_is fresh missing =
      decides_err s creates (NoSuchFile (parent new.path)) (refl, missing) (creat_cases (λ g. IsNotAfter s creates (NoSuchFile (parent new.path)) g)
      (λ h. absurd (some_row s.people new.user row user_is h)) (λ h. absurd (not_both _ h fresh)) (λ _. ranked s creates _ _ refl (omega arith))
      (λ _. ranked s creates _ _ refl (omega arith)) (λ _. ranked s creates _ _ refl (omega arith)))
  in_parent row (Some n) user_is fresh at = by n.kind refl
    where
      by : (k : Kind) → n.kind ≡ k → Decides s creates (((if is_directory k then Ok n else Err (NotDirectory (parent new.path))) >>= creat_in new row s.tree) >>= with_tree s)
      by Plain is =
          decides_err s creates (NotDirectory (parent new.path)) (refl, record { node = n; recorded = at; is = is }) (creat_cases (λ g. IsNotAfter s creates (NotDirectory (parent new.path)) g)
          (λ h. absurd (some_row s.people new.user row user_is h)) (λ h. absurd (not_both _ h fresh)) (λ h. absurd (some_is_not_none _ n at h))
          (λ _. ranked s creates _ _ refl (omega arith)) (λ _. ranked s creates _ _ refl (omega arith)))
      by Directory is = in_directory row n (nat_lt (length s.tree.files) max_files) user_is fresh at is refl

  -- what a user gets, by whether a file is there
  abbrev outcome : Option PasswdRow → Bool → Result Recorded TreeFault
  outcome None b = Err (NoSuchUser new.user)
  outcome (Some row) b = if b then Err (Exists new.path) else (only_directory (parent new.path) (find path_cmp (parent new.path) s.tree.files) >>= creat_in new row s.tree)

  outcome_is : (o : Option PasswdRow) → outcome o (exists new.path s.tree.files) ≡ creat_by new s.tree o
  outcome_is None = refl
  outcome_is (Some row) = refl

  by_user : (o : Option PasswdRow) (b : Bool) → row_of s.people new.user ≡ o → exists new.path s.tree.files ≡ b
      → Decides s creates (outcome o b >>= with_tree s)
  by_user None b no_user _ =
      decides_err s creates (NoSuchUser new.user) (refl, no_row s.people new.user no_user) (creat_cases (λ g. IsNotAfter s creates (NoSuchUser new.user) g)
      (λ _. ranked s creates _ _ refl (omega arith)) (λ _. ranked s creates _ _ refl (omega arith)) (λ _. ranked s creates _ _ refl (omega arith))
      (λ _. ranked s creates _ _ refl (omega arith)) (λ _. ranked s creates _ _ refl (omega arith)))
  by_user (Some row) true user_is there =
      decides_err s creates (Exists new.path) (refl, exists_within new.path s.tree.files s.tree.files (leads_all s.tree.files order) there) (creat_cases (λ g. IsNotAfter s creates (Exists new.path) g)
      (λ h. absurd (some_row s.people new.user row user_is h)) (λ _. ranked s creates _ _ refl (omega arith)) (λ _. ranked s creates _ _ refl (omega arith))
      (λ _. ranked s creates _ _ refl (omega arith)) (λ _. ranked s creates _ _ refl (omega arith)))
  by_user (Some row) false user_is fresh = in_parent row (find path_cmp (parent new.path) s.tree.files) user_is fresh refl

  pub creat_refused : IsRefusedForFirst s (Creat new)
  creat_refused =
      refused_for_first s creates
      (apart_by s creates of_rank (creat_cases (λ g. g ≡ of_rank (rank g)) (λ _. refl) (λ _. refl) (λ _. refl) (λ _. refl) (λ _. refl)))
      (subst (λ r. Decides s creates (r >>= with_tree s)) (outcome_is (row_of s.people new.user))
      (by_user (row_of s.people new.user) (exists new.path s.tree.files) refl refl))
