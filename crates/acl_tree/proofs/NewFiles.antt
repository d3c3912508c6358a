-- A file put among others: what it changes, and that the tree stays sound.
use Rattle.std.proofs.Common.{◌≡◌, ℕ, suc, ◌<◌, ◌≤◌, arith, Bool, true, false, cond, eqb, ◌||◌, List, [], ◌∷◌, length, filter, Option, Some, None, is_some}
use Rattle.std.proofs.Common.{Result, Ok, Err, if◌then◌else◌, nat_lt, ltb-false, Ordering, Less, Equal, Greater, refl, sym, ap, subst, ◌∙◌, true≢false}
use Rattle.std.specs.Prelude.{MatchOption}
use Rattle.std.specs.List.{list_any}
use Rattle.std.specs.Ordering.{is_eq, eq_by_cmp}
use Rattle.std.specs.FinMap.{find, put}
use Rattle.std.specs.FinMap.Entries.{by_order}
use Rattle.std.proofs.lemmas.Bool.{eqb-true}
use Rattle.acl_names.specs.Paths.{path_cmp, PathOf}
use Rattle.acl_names.proofs.PathOrder.{exact_paths}
use Rattle.acl_edit.specs.declared.node.Node.{Node}
use Rattle.acl_text.specs.declared.rows.PasswdRow.{PasswdRow}
use Rattle.acl_text.specs.Results.{◌>>=◌}
use Rattle.acl_edit.specs.Creation.{inherit}
use Rattle.acl_edit.specs.Nodes.{IsSound, is_directory}
use Rattle.acl_edit.specs.declared.node.Kind.{Kind}
use Rattle.acl_edit.specs.declared.node.Kind.TheVariants.{Plain, Directory}
use Rattle.path_map.specs.Merged.{has}
use Rattle.acl_names.proofs.Below.{below_within, not_before, not_below_itself, within_below, within_itself}
use Rattle.acl_names.proofs.Parents.{below_parent}
use Rattle.path_map.proofs.Differences.{Leads, leads_all, has_put_all}
use Rattle.acl_tree.specs.Files.{Files, Recorded, max_files}
use Rattle.acl_names.specs.Below.{is_above, encloses, parent}
use Rattle.acl_names.proofs.Basics.{or_first, or_second}
use Rattle.acl_tree.specs.Changed.{gone_between}
use Rattle.acl_tree.specs.Creat.{exists, only_directory, directory_at, creat_in, creat_by}
use Rattle.acl_tree.specs.declared.command.NewFile.{NewFile}
use Rattle.acl_tree.specs.declared.fault.TreeFault.{TreeFault}
use Rattle.acl_tree.specs.declared.fault.TreeFault.TheVariants.{NotDirectory, Exists, TooMany}
use Rattle.acl_tree.specs.InnerCommands.{IsNewIn}
use Rattle.path_map.specs.Below.{holds_below}
use Rattle.acl_tree.specs.Sound.{IsPlaced, ArePlaced, IsSoundTree}
use Rattle.acl_tree.proofs.Changes.{none_gone}
use Rattle.acl_tree.proofs.PutFile.{in_order-put}

-- ---- tests of lists

any_none : {A : Type 0} (test : A → Bool) (xs : List A) → filter test xs ≡ [] → list_any test xs ≡ false
any_none test [] h = refl
any_none test (x ∷ xs) h = by (test x) h (any_none test xs)
  where
    by : (b : Bool) → cond b (x ∷ filter test xs) (filter test xs) ≡ [] → (filter test xs ≡ [] → list_any test xs ≡ false) → (b || list_any test xs) ≡ false
    by true h rest = cc
    by false h rest = rest h

any_some : {A : Type 0} (test : A → Bool) (xs : List A) (y : A) (ys : List A) → filter test xs ≡ y ∷ ys → list_any test xs ≡ true
any_some test [] y ys h = cc
any_some test (x ∷ xs) y ys h = by (test x) h (any_some test xs y ys)
  where
    by : (b : Bool) → cond b (x ∷ filter test xs) (filter test xs) ≡ y ∷ ys → (filter test xs ≡ y ∷ ys → list_any test xs ≡ true) → (b || list_any test xs) ≡ true
    by true h rest = refl
    by false h rest = rest h

-- the or_first of those that pass a test, if there is one
pub first_passes : {A B : Type 0} (f : A → B) (test : B → Bool) (xs rest all : List B) (o : Option A) → all ≡ filter test xs
    → MatchOption o ((all ≡ []) × (rest ≡ [])) (λ a. all ≡ f a ∷ rest) → is_some o ≡ list_any test xs
first_passes f test xs rest all None is h = sym (any_none test xs (sym is ∙ h.0))
first_passes f test xs rest all (Some a) is h = sym (any_some test xs (f a) rest (sym is ∙ h))

-- ---- paths

-- what is above a file is at its parent or above that
above_parent : (q p : PathOf) → is_above q p ≡ true → encloses q (parent p) ≡ true
above_parent [] p h = refl
above_parent (x ∷ q) [] h = absurd (true≢false (sym h))
above_parent (x ∷ q) (y ∷ p) h = sym (below_parent (x ∷ q) (y ∷ p) (λ none. cc)) ∙ h

-- ---- below a path

either : (a b c d : Bool) → (c ≡ true → (a || d) ≡ true) → (b || c) ≡ true → (a || (b || d)) ≡ true
either true b c d f h = refl
either false true c d f h = refl
either false false c d f h = f h

below_put : (q p : PathOf) (n : Node) (t : Files) → holds_below (put path_cmp p n t) q ≡ true → (is_above q p || holds_below t q) ≡ true
below_put q p n [] h = h
below_put q p n (e ∷ t) h = by (path_cmp p e.0) (below_put q p n t) h
  where
    by : (o : Ordering) → (holds_below (put path_cmp p n t) q ≡ true → (is_above q p || holds_below t q) ≡ true)
        → holds_below (by_order o ((p, n) ∷ e ∷ t) ((e.0, n) ∷ t) (e ∷ put path_cmp p n t)) q ≡ true → (is_above q p || (is_above q e.0 || holds_below t q)) ≡ true
    by Less rest h = h
    by Equal rest h = or_second (is_above q p) (is_above q e.0 || holds_below t q) h
    by Greater rest h = either (is_above q p) (is_above q e.0) (holds_below (put path_cmp p n t) q) (holds_below t q) rest h

same_path : (p q : PathOf) → eq_by_cmp path_cmp p q ≡ true → p ≡ q
same_path p q h = exact_paths p q (equal (path_cmp p q) h)
  where
    equal : (o : Ordering) → is_eq o ≡ true → o ≡ Equal
    equal Less h = absurd (true≢false (sym h))
    equal Equal h = refl
    equal Greater h = absurd (true≢false (sym h))

-- above a recorded path a file is below
recorded_below : (q p : PathOf) (d : Node) (t : Files) → find path_cmp p t ≡ Some d → is_above q p ≡ true → holds_below t q ≡ true
recorded_below q p d [] h below = cc
recorded_below q p d (e ∷ t) h below = by (eq_by_cmp path_cmp p e.0) refl h (λ h. recorded_below q p d t h below)
  where
    by : (b : Bool) → eq_by_cmp path_cmp p e.0 ≡ b → cond b (Some e.1) (find path_cmp p t) ≡ Some d → (find path_cmp p t ≡ Some d → holds_below t q ≡ true) → (is_above q e.0 || holds_below t q) ≡ true
    by true is h rest = or_first (is_above q e.0) (holds_below t q) (subst (λ z. is_above q z ≡ true) (same_path p e.0 is) below)
    by false is h rest = or_second (is_above q e.0) (holds_below t q) (rest h)

-- a path with no file at it or below it is not recorded, and none is below it
absent_found : (p : PathOf) (t : Files) → exists p t ≡ false → find path_cmp p t ≡ None
absent_found p [] h = refl
absent_found p (e ∷ t) h = by (encloses p e.0) refl (eq_by_cmp path_cmp p e.0) refl h (absent_found p t)
  where
    by : (b : Bool) → encloses p e.0 ≡ b → (c : Bool) → eq_by_cmp path_cmp p e.0 ≡ c → (b || exists p t) ≡ false
        → (exists p t ≡ false → find path_cmp p t ≡ None) → cond c (Some e.1) (find path_cmp p t) ≡ None
    by true is c same h rest = absurd (true≢false h)
    by false is true same h rest = absurd (true≢false (sym (subst (λ z. encloses p z ≡ true) (same_path p e.0 same) (within_itself p)) ∙ is))
    by false is false same h rest = rest h

absent_below : (p : PathOf) (t : Files) → exists p t ≡ false → holds_below t p ≡ false
absent_below p [] h = refl
absent_below p (e ∷ t) h = by (is_above p e.0) refl (encloses p e.0) refl h (absent_below p t)
  where
    by : (b : Bool) → is_above p e.0 ≡ b → (c : Bool) → encloses p e.0 ≡ c → (c || exists p t) ≡ false → (exists p t ≡ false → holds_below t p ≡ false) → (b || holds_below t p) ≡ false
    by b is true within h rest = absurd (true≢false h)
    by true is false within h rest = absurd (true≢false (sym (below_within p e.0 is) ∙ within))
    by false is false within h rest = rest h

-- ---- soundness

placed_put : (all : Files) (p : PathOf) (n : Node) → IsPlaced all (p, n) → (es : Files) → ArePlaced all es → ArePlaced all (put path_cmp p n es)
placed_put all p n here [] h = (here, tt)
placed_put all p n here (e ∷ es) h = by (path_cmp p e.0) refl (placed_put all p n here es h.1)
  where
    by : (o : Ordering) → path_cmp p e.0 ≡ o → ArePlaced all (put path_cmp p n es) → ArePlaced all (by_order o ((p, n) ∷ e ∷ es) ((e.0, n) ∷ es) (e ∷ put path_cmp p n es))
    by Less is rest = (here, h)
    by Equal is rest = (subst (λ z. IsPlaced all (z, n)) (exact_paths p e.0 is) here, h.1)
    by Greater is rest = (h.0, rest)

one_longer : (p : PathOf) (n : Node) (t : Files) → length (put path_cmp p n t) ≤ suc (length t)
one_longer p n [] = omega arith
one_longer p n (e ∷ t) = by (path_cmp p e.0) (one_longer p n t)
  where
    by : (o : Ordering) → length (put path_cmp p n t) ≤ suc (length t) → length (by_order o ((p, n) ∷ e ∷ t) ((e.0, n) ∷ t) (e ∷ put path_cmp p n t)) ≤ suc (suc (length t))
    by Less h = omega arith
    by Equal h = omega arith
    by Greater h = omega arith

module _ (t : Recorded) (sound : IsSoundTree t) (e : PathOf × Node) (new : IsNewIn t.files e) where
  abbrev all : Files
  all = put path_cmp e.0 e.1 t.files

  some_eq : {A : Type 0} (a b : A) → Some a ≡ Some b → a ≡ b
  some_eq a b h = cc

  -- what is above the new file is a directory
  above_new : (x : PathOf × Node) → find path_cmp x.0 t.files ≡ Some x.1 → IsPlaced t.files x → is_above x.0 e.0 ≡ true → x.1.kind ≡ Directory
  above_new x found is below = by (path_cmp x.0 (parent e.0)) refl
    where
      within : encloses x.0 (parent e.0) ≡ true
      within = above_parent x.0 e.0 below

      by : (o : Ordering) → path_cmp x.0 (parent e.0) ≡ o → x.1.kind ≡ Directory
      by Less is_less = is.directory
          (or_second (eqb (length x.0) 0) (holds_below t.files x.0) (recorded_below x.0 (parent e.0) new.directory t.files new.recorded (within_below x.0 (parent e.0) within is_less)))
      by Equal same = ap (λ n. n.kind) (some_eq x.1 new.directory (sym found ∙ ap (λ p. find path_cmp p t.files) (exact_paths x.0 (parent e.0) same) ∙ new.recorded)) ∙ new.is_directory
      by Greater gt = absurd (true≢false (sym (ap greater gt) ∙ not_before x.0 (parent e.0) within))
        where
          greater : Ordering → Bool
          greater Less = false
          greater Equal = false
          greater Greater = true

  old_placed : (x : PathOf × Node) → find path_cmp x.0 t.files ≡ Some x.1 → IsPlaced t.files x → IsPlaced all x
  old_placed x found is = record {
    directory = λ h. by (eqb (length x.0) 0) refl h;
    default = is.default;
  }
    where
      split : (a b : Bool) → (a || b) ≡ true → (a ≡ true → x.1.kind ≡ Directory) → (b ≡ true → x.1.kind ≡ Directory) → x.1.kind ≡ Directory
      split true b h f g = f refl
      split false b h f g = g h

      by : (b : Bool) → eqb (length x.0) 0 ≡ b → (b || holds_below all x.0) ≡ true → x.1.kind ≡ Directory
      by true root h = is.directory (or_first (eqb (length x.0) 0) (holds_below t.files x.0) root)
      by false other h =
          split (is_above x.0 e.0) (holds_below t.files x.0) (below_put x.0 e.0 e.1 t.files h)
          (above_new x found is)
          (λ k. is.directory (or_second (eqb (length x.0) 0) (holds_below t.files x.0) k))

  all_placed : (es : Files) → Leads t.files es → ArePlaced t.files es → ArePlaced all es
  all_placed [] leads h = tt
  all_placed (x ∷ es) leads h = (old_placed x leads.0 h.0, all_placed es leads.1 h.1)

  new_placed : IsPlaced all e
  new_placed = record {
    directory = λ h. absurd (no_root e.0 refl h);
    default = new.default;
  }
    where
      none : (is_above e.0 e.0 || holds_below t.files e.0) ≡ false
      none = ap (λ b. b || holds_below t.files e.0) (not_below_itself e.0) ∙ absent_below e.0 t.files new.absent

      nothing : holds_below all e.0 ≡ true → ⊥
      nothing h = true≢false (sym (below_put e.0 e.0 e.1 t.files h) ∙ none)

      some_is_not_none : {A : Type 0} (a : A) → Some a ≡ None → ⊥
      some_is_not_none a h = cc

      -- the root is its own parent, which is recorded
      no_root : (p : PathOf) → p ≡ e.0 → (eqb (length e.0) 0 || holds_below all e.0) ≡ true → ⊥
      no_root [] is h = some_is_not_none new.directory
          (sym new.recorded ∙ ap (λ p. find path_cmp (parent p) t.files) (sym is) ∙ ap (λ p. find path_cmp p t.files) is ∙ absent_found e.0 t.files new.absent)
      no_root (x ∷ p) is h = nothing (other (eqb (length e.0) 0) refl (holds_below all e.0) h)
        where
          long : suc (length p) ≡ 0 → ⊥
          long h = omega (arith, h)

          other : (a : Bool) → eqb (length e.0) 0 ≡ a → (b : Bool) → (a || b) ≡ true → b ≡ true
          other true root b h = absurd (long (ap (λ p. length p) is ∙ eqb-true (length e.0) 0 root))
          other false root b h = h

  pub sound_with : IsSoundTree (record t { files = all })
  sound_with = record {
    order = in_order-put e.0 e.1 t.files sound.order;
    few = omega (arith, one_longer e.0 e.1 t.files, new.room);
    unloaded = λ h. absurd (some_is_not_none new.directory (sym new.recorded ∙ ap (λ es. find path_cmp (parent e.0) es) (sound.unloaded h)));
    placed = placed_put all e.0 e.1 new_placed t.files (all_placed t.files (leads_all t.files sound.order) sound.placed);
  }
    where
      some_is_not_none : {A : Type 0} (a : A) → Some a ≡ None → ⊥
      some_is_not_none a h = cc

  -- no file is gone
  pub gone_with : gone_between t.files all ≡ []
  gone_with = none_gone t.files all sound.order (λ p h. has_put_all p (e ∷ []) t.files ∙ or_second (has p (e ∷ [])) (has p t.files) h)

-- ---- the new file of a user

kind_is : (k : Kind) → is_directory k ≡ true → k ≡ Directory
kind_is Plain h = cc
kind_is Directory h = refl

abbrev node_or : Node → Result Node TreeFault → Node
node_or d (Ok n) = n
node_or d (Err fault) = d

err_is_not_ok : (fault : TreeFault) (n : Node) → Err fault ≡ Ok n → ⊥
err_is_not_ok fault n h = cc

only : (p : PathOf) (d : Node) (o : Option Node) → only_directory p o ≡ Ok d → (o ≡ Some d) × (d.kind ≡ Directory)
only p d None h = absurd (err_is_not_ok _ d h)
only p d (Some n) h = by (is_directory n.kind) refl h
  where
    by : (b : Bool) → is_directory n.kind ≡ b → (if b then Ok n else Err (NotDirectory p)) ≡ Ok d → (Some n ≡ Some d) × (d.kind ≡ Directory)
    by true is h = let e : n ≡ d = ap (node_or n) h in (ap (λ n. Some n) e, ap (λ n. n.kind) (sym e) ∙ kind_is n.kind is)
    by false is h = absurd (err_is_not_ok _ d h)

is_room : (n m : ℕ) → n < m → nat_lt n m ≡ true
is_room n m h = by (nat_lt n m) refl
  where
    by : (b : Bool) → nat_lt n m ≡ b → nat_lt n m ≡ true
    by true is = is
    by false is = absurd (omega (arith, ltb-false n m is, h))

module _ (new : NewFile) (row : PasswdRow) (t : Recorded) (d : Node) (e : PathOf × Node) (absent : exists new.path t.files ≡ false)
    (at : directory_at (parent new.path) t.files ≡ Ok d) (room : length t.files < max_files) (is : e ≡ (new.path, inherit d new.kind new.mode new.umask row.uid row.gid)) where
  pub made_new : creat_by new t (Some row) ≡ Ok (record t { files = put path_cmp e.0 e.1 t.files })
  made_new =
      ap (λ b. if b then Err (Exists new.path) else (directory_at (parent new.path) t.files >>= creat_in new row t)) absent
      ∙ ap (λ r. r >>= creat_in new row t) at
      ∙ ap (λ b. if b then Ok (record t { files = put path_cmp new.path (inherit d new.kind new.mode new.umask row.uid row.gid) t.files }) else Err TooMany) (is_room (length t.files) max_files room)
      ∙ ap (λ (e : PathOf × Node). Ok (record t { files = put path_cmp e.0 e.1 t.files })) (sym is)

  pub is_new : IsSound (inherit d new.kind new.mode new.umask row.uid row.gid) → IsNewIn t.files e
  is_new sound =
      let found = only (parent new.path) d (find path_cmp (parent new.path) t.files) at in
      subst (λ (e : PathOf × Node). IsNewIn t.files e) (sym is)
      (record { absent = absent; directory = d; recorded = found.0; is_directory = found.1; room = room; default = sound })
