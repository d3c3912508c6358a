-- Rows after a user joined or left groups: the labels that mention them, and where these are.
use Rattle.std.proofs.Common.{◌≡◌, ℕ, Bool, true, false, cond, ◌||◌, List, [], ◌∷◌, length, filter, Some, None, refl, sym, ap, subst, ◌∙◌, true≢false}
use Rattle.std.specs.Prelude.{count_by, option_map, nat_lt, ⊤, if◌then◌else◌}
use Rattle.std.specs.List.{AllByRecursion}
use Rattle.std.specs.Option.{option_map_or}
use Rattle.std.proofs.lemmas.List.Sums.{length-filter}
use Rattle.acl_names.specs.Paths.{PathOf}
use Rattle.acl_names.specs.Below.{encloses}
use Rattle.acl_names.proofs.Below.{within_itself}
use Rattle.acl_entry.specs.Mentions.{mentions}
use Rattle.path_map.specs.Below.{lies_in}
use Rattle.kinds.specs.Kinds.{KindsOf, node_at, count_at, IsNode}
use Rattle.kinds.specs.Numbered.{Kept, Numbers, with_node, entries_by, AreUsed}
use Rattle.kinds.specs.Tagged.{is_one, meets, tags_at, ChangesTagged}
use Rattle.path_classes.specs.declared.label_row.LabelRow.{LabelRow}
use Rattle.path_classes.specs.ClassesWithin.{is_inside, inside}
use Rattle.path_classes.specs.ClassedRows.{AllInside}
use Rattle.path_classes.specs.ClassedRows.{ChangesRows}
use Rattle.path_classes.specs.KindRows.{RowedPaths}
use Rattle.acl_rights.specs.KindRows.{mentions_any}
use Rattle.acl_rights.proofs.Counted.{entries_counted}
use Rattle.acl_rights.proofs.Inside.{paths, lies_at, count_same}

abbrev pub groups_of : LabelRow → List ℕ
groups_of r = mentions r.label

-- those whose labels mention one of some groups
abbrev pub mentioning : List ℕ → RowedPaths → RowedPaths
mentioning groups es = filter (λ d. mentions_any groups d.1) es

-- ---- the labels that changed

module _ (f : LabelRow → LabelRow) (groups labels : List ℕ) (old new : Kept LabelRow) (changed : ChangesTagged f groups_of groups old.0 new.0) (same_paths : new.1 ≡ old.1)
    (same : (n : ℕ) → is_one n labels ≡ false → node_at new.0 n ≡ node_at old.0 n) where
  pub changes_rows : ChangesRows old labels new
  changes_rows = record {
    numbers = same_paths;
    there = λ n is. by n is.0 is.1 (meets (tags_at groups_of old.0 n) groups) refl;
    same = λ n out. ap (option_map (λ (x : LabelRow). x.row)) (same n out);
  }
    where
      by : (n : ℕ) (x : LabelRow) → node_at old.0 n ≡ Some x → (b : Bool) → meets (tags_at groups_of old.0 n) groups ≡ b → IsNode new.0 n
      by n x is true met = (f x, changed.nodes n ∙ ap (λ b. if b then option_map f (node_at old.0 n) else node_at old.0 n) met ∙ ap (option_map f) is)
      by n x is false met = (x, changed.nodes n ∙ ap (λ b. if b then option_map f (node_at old.0 n) else node_at old.0 n) met ∙ is)

-- ---- where they are

module _ (groups labels : List ℕ) (k : KindsOf LabelRow) (among : (n : ℕ) → is_one n labels ≡ true → meets (tags_at groups_of k n) groups ≡ true) where
  -- a label that changed mentions one of the groups
  met : (n : ℕ) (x : LabelRow) → node_at k n ≡ Some x → is_one n labels ≡ true → mentions_any groups x ≡ true
  met n x is found = by (nat_lt 0 (count_at k n)) refl
    where
      by : (b : Bool) → nat_lt 0 (count_at k n) ≡ b → mentions_any groups x ≡ true
      by true some =
          sym (ap (λ o. meets (option_map_or groups_of o []) groups) (ap (λ b. if b then node_at k n else None) some ∙ is)) ∙ among n found
      by false none =
          absurd (true≢false (sym (among n found) ∙ ap (λ o. meets (option_map_or groups_of o []) groups) (ap (λ b. if b then node_at k n else None) none)))

  is_here : (e : PathOf × LabelRow) (es : RowedPaths) → mentions_any groups e.1 ≡ true → is_inside (paths (mentioning groups (e ∷ es))) e.0 ≡ true
  is_here e es m = ap (λ b. is_inside (paths (cond b (e ∷ mentioning groups es) (mentioning groups es))) e.0) m ∙ ap (λ b. b || is_inside (paths (mentioning groups es)) e.0) (within_itself e.0)

  still : (e : PathOf × LabelRow) (es : RowedPaths) (p : PathOf) → is_inside (paths (mentioning groups es)) p ≡ true → is_inside (paths (mentioning groups (e ∷ es))) p ≡ true
  still e es p h = by (mentions_any groups e.1)
    where
      or_true : (a : Bool) → (a || true) ≡ true
      or_true true = refl
      or_true false = refl

      by : (b : Bool) → is_inside (paths (cond b (e ∷ mentioning groups es) (mentioning groups es))) p ≡ true
      by true = ap (λ b. encloses e.0 p || b) h ∙ or_true (encloses e.0 p)
      by false = h

  all_still : (e : PathOf × LabelRow) (es : RowedPaths) (ns : Numbers) → AllInside labels (paths (mentioning groups es)) ns → AllInside labels (paths (mentioning groups (e ∷ es))) ns
  all_still e es [] h = tt
  all_still e es (n ∷ ns) h = (λ found. still e es n.0 (h.0 found), all_still e es ns h.1)

  pub all_labelled : (ns : Numbers) → AreUsed k ns → AllInside labels (paths (mentioning groups (entries_by k ns))) ns
  all_labelled [] used = tt
  all_labelled (e ∷ ns) used =
      let x = used.0.0 in
      let entries : entries_by k (e ∷ ns) ≡ (e.0, x) ∷ entries_by k ns = ap (λ o. with_node e.0 o (entries_by k ns)) used.0.1 in
      subst (λ (es : RowedPaths). AllInside labels (paths (mentioning groups es)) (e ∷ ns)) (sym entries)
      (λ found. is_here (e.0, x) (entries_by k ns) (met e.1 x used.0.1 found), all_still (e.0, x) (entries_by k ns) ns (all_labelled ns used.1))

-- as many numbers are inside as entries lie there
pub inside_lying : (groups : List ℕ) (k : KindsOf LabelRow) (ns : Numbers) → AreUsed k ns
    → length (inside (paths (mentioning groups (entries_by k ns))) ns) ≡ count_by (λ (e : PathOf × LabelRow). lies_in (mentioning groups (entries_by k ns)) e.0) (entries_by k ns)
inside_lying groups k ns used =
    let tops = mentioning groups (entries_by k ns) in
    length-filter (λ (e : PathOf × ℕ). is_inside (paths tops) e.0) ns
    ∙ entries_counted k (is_inside (paths tops)) ns used
    ∙ count_same (λ (e : PathOf × LabelRow). ⊤) (λ e. is_inside (paths tops) e.0) (λ e. lies_in tops e.0) (λ e h. lies_at tops e.0) (entries_by k ns) (all_true (entries_by k ns))
  where
    all_true : (es : RowedPaths) → AllByRecursion (λ (e : PathOf × LabelRow). ⊤) es
    all_true [] = tt
    all_true (e ∷ es) = (tt, all_true es)
