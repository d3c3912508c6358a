-- Rows that are known, and those of the numbers of files.
use Rattle.std.proofs.Common.{◌≡◌, ℕ, zero, suc, ◌+◌, ◌-◌, ◌*◌, ◌<◌, ◌≤◌, ◌++◌, List, [], ◌∷◌, Option, length, refl, sym, ap, subst, ◌∙◌, arith}
use Rattle.std.specs.Prelude.{Some, slice_get, option_map}
use Rattle.std.specs.List.{AllByRecursion}
use Rattle.std.specs.declared.rc.Rc.{Rc}
use Rattle.std.proofs.lemmas.List.{map-append, length-map}
use Rattle.acl_names.proofs.Basics.{some_same, all_end, sum_times}
use Rattle.kinds.specs.Kinds.{KindsOf}
use Rattle.kinds.specs.Numbered.{Numbers, AreSound, entries_by}
use Rattle.kinds.specs.Renewed.{renewed_before}
use Rattle.kinds.specs.Placed.{placed, IsOfEntry}
use Rattle.kinds.specs.Given.{used_at, shared_nodes, HaveNodes}
use Rattle.kinds.proofs.Renewals.{length-renewed}
use Rattle.kinds.proofs.GivenNodes.{used_renewed, renewed_have, placed_renewed}
use Rattle.acl_entry.specs.Person.{Person}
use Rattle.acl_entry.specs.declared.label.Label.{Label}
use Rattle.acl_edit.specs.declared.node.Node.{Node}
use Rattle.path_classes.specs.declared.label_row.LabelRow.{LabelRow}
use Rattle.acl_rights.specs.Rows.{Verdict, row_of}
use Rattle.path_classes.specs.KindRows.{RowedPaths}
use Rattle.acl_rights.specs.KindRows.{label_row, node_row, rowed, shared_rows, AreRowsOf, AreRows, AreOfEntries, IsAmongRows}
use Rattle.acl_rights.proofs.RowsOfKinds.{row_at}

all_item : {A : Type 0} (P : A → Type 0) (xs : List A) (at : ℕ) (x : A) → AllByRecursion P xs → slice_get xs at ≡ Some x → P x
all_item P [] at x h is = cc
all_item P (y ∷ xs) zero x h is = subst P (some_same is) h.0
all_item P (y ∷ xs) (suc at) x h is = all_item P xs at x h.1 is

-- what counts for one number more is no more than what counts for all
times_one : (u : ℕ) → 1 * u ≡ u
times_one u = grind arith

pub one_more : (n u : ℕ) → (n + 1) * u ≡ n * u + u
one_more n u = sum_times n 1 u ∙ ap (λ x. n * u + x) (times_one u)

pub fits : (n m u : ℕ) → n < m → n * u + u ≤ m * u
fits n m u lt =
    let left = m - (n + 1) in
    let is : m ≡ (n + 1) + left = omega (arith, lt) in
    let parts : m * u ≡ (n + 1) * u + left * u = ap (λ x. x * u) is ∙ sum_times (n + 1) left u in
    omega (arith, parts, one_more n u)

-- ---- rows that are known

-- one row more
module _ {Z : Type 0} (rows new : List (Rc LabelRow Z)) (row : Rc LabelRow Z) (made : new ≡ rows ++ row ∷ []) where
  more : shared_rows new ≡ shared_rows rows ++ row.value ∷ []
  more = ap shared_rows made ∙ map-append (λ r. r.value) rows (row ∷ [])

  pub of_entries_more : (es : RowedPaths) → AreOfEntries (shared_rows rows) es → IsOfEntry row.value es → AreOfEntries (shared_rows new) es
  of_entries_more es all is = subst (λ (rs : List LabelRow). AreOfEntries rs es) (sym more) (all_end (λ r. IsOfEntry r es) (shared_rows rows) row.value all is)

  pub rows_more : (V : Verdict) (us : List Person) (l : Label) → AreRows V us (shared_rows rows) → row.value ≡ label_row V us l → AreRows V us (shared_rows new)
  rows_more V us l all is =
      subst (λ (rs : List LabelRow). AreRows V us rs) (sym more)
      (all_end (λ r. r.row ≡ row_of V us r.label) (shared_rows rows) row.value all (subst (λ (r : LabelRow). r.row ≡ row_of V us r.label) (sym is) refl))

module _ (V : Verdict) (us : List Person) where
  -- rows of entries are those of their labels
  pub rows_of_entries : (rs : List LabelRow) (es : RowedPaths) → AreOfEntries rs es → AreRowsOf V us es → AreRows V us rs
  rows_of_entries [] es of all = tt
  rows_of_entries (r ∷ rs) es of all = (row_at V us es of.0.0 r all of.0.1, rows_of_entries rs es of.1 all)

  -- one that has a label is that of the label
  pub row_among : (rs : List LabelRow) (l : Label) (r : LabelRow) → AreRows V us rs → IsAmongRows l r rs → r ≡ label_row V us l
  row_among rs l r all is =
      let row : r.row ≡ row_of V us r.label = all_item (λ r. r.row ≡ row_of V us r.label) rs is.0.0 r all is.0.1 in
      ap (λ x. record { label = r.label; row = x }) row ∙ ap (label_row V us) is.1

  -- ---- rows of numbers

  -- one number more
  pub numbers_more : {Z : Type 0} (k : KindsOf Node) (n : ℕ) (rows new : List (Option (Rc LabelRow Z))) (row : Option (Rc LabelRow Z)) → new ≡ rows ++ row ∷ []
      → shared_nodes rows ≡ renewed_before (node_row V us) k n → option_map (λ r. r.value) row ≡ option_map (node_row V us) (used_at k n) → shared_nodes new ≡ renewed_before (node_row V us) k (n + 1)
  numbers_more k n rows new row made so_far is =
      let next : suc n ≡ n + 1 = omega arith in
      ap shared_nodes made
      ∙ map-append (option_map (λ r. r.value)) rows (row ∷ [])
      ∙ (λ i. so_far i ++ (is ∙ sym (used_renewed (node_row V us) k n)) i ∷ [])
      ∙ ap (renewed_before (node_row V us) k) next

  module _ {Z : Type 0} (k : KindsOf Node) (ns : Numbers) (rows : List (Option (Rc LabelRow Z))) (sound : AreSound k ns) (are : shared_nodes rows ≡ renewed_before (node_row V us) k (length k.0)) where
    pub rows_long : length rows ≡ length k.0
    rows_long = sym (length-map rows (option_map (λ r. r.value))) ∙ ap length are ∙ length-renewed (node_row V us) k (length k.0)

    pub rows_have : HaveNodes (shared_nodes rows) ns
    rows_have = subst (λ (nodes : List (Option LabelRow)). HaveNodes nodes ns) (sym are) (renewed_have (node_row V us) k ns sound)

    pub rows_rowed : placed (shared_nodes rows) ns ≡ rowed V us (entries_by k ns)
    rows_rowed = ap (λ (nodes : List (Option LabelRow)). placed nodes ns) are ∙ placed_renewed (node_row V us) k ns sound
