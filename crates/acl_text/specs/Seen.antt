-- The names of the rows that were counted, as they are looked up.
use Rattle.std.specs.Prelude.{◌≡◌, ℕ, List, is_some}
use Rattle.std.specs.Ordering.{nat_cmp}
use Rattle.std.specs.Cmp.Lexicographic.{slice_cmp}
use Rattle.std.specs.BTreeMap.{BTreeMap, get_by}
use denote.Ref.{Bor}
use Rattle.acl_text.specs.Rows.{is_repeated}

abbrev pub SeenNames : Type 0
SeenNames = BTreeMap (Bor (List ℕ)) (Unit {0})

-- the keys are the names of the rows
abbrev pub SeenNamesAre : {R : Type 0} → (R → List ℕ) → SeenNames → List R → Type 0
SeenNamesAre name_of seen rows = (name : List ℕ) → is_some (get_by (λ k. slice_cmp nat_cmp name k.now) seen) ≡ is_repeated name_of rows name
