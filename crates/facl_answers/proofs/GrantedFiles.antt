-- The files of a state with what each user is granted on them are those of a walk over the files and their rows.
use Rattle.std.proofs.Common.{◌≡◌, ℕ, suc, Bool, true, false, not, cond, List, [], ◌∷◌, ◌++◌, append_assoc, map, Option, Some, None, refl, sym, ap, subst, ◌∙◌}
use Rattle.std.specs.Prelude.{option_map, slice_get}
use Rattle.std.proofs.lemmas.Option.{slice_get-map}
use Rattle.acl_entry.specs.Person.{Person}
use Rattle.acl_names.specs.Paths.{PathOf}
use Rattle.acl_names.proofs.Below.{not_before}
use Rattle.acl_text.specs.declared.rows.PasswdRow.{PasswdRow}
use Rattle.acl_edit.specs.declared.node.Node.{Node}
use Rattle.acl_people.specs.KnownPeople.{person, persons}
use Rattle.path_map.specs.Below.{from, holds_below}
use Rattle.path_map.specs.Entries.{IsInOrder}
use Rattle.acl_tree.specs.Files.{Files}
use Rattle.acl_tree.specs.Found.{FoundFile, found_file, found_in}
use Rattle.acl_tree.specs.State.{State}
use Rattle.acl_tree.proofs.Follows.{known_by_next}
use Rattle.path_classes.specs.ReachedRows.{reached_from}
use Rattle.acl_rights.specs.Reach.{reach}
use Rattle.acl_rights.specs.Rows.{Verdict, cells_of, rows_of}
use Rattle.acl_rights.specs.Verdicts.{granted, rows_granted}
use Rattle.acl_rights.proofs.Reached.{cell_reached}
use Rattle.facl_answers.specs.Inner.{RowedFile, files_granted, rowed_files}

-- all files are not before the root
pub from_root : {A : Type 0} (top : PathOf) (files : List (PathOf × A)) → top ≡ [] → from top files ≡ files
from_root top files root = ap (λ t. from t files) root ∙ all files
  where
    all : {A : Type 0} (files : List (PathOf × A)) → from [] files ≡ files
    all [] = refl
    all (file ∷ files) = ap (λ b. cond (not b) (file ∷ from [] files) (from [] files)) (not_before [] file.0 refl) ∙ ap (λ l. file ∷ l) (all files)

pub same_items : {A : Type 0} (xs ys : List A) → ((i : ℕ) → slice_get xs i ≡ slice_get ys i) → xs ≡ ys
same_items [] [] h = refl
same_items [] (y ∷ ys) h = absurd (let differ = h 0 in cc)
same_items (x ∷ xs) [] h = absurd (let differ = h 0 in cc)
same_items (x ∷ xs) (y ∷ ys) h = let here : Some x ≡ Some y = h 0 in let same : x ≡ y = cc in λ i. same i ∷ same_items xs ys (λ n. h (suc n)) i

module _ (V : Verdict) (s : State) where
  abbrev t : Files
  t = s.tree.files

  abbrev us : List Person
  us = persons s.people

  -- what each user is granted on a file
  abbrev pub cells_granted : Bool → PathOf × Node → List ℕ
  cells_granted along e = map (λ row. granted V along s row e) s.people.users

  -- the verdict on a user in the row of a file
  pub cell_granted : (along : Bool) (e : PathOf × Node) (user : ℕ) → slice_get (cells_granted along e) user ≡ option_map (λ row. granted V along s row e) (slice_get s.people.users user)
  cell_granted along e user = slice_get-map (λ row. granted V along s row e) s.people.users user

  person_at : (f : Person → ℕ) (user : ℕ) → option_map f (slice_get us user) ≡ option_map (λ row. f (person s.people.groups row)) (slice_get s.people.users user)
  person_at f user = ap (option_map f) (slice_get-map (person s.people.groups) s.people.users user) ∙ twice (slice_get s.people.users user)
    where
      twice : (o : Option PasswdRow) → option_map f (option_map (person s.people.groups) o) ≡ option_map (λ row. f (person s.people.groups row)) o
      twice None = refl
      twice (Some row) = refl

  row_along : (e : PathOf × Node) → reached_from (rows_of V us t) e.0 0 (cells_of V us e.1) ≡ cells_granted true e
  row_along e =
      same_items (reached_from (rows_of V us t) e.0 0 (cells_of V us e.1)) (cells_granted true e)
      (λ user. cell_reached V us t e.0 user (Some e.1) ∙ person_at (λ u. reach V t u e) user ∙ sym (cell_granted true e user))

  row_alone : (e : PathOf × Node) → cells_of V us e.1 ≡ cells_granted false e
  row_alone e =
      same_items (cells_of V us e.1) (cells_granted false e) (λ user. slice_get-map (λ u. V u e.1.label) us user ∙ person_at (λ u. V u e.1.label) user ∙ sym (cell_granted false e user))

  -- the rows of the files
  pub rows_are : (along : Bool) → rows_granted V along s ≡ map {B = PathOf × List ℕ} (λ (e : PathOf × Node). (e.0, cells_granted along e)) t
  rows_are true = reached t
    where
      reached : (es : Files) → map {B = PathOf × List ℕ} (λ (r : PathOf × List ℕ). (r.0, reached_from (rows_of V us t) r.0 0 r.1)) (rows_of V us es)
          ≡ map {B = PathOf × List ℕ} (λ (e : PathOf × Node). (e.0, cells_granted true e)) es
      reached [] = refl
      reached (e ∷ es) = λ i. (e.0, row_along e i) ∷ reached es i
  rows_are false = alone t
    where
      alone : (es : Files) → rows_of V us es ≡ map {B = PathOf × List ℕ} (λ (e : PathOf × Node). (e.0, cells_granted false e)) es
      alone [] = refl
      alone (e ∷ es) = λ i. (e.0, row_alone e i) ∷ alone es i

  -- the files with these rows
  pub files_are : (along : Bool) → IsInOrder t → rowed_files t (rows_granted V along s) ≡ files_granted V along s
  files_are along order = ap (rowed_files t) (rows_are along) ∙ each [] t refl
    where
      each : (done es : Files) → t ≡ done ++ es → rowed_files es (map {B = PathOf × List ℕ} (λ (e : PathOf × Node). (e.0, cells_granted along e)) es)
          ≡ map {B = RowedFile} (λ (file : FoundFile). (file, cells_granted along (file.path, file.node))) (found_in t es)
      each done [] all = refl
      each done (e ∷ es) all =
          let here = known_by_next done e es (subst IsInOrder all order) ∙ ap (λ (l : Files). holds_below l e.0) (sym all) in
          let more = each (done ++ e ∷ []) es (all ∙ sym (append_assoc done (e ∷ []) es)) in
          λ i. (found_file (here i) e, cells_granted along e) ∷ more i
