-- The lines of the files of two states, one file after another.
use Rattle.std.proofs.Common.{◌≡◌, ◌==◌, ℕ, Bool, true, false, cond, not, ◌||◌, List, [], ◌∷◌, ◌++◌, length, take, Option, Some, None, append-nil, append_assoc, refl, sym, ap, ◌∙◌}
use Rattle.std.specs.List.{list_all, list_any}
use Rattle.std.proofs.lemmas.Bool.{and_parts, eqb-true}
use Rattle.acl_names.specs.Below.{encloses}
use Rattle.acl_names.specs.Paths.{PathOf}
use Rattle.path_map.specs.Entries.{IsInOrder}
use Rattle.facl_answers.specs.declared.placed_users.PlacedUser.{PlacedUser}
use Rattle.facl_answers.specs.BothStates.{BothClassed, IsTaken, Sides, TakesNextWithin, front, rows_of_both, rows_of_key}
use Rattle.facl_answers.specs.Requests.{requests_granted}
use Rattle.facl_answers.specs.Inner.{differs, keeps_place, lines_between, lines_of_file, lines_of_files, same_place, verdict_or_none}
use Rattle.facl_output.proofs.Parts.{begins_itself, begins_more}
use Rattle.facl_answers.proofs.BothRows.{key_rows}
use Rattle.facl_answers.proofs.Unchanged.{lines_none, no_change}

-- ---- files without a line

same_places : (before after : Option ℕ) → same_place before after ≡ true → before ≡ after
same_places None None h = refl
same_places None (Some after) h = absurd (cc h)
same_places (Some before) None h = absurd (cc h)
same_places (Some before) (Some after) h = ap Some (eqb-true before after h)

-- where the users are the same, a file whose row is the same has no line
pub same_rows : (users : List PlacedUser) → list_all keeps_place users ≡ true → (path row : List ℕ) → lines_between users path row row ≡ []
same_rows [] h path row = refl
same_rows (user ∷ users) h path row =
    let parts = and_parts (keeps_place user) (list_all keeps_place users) h in
    let place = same_places user.before user.after parts.0 in
    let here = lines_none path user.name.items (verdict_or_none row user.before) (verdict_or_none row user.after) (λ i. requests_granted (verdict_or_none row (place i))) in
    λ i. here i ++ same_rows users parts.1 path row i

neither : (a b : Bool) → (not a || b) ≡ false → (a ≡ true) × (b ≡ false)
neither true b h = (refl, h)
neither false b h = absurd (cc h)

-- where no verdict differs there is no line
pub none_differs : (users : List PlacedUser) (before after : List ℕ) → list_any (differs before after) users ≡ false → (path : List ℕ) → lines_between users path before after ≡ []
none_differs [] before after h path = refl
none_differs (user ∷ users) before after h path =
    let had = verdict_or_none before user.before in
    let has = verdict_or_none after user.after in
    let parts = neither (had == has) (list_any (differs before after) users) h in
    λ i. no_change path user.name.items had has (eqb-true had has parts.0) i ++ none_differs users before after parts.1 path i

-- ---- a walk over both

module _ (users : List PlacedUser) (text_of : PathOf → List ℕ) (top : PathOf) (start : BothClassed) where
  -- the lines of what is still to come
  abbrev pub lines_left : BothClassed → List ℕ
  lines_left both = lines_of_files users text_of (front top (rows_of_both both.0.1 both.1.1))

  -- the lines so far, and those of what is still to come, are all lines
  pub record IsPushing (old : List ℕ) (both : BothClassed) (text : List ℕ) : Type 0 where
    pub before : IsInOrder both.0.1
    pub after : IsInOrder both.1.1
    pub lines : text ++ lines_left both ≡ old ++ lines_left start
    pub begins : take (length old) text ≡ old

  pub pushing_starts : (old : List ℕ) → IsInOrder start.0.1 → IsInOrder start.1.1 → IsPushing old start old
  pushing_starts old before after = record { before = before; after = after; lines = refl; begins = begins_itself old }

  pub pushing_more : (old : List ℕ) (both next : BothClassed) (path : PathOf) (key : Sides) (text more : List ℕ) → encloses top path ≡ true → IsTaken both (path, key) next
      → more ≡ text ++ lines_of_file users text_of (path, rows_of_key next key) → IsPushing old both text → IsPushing old next more
  pushing_more old both next path key text more inside taken pushed at =
      let here = pushed ∙ ap (λ rows. text ++ lines_of_file users text_of (path, rows)) (key_rows next key taken.rows taken.has) in
      let file = lines_of_file users text_of (path, taken.rows) in
      record {
        before = taken.before_order;
        after = taken.after_order;
        lines =
            ap (λ l. l ++ lines_left next) here
            ∙ append_assoc text file (lines_left next)
            ∙ ap (λ files. text ++ lines_of_files users text_of files)
            (sym (ap (front top) taken.is ∙ ap (λ b. cond b ((path, taken.rows) ∷ front top (rows_of_both next.0.1 next.1.1)) []) inside))
            ∙ at.lines;
        begins = begins_more old text file more at.begins here;
      }

  pub pushing_ends : (old : List ℕ) (both next : BothClassed) (text : List ℕ) → TakesNextWithin top both None next → IsPushing old both text → text ≡ old ++ lines_left start
  pushing_ends old both next text over at = sym (append-nil text) ∙ ap (λ files. text ++ lines_of_files users text_of files) (sym over.0) ∙ at.lines
