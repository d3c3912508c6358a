-- What a name table keeps. Only clauses of inner functions name it.
use Rattle.std.specs.Prelude.{◌≡◌, ℕ, ◌+◌, ◌-◌, ◌==◌, ◌||◌, List, [], ◌∷◌, map, filter, find, Bool, not, nat_lt, Option, option_map, Vec, if◌then◌else◌}
use Rattle.std.specs.List.Sorted.{IsNonDecreasingBy}
use Rattle.acl_text.specs.Ids.{is_number}
use Rattle.acl_people.specs.declared.places_by_id.Note.{Note}
use Rattle.acl_people.specs.NameTables.{Named}

-- the names of a map, with their ids
abbrev pub named_in : {Z : Type 0} → List (Vec ℕ Z × ℕ) → List Named
named_in entries = map (λ e. (e.0.items, e.1)) entries

-- a name has a note: each, or only one that is not digits alone
abbrev pub has_note : Bool → Named → Bool
has_note digits e = digits || not (is_number e.0)

-- the notes of names that pass, where the first name has the place n
abbrev pub notes_from : (Named → Bool) → ℕ → List Named → List Note
notes_from test n [] = []
notes_from test n (e ∷ es) = if test e then record { id = e.1; place = n } ∷ notes_from test (n + 1) es else notes_from test (n + 1) es

abbrev pub notes_of : Bool → List Named → List Note
notes_of digits es = notes_from (has_note digits) 0 es

abbrev pub is_for : ℕ → Note → Bool
is_for id n = n.id == id

-- the first place that is noted for an id
abbrev pub first_place : ℕ → List Note → Option ℕ
first_place id notes = option_map (λ n. n.place) (find (is_for id) notes)

-- in the order of the ids
abbrev pub AreInOrder : List Note → Type 0
AreInOrder notes = IsNonDecreasingBy (λ n. n.id) notes

-- the old notes in the order of the ids, those of one id as they were
pub record AreSorted (old new : List Note) : Type 0 where
  pub in_order : AreInOrder new
  pub same : (id : ℕ) → filter (is_for id) new ≡ filter (is_for id) old

-- a note once the name at the place `gone` is removed
abbrev pub lowered : ℕ → Note → Note
lowered gone n = record { id = n.id; place = if nat_lt gone n.place then n.place - 1 else n.place }

-- the notes without that of a place
abbrev pub without_place : ℕ → List Note → List Note
without_place gone notes = map (lowered gone) (filter (λ n. not (n.place == gone)) notes)
