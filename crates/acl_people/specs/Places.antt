-- Where users are: the places that are listed for an id, and those of the users who pass a test.
use Rattle.std.specs.Prelude.{◌≡◌, ℕ, ◌==◌, ◌&&◌, ◌||◌, Bool, false, not, List, [], slice_get}
use Rattle.std.specs.List.{list_any}
use Rattle.std.specs.Option.{option_map_or}
use Rattle.std.specs.Ordering.{nat_cmp}
use Rattle.std.specs.BTreeMap.{get}
use Rattle.std.specs.FinSet as sets
use Rattle.acl_entry.specs.Person.{Person}
use Rattle.acl_entry.specs.Mentions.{is_one_of}
use Rattle.acl_people.specs.declared.places_by_id.Note.{Note}
use Rattle.acl_people.specs.declared.places_by_id.PlacesById.{PlacesById}

abbrev pub has_id : ℕ → Person → Bool
has_id id u = u.uid == id

abbrev pub is_in : ℕ → Person → Bool
is_in group u = sets.contains u.groups group

-- whether there is a user at the place, who passes
abbrev pub passes_at : (Person → Bool) → List Person → ℕ → Bool
passes_at test users at = option_map_or test (slice_get users at) false

-- the places are those of the users who pass
abbrev pub AreThose : (Person → Bool) → List Person → List ℕ → Type 0
AreThose test users places = (at : ℕ) → is_one_of at places ≡ passes_at test users at

-- a note of this place for this id
abbrev pub of_both : ℕ → ℕ → Note → Bool
of_both id at n = (n.id == id) && (n.place == at)

-- there is one among the notes
abbrev pub is_noted : ℕ → ℕ → List Note → Bool
is_noted id at notes = list_any (of_both id at) notes

-- the places that are listed for an id
abbrev pub noted_for : PlacesById → ℕ → List ℕ
noted_for n id = option_map_or (λ places. places.value.items) (get nat_cmp n.lists id) []

-- whether a place is listed for a group after user u replaced w at one place: `was` says whether it was listed, `here` whether it is that place
abbrev pub after_move : ℕ → Person → Person → Bool → Bool → Bool
after_move group w u here was = (was && not ((is_in group w && not (is_in group u)) && here)) || ((is_in group u && not (is_in group w)) && here)

-- for each id, the places of the users of it are listed
abbrev pub AreNoted : (ℕ → Person → Bool) → PlacesById → List Person → Type 0
AreNoted test n users = (id : ℕ) → AreThose (test id) users (noted_for n id)

-- the notes are those of the users' places, for each id
abbrev pub AreNotes : (ℕ → Person → Bool) → List Person → List Note → Type 0
AreNotes test users notes = (id at : ℕ) → is_noted id at notes ≡ passes_at (test id) users at

-- for each id, just these places are listed
abbrev pub AreListed : PlacesById → (ℕ → List ℕ) → Type 0
AreListed noted lists = (id : ℕ) → noted_for noted id ≡ lists id

-- the places of each id are those that pass
abbrev pub ArePlaces : PlacesById → (ℕ → ℕ → Bool) → Type 0
ArePlaces noted some = (id at : ℕ) → is_one_of at (noted_for noted id) ≡ some id at

-- a place is listed for some more ids
abbrev pub AddsNotes : List Note → List Note → List ℕ → ℕ → Type 0
AddsNotes old new ids place = (id at : ℕ) → is_noted id at new ≡ (is_noted id at old || (is_one_of id ids && (place == at)))

-- more places are listed, for each id
abbrev pub Notes : PlacesById → PlacesById → (ℕ → ℕ → Bool) → Type 0
Notes old new more = (id at : ℕ) → is_one_of at (noted_for new id) ≡ (is_one_of at (noted_for old id) || more id at)

-- some places are listed no more, for each id
abbrev pub Forgets : PlacesById → PlacesById → (ℕ → ℕ → Bool) → Type 0
Forgets old new some = (id at : ℕ) → is_one_of at (noted_for new id) ≡ (is_one_of at (noted_for old id) && not (some id at))

-- a place, for one id
abbrev pub for_id : ℕ → ℕ → ℕ → ℕ → Bool
for_id id place q at = (id == q) && (place == at)

-- a place, for the groups of a user
abbrev pub for_groups : Person → ℕ → ℕ → ℕ → Bool
for_groups user place group at = is_in group user && (place == at)

-- a place, for the groups of a user that another one is not in
abbrev pub for_others : Person → Person → ℕ → ℕ → ℕ → Bool
for_others user other place group at = (is_in group user && not (is_in group other)) && (place == at)

-- the places by group where u is in the place of w
abbrev pub Moves : PlacesById → PlacesById → ℕ → Person → Person → Type 0
Moves old new place w u = (group at : ℕ) → is_one_of at (noted_for new group) ≡ after_move group w u (place == at) (is_one_of at (noted_for old group))
