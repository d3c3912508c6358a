-- Names with their ids, in the order of their rows.
use Rattle.std.specs.Prelude.{◌≡◌, ◌<◌, ◌≤◌, ℕ, List, length, slice_index_or, Bool, true, not, ◌&&◌, ◌==◌, Option, Some, IfSome, option_map, option_and_then, find, position, if◌then◌else◌}
use Rattle.std.specs.List.{list_all}
use Rattle.std.specs.Option.{is_some}
use Rattle.std.specs.Str.{bytes_eq}
use Rattle.acl_names.specs.Pieces.{is_byte}
use Rattle.acl_text.specs.Ids.{is_number, id_of}
use Rattle.acl_text.specs.Rows.{most_rows}
use Rattle.acl_text.specs.Writing.{IsNamed}

-- a name and its id
abbrev pub Named : Type 0
Named = List ℕ × ℕ

abbrev pub is_name : List ℕ → Named → Bool
is_name name e = bytes_eq name e.0

abbrev pub is_id : ℕ → Named → Bool
is_id id e = e.1 == id

-- an id prints as a name that is not digits alone
abbrev pub prints : ℕ → Named → Bool
prints id e = is_id id e && not (is_number e.0)

-- the id of the first row of a name
abbrev pub id_named : List ℕ → List Named → Option ℕ
id_named name es = option_map (λ e. e.1) (find (is_name name) es)

-- the name that an id prints as: that of the first row of the id whose name is not digits alone
abbrev pub name_shown : ℕ → List Named → Option (List ℕ)
name_shown id es = option_map (λ e. e.0) (find (prints id) es)

-- a row has this name
abbrev pub has_name : List ℕ → List Named → Bool
has_name name es = is_some (position (is_name name) es)

-- a row has this id
abbrev pub has_id : ℕ → List Named → Bool
has_id id es = is_some (position (is_id id) es)

-- the place of the row that a word means: digits alone are always an id, any other word is a name
abbrev pub place_of_word : List ℕ → List Named → Option ℕ
place_of_word word es =
    if is_number word then option_and_then (λ id. position (is_id id) es) (id_of word)
    else position (is_name word) es

-- a place, where there is one, is in the list
abbrev pub IsPlaceIn : {R : Type 0} → List R → Option ℕ → Type 0
IsPlaceIn rows place = IfSome place (λ at. at < length rows)

-- a name is made of bytes
abbrev pub AreBytes : List ℕ → Type 0
AreBytes name = list_all is_byte name ≡ true

-- each name is in one row, is not empty, and is made of bytes
pub record AreNames (es : List Named) : Type 0 where
  pub once : (i : ℕ) (d : Named) → i < length es → position (is_name (slice_index_or es i d).0) es ≡ Some i
  pub filled : (i : ℕ) (d : Named) → i < length es → 0 < length (slice_index_or es i d).0
  pub made_of_bytes : (i : ℕ) (d : Named) → i < length es → list_all is_byte (slice_index_or es i d).0 ≡ true

-- the names and ids of counted rows: each name is in one row, and there are at most `most_rows`
pub record AreCounted (es : List Named) : Type 0 where
  pub names : AreNames es
  pub few : length es ≤ most_rows

-- Each name that an id prints as is found under that id, is made of bytes, is not empty, and is not digits alone.
abbrev pub IsNaming : (List ℕ → Option ℕ) → (ℕ → Option (List ℕ)) → Type 0
IsNaming look_up name_of = (id : ℕ) → IsNamed look_up id (name_of id)
