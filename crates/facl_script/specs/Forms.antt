-- Words, and which of them name files.
use Rattle.std.specs.Prelude.{◌==◌, ◌||◌, ℕ, Bool, List, Option, None, Some, codes, if◌then◌else◌, length}
use Rattle.std.specs.List.{list_any}
use Rattle.std.specs.Str.{bytes_eq}

-- a word, as its bytes
abbrev pub Text : Type 0
Text = List ℕ

abbrev pub is_empty : {X : Type 0} → List X → Bool
is_empty xs = length xs == 0

-- the word that names standard input
abbrev pub is_dash : Text → Bool
is_dash t = bytes_eq t (codes "-")

-- the FILE of a word: `-` names no file
abbrev pub file_of : Text → Option Text
file_of t = if is_dash t then None else Some t

-- the FILEs of words, of which there is at least one
abbrev pub files_of : List Text → Option (List Text)
files_of ts = if is_empty ts || list_any is_dash ts then None else Some ts
