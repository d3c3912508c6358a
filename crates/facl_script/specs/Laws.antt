-- What is true of words and units as defined, for every line and every script.
use Rattle.std.specs.Prelude.{◌≡◌, ◌↔◌, ◌%◌, ◌++◌, ℕ, Bool, List, length, map, filter, Some, None}
use Rattle.std.specs.List.{AllByRecursion, join_with_byte}
use Rattle.facl_script.specs.Words.{is_quote, words_of}
use Rattle.facl_script.specs.Units.{ScriptUnit, units_of, full_units}
use Rattle.facl_script.specs.Pieces.{AreUnits}
use Rattle.facl_script.specs.Written.{Part, IsPart, written, part_text, Spells}

-- a line has these words exactly if it spells them
abbrev pub WordsAreSpelled : Type 0
WordsAreSpelled = (line : List ℕ) (words : List (List ℕ)) → (words_of line ≡ Some words) ↔ Spells line words

-- words that each are as they are or between two quotes, with one space between each two, are split into just these
abbrev pub JoinedWordsAreSplit : Type 0
JoinedWordsAreSplit =
    (words : List Part) → AllByRecursion IsPart words → words_of (join_with_byte 32 (map written words)) ≡ Some (map part_text words)

-- a quote is left open exactly if the quotes of the line are odd in number
abbrev pub OddQuotesAreOpen : Type 0
OddQuotesAreOpen = (line : List ℕ) → (words_of line ≡ None) ↔ (length (filter is_quote line) % 2 ≡ 1)

-- A script has these units exactly if it spells them, one right after another. Their numbers begin with 1.
abbrev pub UnitsAreSpelled : Type 0
UnitsAreSpelled =
    (asks : List ℕ → Bool) (script : List ℕ) (units : List ScriptUnit) → (units_of asks script ≡ units) ↔ AreUnits asks 1 units script

-- the full units of the front of a script are the first units of the script
abbrev pub FullUnitsComeFirst : Type 0
FullUnitsComeFirst =
    (asks : List ℕ → Bool) (front rest : List ℕ) → (more : List ScriptUnit)
    × (units_of asks (front ++ rest) ≡ full_units (units_of asks front) ++ more)
