-- How words are in a line: here the line is given by its words; in specs/Words.antt the words by the line.
use Rattle.std.specs.Prelude.{◌≡◌, ◌<◌, ℕ, true, false, List, [], ◌∷◌, ◌++◌, length, map}
use Rattle.std.specs.List.{AllByRecursion, flat_map}
use Rattle.facl_script.specs.Words.{is_blank, is_quote}

-- a part of a word: bytes that are as they are, or bytes between two quotes
pub data Part : Type 0 where
  bare : List ℕ → Part
  quoted : List ℕ → Part

-- the part as it is written in the line
abbrev pub written : Part → List ℕ
written (bare bytes) = bytes
written (quoted bytes) = 39 ∷ (bytes ++ 39 ∷ [])

-- what it means
abbrev pub part_text : Part → List ℕ
part_text (bare bytes) = bytes
part_text (quoted bytes) = bytes

-- Bare bytes are one or more, without white space or a quote. Between quotes there is no quote.
abbrev pub IsPart : Part → Type 0
IsPart (bare bytes) = (0 < length bytes) × AllByRecursion (λ b. (is_blank b ≡ false) × (is_quote b ≡ false)) bytes
IsPart (quoted bytes) = AllByRecursion (λ b. is_quote b ≡ false) bytes

abbrev pub IsWhiteSpace : List ℕ → Type 0
IsWhiteSpace bytes = AllByRecursion (λ b. is_blank b ≡ true) bytes

-- a word is one part or more, each right after the one before, and has white space after it
pub record Word : Type 0 where
  pub part : Part
  pub parts : List Part
  pub gap : List ℕ

abbrev pub word_written : Word → List ℕ
word_written w = (written w.part ++ flat_map written w.parts) ++ w.gap

abbrev pub word_text : Word → List ℕ
word_text w = part_text w.part ++ flat_map part_text w.parts

-- only after the last word there may be no white space
abbrev pub AreWords : List Word → Type 0
AreWords [] = Unit {0}
AreWords (w ∷ ws) = IsPart w.part × AllByRecursion IsPart w.parts × IsWhiteSpace w.gap × (length w.gap ≡ 0 → ws ≡ []) × AreWords ws

-- the line is white space, perhaps empty, and then words that mean these
pub record Spells (line : List ℕ) (words : List (List ℕ)) : Type 0 where
  pub front : List ℕ
  pub spelled : List Word
  pub front_is : IsWhiteSpace front
  pub words_are : AreWords spelled
  pub line_is : line ≡ front ++ flat_map word_written spelled
  pub words_are_texts : words ≡ map word_text spelled
