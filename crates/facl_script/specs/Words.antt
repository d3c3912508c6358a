-- The words of a line.
use Rattle.std.specs.Prelude.{ℕ, Bool, true, ◌||◌, ◌==◌, if◌then◌else◌, List, [], ◌∷◌, Option, None, Some, option_map, Result, Ok, Err, ok_or}
use Rattle.std.specs.Str.{is_utf8}
use Rattle.facl_script.specs.declared.words.Place.{Place}
use Rattle.facl_script.specs.declared.words.Place.TheVariants.{Between, Within, Quoted}
use Rattle.facl_script.specs.declared.words.SplitFault.{SplitFault}
use Rattle.facl_script.specs.declared.words.SplitFault.TheVariants.{NotUtf8, OpenQuote}

-- white space is a space or a tab
abbrev pub is_blank : ℕ → Bool
is_blank b = b == 32 || b == 9

abbrev pub is_quote : ℕ → Bool
is_quote b = b == 39

-- a line that is blank, or a comment: its first byte after white space is `#`
abbrev pub has_no_words : List ℕ → Bool
has_no_words [] = true
has_no_words (b ∷ bs) = if is_blank b then has_no_words bs else b == 35

-- the byte goes to the front of the first word
abbrev pub onto_word : ℕ → List (List ℕ) → List (List ℕ)
onto_word b [] = (b ∷ []) ∷ []
onto_word b (word ∷ words) = (b ∷ word) ∷ words

-- The words of what is left of a line, from a place on. Within a word and in a quote the first of them is the rest of that word.
-- White space ends a word. From a quote to the next one all bytes are kept as they are. A quote that is left open has no words.
abbrev pub words_at : Place → List ℕ → Option (List (List ℕ))
words_at Between [] = Some []
words_at Within [] = Some ([] ∷ [])
words_at Quoted [] = None
words_at Between (b ∷ bs) =
    if is_blank b then words_at Between bs else if is_quote b then words_at Quoted bs else option_map (onto_word b) (words_at Within bs)
words_at Within (b ∷ bs) =
    if is_blank b then option_map (λ words. [] ∷ words) (words_at Between bs)
    else if is_quote b then words_at Quoted bs else option_map (onto_word b) (words_at Within bs)
words_at Quoted (b ∷ bs) = if is_quote b then words_at Within bs else option_map (onto_word b) (words_at Quoted bs)

abbrev pub words_of : List ℕ → Option (List (List ℕ))
words_of line = words_at Between line

-- The words of a line that is neither blank nor a comment, or what is wrong with it as a line. That bytes are not UTF-8
-- is found before an open quote.
abbrev pub split_line : List ℕ → Result (List (List ℕ)) SplitFault
split_line line = if is_utf8 line then ok_or (words_of line) OpenQuote else Err NotUtf8

-- What a line within the limit means. A blank line or comment has no words, whatever bytes it has.
abbrev pub line_words : List ℕ → Result (List (List ℕ)) SplitFault
line_words line = if has_no_words line then Ok [] else split_line line
