-- The words that name a text: the lines of a script that ask for the lines after them as their text (setfacl(1): `-M -`,
-- `-X -`, `--restore=-`), and the words that fit one.
use Rattle.std.specs.Prelude.{◌==◌, ◌&&◌, ◌||◌, ℕ, Bool, true, false, not, List, [], ◌∷◌, Option, None, Some, codes, count_by, if◌then◌else◌, nat_le, option_and_then}
use Rattle.std.specs.List.{list_all, list_any}
use Rattle.std.specs.Option.{option_map_or}
use Rattle.std.specs.Str.{bytes_eq}
use Rattle.facl_script.specs.Forms.{Text, is_dash}
use Rattle.facl_script.specs.Naming.{gives, value}
use Rattle.facl_script.specs.Syntax.{OptionSyntax, Syntax}
use Rattle.facl_script.specs.ToolWords.{words_read}
use Rattle.facl_script.specs.Words.{has_no_words, words_of}
use Rattle.facl_script.specs.declared.tool_words.Words.{Words}

-- ---- the lines that ask for a text

-- the spellings of a file that is standard input
abbrev pub text_words : List (List ℕ)
text_words =
    codes "-" ∷ codes "-M-" ∷ codes "-X-" ∷ codes "--modify-file=-" ∷ codes "--remove-file=-" ∷ codes "--set-file=-" ∷ codes "--restore=-" ∷ []

-- the word is one of these
abbrev pub is_text_word : List ℕ → Bool
is_text_word word = list_any (λ spelling. bytes_eq word spelling) text_words

-- one word asks for a text: the first where it is `load`, a later one where it names standard input
abbrev pub word_asks : Bool → List ℕ → Bool
word_asks true word = bytes_eq word (codes "load")
word_asks false word = is_text_word word

-- some of the words asks for a text
abbrev pub words_ask : List (List ℕ) → Bool
words_ask [] = false
words_ask (tool ∷ words) = word_asks true tool || list_any (word_asks false) words

-- A line asks for a text by its words. No line does that is blank, a comment, or has an open quote.
abbrev pub line_asks : List ℕ → Bool
line_asks line = not (has_no_words line) && option_map_or words_ask (words_of line) false

-- ---- the words of a line with its text

-- how many of the options that read a text were given
abbrev pub texts_given : Syntax → Words → ℕ
texts_given syntax w = count_by (λ s. s.is_text && gives syntax w s.id) syntax.options

-- the option reads no text, is absent, or names standard input
abbrev pub is_named : Syntax → Words → OptionSyntax → Bool
is_named syntax w s = not s.is_text || option_map_or is_dash (value syntax w s.id) true

-- the lines that follow are a text exactly where an option asks for one, and one option asks at most
abbrev pub fits_text : Syntax → List Text → Words → Bool
fits_text syntax words w =
    list_all (is_named syntax w) syntax.options
    && (count_by is_text_word words == texts_given syntax w) && nat_le (texts_given syntax w) 1

abbrev pub with_text : Syntax → List Text → Words → Option Words
with_text syntax words w = if fits_text syntax words w then Some w else None

-- the words, where clap takes them and those that name a text fit
unfoldable pub words_by : Syntax → List Text → Option Words
words_by syntax words = option_and_then (with_text syntax words) (words_read syntax words)
