-- Lemmas on the words that ask for a text, and on the options that read one.
use Rattle.std.proofs.Common.{◌≡◌, ◌<◌, ℕ, zero, suc, Bool, true, false, ◌||◌, ◌&&◌, nat_eq, List, [], ◌∷◌, ◌++◌, map, take, length, refl, ap, ◌∙◌, arith, lit<}
use Rattle.std.specs.Prelude.{codes}
use Rattle.std.proofs.lemmas.List.Folds.{list_all-map}
use Rattle.std.specs.List.{list_all, list_any}
use Rattle.std.specs.Str.{bytes_eq}
use Rattle.facl_script.specs.declared.words.Place.TheVariants.{Within}
use Rattle.facl_script.proofs.WordLemmas.{IsSeen, seen_within}
use Rattle.facl_script.specs.Words.{words_of}
use Rattle.facl_tools.specs.TextWords.{word_asks, words_ask}
use Rattle.facl_script.proofs.ProgressLemmas.{or_false}
use Rattle.facl_script.specs.Rows.{option_view}
use Rattle.facl_script.specs.Syntax.{OptionSyntax}
use Rattle.facl_script.specs.declared.syntax.OptionRow.{OptionRow}
use Rattle.std.specs.Option.{option_map_or}

-- a short text differs from a word in the word's first bytes
same_beginning : (n : ℕ) (word t : List ℕ) → length t < n → bytes_eq (take n word) t ≡ bytes_eq word t
same_beginning zero word t h = absurd (omega (arith, h))
same_beginning (suc n) [] t h = refl
same_beginning (suc n) (x ∷ word) [] h = refl
same_beginning (suc n) (x ∷ word) (y ∷ t) h = ap (λ b. nat_eq x y && b) (same_beginning n word t (omega (arith, h)))

pub asks_by_beginning : (is_first : Bool) (word : List ℕ) → word_asks is_first (take 16 word) ≡ word_asks is_first word
asks_by_beginning true word = same_beginning 16 word (codes "load") (lit< tt)
asks_by_beginning false word =
    rw (
      same_beginning 16 word (codes "-") (lit< tt),
      same_beginning 16 word (codes "-M-") (lit< tt),
      same_beginning 16 word (codes "-X-") (lit< tt),
      same_beginning 16 word (codes "--modify-file=-") (lit< tt),
      same_beginning 16 word (codes "--remove-file=-") (lit< tt),
      same_beginning 16 word (codes "--set-file=-") (lit< tt),
      same_beginning 16 word (codes "--restore=-") (lit< tt),
    ) refl

abbrev pub none_done : List (List ℕ) → Bool
none_done [] = true
none_done (word ∷ words) = false

or_assoc : (a b c : Bool) → (a || (b || c)) ≡ ((a || b) || c)
or_assoc true b c = refl
or_assoc false b c = refl

any_more : (words : List (List ℕ)) (word : List ℕ) → list_any (word_asks false) (words ++ word ∷ []) ≡ (list_any (word_asks false) words || word_asks false word)
any_more [] word = or_false (word_asks false word)
any_more (w ∷ words) word = ap (λ b. word_asks false w || b) (any_more words word) ∙ or_assoc (word_asks false w) (list_any (word_asks false) words) (word_asks false word)

-- one more word is done
pub ask_more : (done : List (List ℕ)) (word : List ℕ) → words_ask (done ++ word ∷ []) ≡ (words_ask done || word_asks (none_done done) word)
ask_more [] word = or_false (word_asks true word)
ask_more (tool ∷ words) word = ap (λ b. word_asks true tool || b) (any_more words word) ∙ or_assoc (word_asks true tool) (list_any (word_asks false) words) (word_asks false word)

pub none_done_more : (done : List (List ℕ)) (word : List ℕ) → none_done (done ++ word ∷ []) ≡ false
none_done_more [] word = refl
none_done_more (w ∷ done) word = refl

-- the first bytes of a word that grows
pub take_grows : (n : ℕ) (word : List ℕ) (b : ℕ) → take n (take n word ++ b ∷ []) ≡ take n (word ++ b ∷ [])
take_grows zero word b = refl
take_grows (suc n) [] b = refl
take_grows (suc n) (x ∷ word) b = ap (λ l. x ∷ l) (take_grows n word b)

-- a line that ends within a word asks for a text where its words do
pub words_ask_within : (line : List ℕ) (done : List (List ℕ)) (word : List ℕ) → IsSeen line done word Within []
    → option_map_or words_ask (words_of line) false ≡ (words_ask done || word_asks (none_done done) word)
words_ask_within line done word h =
    ap (λ o. option_map_or words_ask o false) (seen_within line done word h) ∙ ask_more done word

-- what holds of all options, asked row by row
pub all_by_rows : (p : OptionSyntax → Bool) (rows : List OptionRow) → list_all p (map option_view rows) ≡ list_all (λ row. p (option_view row)) rows
all_by_rows p rows = list_all-map p option_view rows
