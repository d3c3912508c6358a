-- Places of what passes a test.
use Rattle.std.proofs.Common.{◌≡◌, ◌+◌, ◌++◌, append_assoc, drop, get_or, ℕ, suc, ◌<◌, Bool, true, false, cond, List, [], ◌∷◌, length, refl, sym, ap, ◌∙◌, arith}
use Rattle.std.proofs.lemmas.List.{drop_more}
use Rattle.path_classes.specs.Rows.{places_from}

-- one place more
pub places_step : (test : ℕ → Bool) (cells : List ℕ) (at x : ℕ) (b : Bool) (users new all : List ℕ) → at < length cells → x ≡ get_or cells at x → b ≡ test x
    → new ≡ cond b (users ++ at ∷ []) users → users ++ places_from test at (drop at cells) ≡ all → new ++ places_from test (at + 1) (drop (at + 1) cells) ≡ all
places_step test cells at x b users new all lt is tested new_is so_far =
    let later = places_from test (at + 1) (drop (at + 1) cells) in
    let next : suc at ≡ at + 1 = omega arith in
    let more : places_from test at (drop at cells) ≡ cond b (at ∷ later) later =
    ap (λ l. places_from test at l) (drop_more cells at x lt ∙ ap (λ y. y ∷ drop (at + 1) cells) (sym is))
    ∙ (λ i. cond (tested_back i) (at ∷ places_from test (next i) (drop (at + 1) cells)) (places_from test (next i) (drop (at + 1) cells))) in
    ap (λ l. l ++ later) new_is ∙ by b later ∙ ap (λ l. users ++ l) (sym more) ∙ so_far
  where
    tested_back : test x ≡ b
    tested_back = sym tested

    by : (c : Bool) (later : List ℕ) → cond c (users ++ at ∷ []) users ++ later ≡ users ++ cond c (at ∷ later) later
    by true later = append_assoc users (at ∷ []) later
    by false later = refl
