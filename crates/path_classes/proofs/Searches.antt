-- Who can search, user by user.
use Rattle.std.proofs.Common.{◌≡◌, ℕ, zero, suc, ◌-◌, ◌<◌, ◌≤◌, ◌&&◌, Bool, true, false, nat_lt, List, [], ◌∷◌, ◌++◌, take, drop, length, get_or, replicate, Option, Some, None}
use Rattle.std.proofs.Common.{drop-cons, refl, sym, ap, ◌∙◌, arith, ltb-true, ltb-false}
use Rattle.std.proofs.lemmas.List.{drop_all, get_or_past, length-drop, take-append-drop, take_at}
use Rattle.acl_entry.specs.Check.{has}
use Rattle.path_classes.specs.ReachedRows.{execute}
use Rattle.path_classes.specs.Searching.{gets_through, through_from, searchers, searchers_from, searches_kept}

-- ---- users are left out in a loop

-- the loop is at the end of one of both lists
kept_past : (i : ℕ) (cells : List ℕ) (users : List Bool) → (i < length cells → i < length users → ⊥) → searches_kept (drop i cells) (drop i users) ≡ drop i users
kept_past zero cells [] past = refl
kept_past (suc i) [] [] past = refl
kept_past (suc i) (c ∷ cells) [] past = refl
kept_past zero [] (b ∷ users) past = refl
kept_past (suc i) [] (b ∷ users) past = none (drop i users)
  where
    none : (users : List Bool) → searches_kept [] users ≡ users
    none [] = refl
    none (b ∷ users) = refl
kept_past zero (c ∷ cells) (b ∷ users) past = absurd (past (omega arith) (omega arith))
kept_past (suc i) (c ∷ cells) (b ∷ users) past = kept_past i cells users (λ x y. past (omega (arith, x)) (omega (arith, y)))

pub kept_end : (i : ℕ) (cells : List ℕ) (users start : List Bool) → (i < length cells → i < length start → ⊥) → drop i users ≡ drop i start
    → take i users ++ searches_kept (drop i cells) (drop i start) ≡ searches_kept cells start → users ≡ searches_kept cells start
kept_end i cells users start past rest done =
    sym (take-append-drop i users) ∙ ap (λ l. take i users ++ l) (rest ∙ sym (kept_past i cells start past)) ∙ done

-- ---- who gets through from above

pub through_all : (n count : ℕ) → replicate count true ≡ through_from None n count
through_all n zero = refl
through_all n (suc count) = ap (λ l. true ∷ l) (through_all (suc n) count)

-- users without a place among those who get through do not
through_none : (above : List Bool) (n count : ℕ) → length above ≤ n → replicate count false ≡ through_from (Some above) n count
through_none above n zero past = refl
through_none above n (suc count) past = λ i. sym (get_or_past above n false past) i ∷ through_none above (suc n) count (omega (arith, past)) i

pub through_some : (above : List Bool) (n count : ℕ) → take count (drop n above) ++ replicate (count - length (drop n above)) false ≡ through_from (Some above) n count
through_some above n zero = let none : 0 - length (drop n above) ≡ 0 = omega arith in ap (λ k. replicate k false) none
through_some above n (suc count) = by (nat_lt n (length above)) refl (through_some above (suc n) count)
  where
    by : (b : Bool) → nat_lt n (length above) ≡ b → take count (drop (suc n) above) ++ replicate (count - length (drop (suc n) above)) false ≡ through_from (Some above) (suc n) count
        → take (suc count) (drop n above) ++ replicate (suc count - length (drop n above)) false ≡ through_from (Some above) n (suc count)
    by true is more =
        let lt : n < length above = ltb-true n (length above) is in
        let long = length-drop n above in
        let short = length-drop (suc n) above in
        let fewer : suc count - length (drop n above) ≡ count - length (drop (suc n) above) = omega (arith, lt, long, short) in
        (λ i. take (suc count) (drop-cons above n false lt i) ++ replicate (fewer i) false) ∙ ap (λ l. get_or above n false ∷ l) more
    by false is more =
        let past : length above ≤ n = ltb-false n (length above) is in
        let all : suc count - 0 ≡ suc count = omega arith in
        ap (λ l. take (suc count) l ++ replicate (suc count - length l) false) (drop_all n above past)
        ∙ ap (λ k. replicate k false) all
        ∙ through_none above n (suc count) past

-- ---- both

searchers_kept : (above : Option (List Bool)) (n : ℕ) (cells : List ℕ) → searches_kept cells (through_from above n (length cells)) ≡ searchers_from above n cells
searchers_kept above n [] = refl
searchers_kept above n (c ∷ cells) = ap (λ l. (gets_through above n && has c execute) ∷ l) (searchers_kept above (suc n) cells)

length_kept : (cells : List ℕ) (users : List Bool) → length (searches_kept cells users) ≡ length users
length_kept cells [] = refl
length_kept [] (b ∷ users) = refl
length_kept (c ∷ cells) (b ∷ users) = ap suc (length_kept cells users)

-- the same of a list that was written in place
pub kept_in_place : (above : Option (List Bool)) (cells : List ℕ) (start new rest : List Bool) (n : ℕ) → start ≡ through_from above 0 (length cells) → new ≡ searches_kept cells start
    → n ≡ length start → take n (new ++ rest) ≡ searchers above cells
kept_in_place above cells start new rest n is kept len =
    take_at new rest n (ap length kept ∙ length_kept cells start ∙ sym len) ∙ kept ∙ ap (searches_kept cells) is ∙ searchers_kept above 0 cells
