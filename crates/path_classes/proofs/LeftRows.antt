-- What is left of rows, verdict by verdict.
use Rattle.std.proofs.Common.{◌≡◌, ℕ, zero, suc, ◌+◌, ◌<◌, ◌≤◌, ◌&&◌, Bool, true, false, cond, List, [], ◌∷◌, ◌++◌, take, drop, length, replicate, get_or, min, ◌-◌, drop-cons, Option, Some, None}
use Rattle.std.proofs.Common.{refl, sym, ap, ◌∙◌, arith}
use Rattle.std.proofs.lemmas.List.{get_or_past, length-take-le, take-append-drop, take-append-le, take_all}
use Rattle.std.specs.Prelude.{◌==◌, option_map, slice_get}
use Rattle.std.specs.Option.{option_map_or}
use Rattle.std.proofs.lemmas.Nat.Bits.{bit_at-zero}
use Rattle.acl_entry.specs.Check.{has}
use Rattle.acl_entry.specs.Perms.{Perms, number}
use Rattle.acl_names.proofs.Basics.{and_true, and_false}
use Rattle.path_classes.specs.Rows.{Rows, grants}
use Rattle.path_classes.specs.ReachedRows.{passes_in, reached_from}
use Rattle.path_classes.specs.Searching.{gets_through}
use Rattle.path_classes.specs.NumberedRows.{left_from, left_to}
use Rattle.acl_names.specs.Paths.{PathOf}

-- ---- rows made in a loop

left_none : (through : List Bool) (n : ℕ) (cells : List ℕ) → length through ≤ n → left_from (Some through) n cells ≡ replicate (length cells) 0
left_none through n [] past = refl
left_none through n (c ∷ cells) past =
    (λ i. cond (get_or_past through n false past i) c 0 ∷ left_from (Some through) (suc n) cells) ∙ ap (λ l. 0 ∷ l) (left_none through (suc n) cells (omega (arith, past)))

-- where nothing is above, all is left
pub left_all : (n : ℕ) (cells : List ℕ) → left_from None n cells ≡ cells
left_all n [] = refl
left_all n (c ∷ cells) = ap (λ l. c ∷ l) (left_all (suc n) cells)

-- the loop is at the end of one of both lists
pub left_to_past : (i : ℕ) (through : List Bool) (cells : List ℕ) → (i < length through → i < length cells → ⊥) → left_to (drop i through) (drop i cells) ≡ drop i cells
left_to_past zero through [] past = refl
left_to_past (suc i) [] [] past = refl
left_to_past (suc i) (b ∷ through) [] past = refl
left_to_past zero [] (c ∷ cells) past = refl
left_to_past (suc i) [] (c ∷ cells) past = kept_all (drop i cells)
  where
    kept_all : (cells : List ℕ) → left_to [] cells ≡ cells
    kept_all [] = refl
    kept_all (c ∷ cells) = refl
left_to_past zero (b ∷ through) (c ∷ cells) past = absurd (past (omega arith) (omega arith))
left_to_past (suc i) (b ∷ through) (c ∷ cells) past = left_to_past i through cells (λ x y. past (omega (arith, x)) (omega (arith, y)))

pub left_to_end : (i : ℕ) (through : List Bool) (cells start : List ℕ) → (i < length through → i < length start → ⊥) → drop i cells ≡ drop i start
    → take i cells ++ left_to (drop i through) (drop i start) ≡ left_to through start → cells ≡ left_to through start
left_to_end i through cells start past rest done =
    sym (take-append-drop i cells) ∙ ap (λ l. take i cells ++ l) (rest ∙ sym (left_to_past i through start past)) ∙ done

-- what is left of the users who have a place among those who get through, and nothing for others
pub left_below : (above : List Bool) (n u r : ℕ) (cells : List ℕ) → n + u ≤ length above → u + r ≡ length cells → (0 < r → n + u ≡ length above)
    → left_to (drop n above) (take u cells) ++ replicate r 0 ≡ left_from (Some above) n cells
left_below above n zero zero [] within fits all = refl
left_below above n zero (suc r) [] within fits all = absurd (omega (arith, fits))
left_below above n zero r (c ∷ cells) within fits all =
    ap (λ m. replicate m 0) (fits_all) ∙ sym (left_none above n (c ∷ cells) (omega (arith, all (omega (arith, fits)))))
  where
    fits_all : r ≡ suc (length cells)
    fits_all = omega (arith, fits)
left_below above n (suc u) r [] within fits all = absurd (omega (arith, fits))
left_below above n (suc u) r (c ∷ cells) within fits all =
    ap (λ l. left_to l (c ∷ take u cells) ++ replicate r 0) (drop-cons above n false (omega (arith, within)))
    ∙ ap (λ l. cond (get_or above n false) c 0 ∷ l) (left_below above (suc n) u r cells (omega (arith, within)) (omega (arith, fits)) (λ lt. omega (arith, all lt)))

length_left : (through : List Bool) (cells : List ℕ) → length (left_to through cells) ≡ length cells
length_left through [] = refl
length_left [] (c ∷ cells) = refl
length_left (b ∷ through) (c ∷ cells) = ap suc (length_left through cells)

-- the same of a row whose first verdicts were written in place
pub left_in_place : (above : List Bool) (cells items : List ℕ) (u : ℕ) → u ≡ min (length above) (length cells) → (new : List ℕ) → new ≡ left_to above (take u cells) → (n : ℕ) → n ≡ u
    → take (length cells) (take n (new ++ drop (length new) items)) ++ replicate (length cells - n) 0 ≡ left_from (Some above) 0 cells
left_in_place above cells items u is new written n len =
    let short : u ≤ length cells = omega (arith, is) in
    let long : length new ≡ u = ap length written ∙ length_left above (take u cells) ∙ length-take-le u cells short in
    ap (λ l. take (length cells) l ++ replicate (length cells - n) 0)
    (ap (λ m. take m (new ++ drop (length new) items)) (len ∙ sym long) ∙ take-append-le (length new) new (drop (length new) items) (omega arith) ∙ take_all (length new) new (omega arith))
    ∙ ap (λ l. l ++ replicate (length cells - n) 0) (take_all (length cells) new (omega (arith, long, short)))
    ∙ (λ i. written i ++ replicate (length cells - len i) 0)
    ∙ left_below above 0 u (length cells - u) cells (omega (arith, is)) (omega (arith, short)) (λ lt. omega (arith, is, lt))

-- what is reached at a path is what those who get through are left
pub reached_left : (all : Rows) (p : PathOf) (above : Option (List Bool)) → ((user : ℕ) → passes_in all user p ≡ gets_through above user) → (n : ℕ) (cells : List ℕ)
    → reached_from all p n cells ≡ left_from above n cells
reached_left all p above same n [] = refl
reached_left all p above same n (c ∷ cells) = λ i. cond (same n i) c 0 ∷ reached_left all p above same (suc n) cells i

-- nothing grants no request
granted_cell : (q : Perms) (c : ℕ) (b : Bool) → has (cond b c 0) q ≡ (has c q && b)
granted_cell q c true = sym (and_true (has c q))
granted_cell q c false = ap (λ n. n == 1) (bit_at-zero (number q)) ∙ sym (and_false (has c q))

left_get : (above : Option (List Bool)) (n user : ℕ) (cells : List ℕ) → slice_get (left_from above n cells) user ≡ option_map (λ c. cond (gets_through above (n + user)) c 0) (slice_get cells user)
left_get above n user [] = refl
left_get above n zero (c ∷ cells) = let e : n ≡ n + 0 = omega arith in ap (λ k. Some (cond (gets_through above k) c 0)) e
left_get above n (suc user) (c ∷ cells) =
    let e : suc n + user ≡ n + suc user = omega arith in
    left_get above (suc n) user cells ∙ ap (λ k. option_map (λ c. cond (gets_through above k) c 0) (slice_get cells user)) e

-- what is left of the verdict on a user
pub cell_left : (above : Option (List Bool)) (user : ℕ) (cells : List ℕ) → slice_get (left_from above 0 cells) user ≡ option_map (λ c. cond (gets_through above user) c 0) (slice_get cells user)
cell_left above user cells =
    let e : 0 + user ≡ user = omega arith in
    left_get above 0 user cells ∙ ap (λ k. option_map (λ c. cond (gets_through above k) c 0) (slice_get cells user)) e

-- what is left grants a user a request if the row does, and the user gets through
pub granted_left : (above : Option (List Bool)) (q : Perms) (user : ℕ) (cells : List ℕ) → grants q user (left_from above 0 cells) ≡ (grants q user cells && gets_through above user)
granted_left above q user cells = ap (λ o. option_map_or (λ c. has c q) o false) (cell_left above user cells) ∙ by (slice_get cells user)
  where
    by : (o : Option ℕ) → option_map_or (λ c. has c q) (option_map (λ c. cond (gets_through above user) c 0) o) false ≡ (option_map_or (λ c. has c q) o false && gets_through above user)
    by None = refl
    by (Some c) = granted_cell q c (gets_through above user)
