-- Places of the users who pass a test, where one user comes or is another one.
use Rattle.std.proofs.Common.{◌≡◌, ℕ, zero, suc, ◌+◌, ◌<◌, ◌==◌, ◌&&◌, ◌||◌, Bool, true, false, not, List, [], ◌∷◌, ◌++◌, length, map, take, drop, get_or, set}
use Rattle.std.proofs.Common.{if◌then◌else◌, Some, option_map, slice_get, refl, ap, sym, subst, ◌∙◌, arith}
use Rattle.std.proofs.lemmas.Bool.{ne_eqb, eqb-true}
use Rattle.std.proofs.lemmas.Option.{slice_get-map, slice_get_within, get_or_from_slice_get}
use Rattle.std.proofs.Math.Dec.{eqb-suc-suc}
use Rattle.std.specs.List.{remove, take-map, drop-map}
use Rattle.std.proofs.lemmas.List.{take_more, get_or-map, length-map, length-take-le, map-append}
use Rattle.acl_entry.specs.Person.{Person}
use Rattle.acl_people.specs.Places.{is_in, passes_at, after_move}

-- one value more
values_more : {A B : Type 0} (f : A → B) (xs : List A) (i : ℕ) (x : A) → i < length xs → x ≡ get_or xs i x → take (i + 1) (map f xs) ≡ take i (map f xs) ++ f x ∷ []
values_more f xs i x lt is =
    take_more (map f xs) i (f x) (subst (λ n. i < n) (sym (length-map xs f)) lt)
    ∙ ap (λ y. take i (map f xs) ++ y ∷ []) (get_or-map f xs i x (f x) lt ∙ ap f (sym is))

-- one user more, who is where the users before end
pub passes_at-push : (test : Person → Bool) (users : List Person) (u : Person) (at : ℕ) → passes_at test (users ++ u ∷ []) at ≡ (passes_at test users at || (test u && (length users == at)))
passes_at-push test [] u zero = by (test u)
  where
    by : (b : Bool) → b ≡ (false || (b && true))
    by true = refl
    by false = refl
passes_at-push test [] u (suc at) = by (test u) (0 == suc at) (ne_eqb 0 (suc at) (λ e. omega arith))
  where
    by : (b t : Bool) → t ≡ false → false ≡ (false || (b && t))
    by true t h = sym h
    by false t h = refl
passes_at-push test (x ∷ users) u zero = by (test x) (test u) (suc (length users) == 0) (ne_eqb (suc (length users)) 0 (λ e. omega arith))
  where
    by : (a b t : Bool) → t ≡ false → a ≡ (a || (b && t))
    by true b t h = refl
    by false true t h = sym h
    by false false t h = refl
passes_at-push test (x ∷ users) u (suc at) = passes_at-push test users u at ∙ ap (λ b. passes_at test users at || (test u && b)) (sym (eqb-suc-suc (length users) at))

pub user_more : {A : Type 0} (f : A → Person) (test : Person → Bool) (xs : List A) (i at : ℕ) (x : A) → i < length xs → x ≡ get_or xs i x
    → passes_at test (take (i + 1) (map f xs)) at ≡ (passes_at test (take i (map f xs)) at || (test (f x) && (i == at)))
user_more f test xs i at x lt is =
    ap (λ l. passes_at test l at) (values_more f xs i x lt is)
    ∙ passes_at-push test (take i (map f xs)) (f x) at
    ∙ ap (λ n. passes_at test (take i (map f xs)) at || (test (f x) && (n == at))) (length-take-le i (map f xs) (let all = length-map xs f in omega (arith, all, lt)))

-- another user in a place
pub passes_at-set : (test : Person → Bool) (users : List Person) (u : Person) (i at : ℕ) → i < length users → passes_at test (set users i u) at ≡ (if i == at then test u else passes_at test users at)
passes_at-set test [] u i at lt = absurd (omega (arith, lt))
passes_at-set test (x ∷ users) u zero zero lt = refl
passes_at-set test (x ∷ users) u zero (suc at) lt = ap (λ b. if b then test u else passes_at test users at) (sym (ne_eqb 0 (suc at) (λ e. omega arith)))
passes_at-set test (x ∷ users) u (suc i) zero lt = ap (λ b. if b then test u else test x) (sym (ne_eqb (suc i) 0 (λ e. omega arith)))
passes_at-set test (x ∷ users) u (suc i) (suc at) lt =
    passes_at-set test users u i at (omega (arith, lt)) ∙ ap (λ b. if b then test u else passes_at test users at) (sym (eqb-suc-suc i at))

passes_here : (test : Person → Bool) (users : List Person) (w : Person) (i : ℕ) → i < length users → w ≡ get_or users i w → passes_at test users i ≡ test w
passes_here test [] w i lt is = absurd (omega (arith, lt))
passes_here test (x ∷ users) w zero lt is = ap test (sym is)
passes_here test (x ∷ users) w (suc i) lt is = passes_here test users w i (omega (arith, lt)) is

-- where a place is taken from what the user before passed alone, and put to what the new user passes alone
pub moved_is : (group : ℕ) (users : List Person) (w u : Person) (i at : ℕ) (old new : Bool) → i < length users → w ≡ get_or users i w → old ≡ passes_at (is_in group) users at
    → new ≡ after_move group w u (i == at) old
    → new ≡ passes_at (is_in group) (set users i u) at
moved_is group users w u i at old new lt is was now =
    now ∙ by (i == at) refl ∙ sym (passes_at-set (is_in group) users u i at lt)
  where
    there : (a b : Bool) → ((a && not ((a && not b) && true)) || ((b && not a) && true)) ≡ b
    there true true = refl
    there true false = refl
    there false true = refl
    there false false = refl

    elsewhere : (a b c : Bool) → ((a && not ((b && not c) && false)) || ((c && not b) && false)) ≡ a
    elsewhere true true true = refl
    elsewhere true true false = refl
    elsewhere true false true = refl
    elsewhere true false false = refl
    elsewhere false true true = refl
    elsewhere false true false = refl
    elsewhere false false true = refl
    elsewhere false false false = refl

    by : (b : Bool) → (i == at) ≡ b → ((old && not ((is_in group w && not (is_in group u)) && b)) || ((is_in group u && not (is_in group w)) && b))
        ≡ (if b then is_in group u else passes_at (is_in group) users at)
    by true same =
        let had : old ≡ is_in group w = was ∙ ap (passes_at (is_in group) users) (sym (eqb-true i at same)) ∙ passes_here (is_in group) users w i lt is in
        ap (λ a. (a && not ((is_in group w && not (is_in group u)) && true)) || ((is_in group u && not (is_in group w)) && true)) had ∙ there (is_in group w) (is_in group u)
    by false other = elsewhere old (is_in group w) (is_in group u) ∙ was

-- where the user before and the new one pass alike
pub passes_at-same : (test : Person → Bool) (users : List Person) (w u : Person) (i at : ℕ) → i < length users → w ≡ get_or users i w → test w ≡ test u
    → passes_at test (set users i u) at ≡ passes_at test users at
passes_at-same test users w u i at lt is alike = passes_at-set test users u i at lt ∙ by (i == at) refl
  where
    by : (b : Bool) → (i == at) ≡ b → (if b then test u else passes_at test users at) ≡ passes_at test users at
    by true same = sym (ap (passes_at test users) (sym (eqb-true i at same)) ∙ passes_here test users w i lt is ∙ alike)
    by false other = refl

abbrev uids : List Person → List ℕ
uids users = map (λ u. u.uid) users

-- the user at a place, by an id that is there
pub uid_within : (users : List Person) (i n : ℕ) → option_map (λ u. u.uid) (slice_get users i) ≡ Some n → i < length users
uid_within users i n there = let lt = slice_get_within (uids users) i n (slice_get-map (λ u. u.uid) users i ∙ there) in let all = length-map users (λ u. u.uid) in omega (arith, lt, all)

pub uid_is : (users : List Person) (w : Person) (i n : ℕ) → option_map (λ u. u.uid) (slice_get users i) ≡ Some n → w ≡ get_or users i w → w.uid ≡ n
uid_is users w i n there is =
    ap (λ u. u.uid) is
    ∙ sym (get_or-map (λ u. u.uid) users i w n (uid_within users i n there))
    ∙ get_or_from_slice_get (uids users) i n n (slice_get-map (λ u. u.uid) users i ∙ there)

-- ---- users by their pointers

pub map_remove : {A B : Type 0} (f : A → B) (xs : List A) (i : ℕ) → map f (remove xs i) ≡ remove (map f xs) i
map_remove f xs i = map-append f (take i xs) (drop (suc i) xs) ∙ (λ j. sym (take-map f i xs) j ++ sym (drop-map f (suc i) xs) j)

-- the user whom a pointer is to
pub here_is : {A : Type 0} (f : A → Person) (xs : List A) (users : List Person) (i : ℕ) (x : A) → map f xs ≡ users → i < length users → x ≡ get_or xs i x → f x ≡ get_or users i (f x)
here_is f xs users i x all lt is =
    ap f is
    ∙ sym (get_or-map f xs i x (f x) (let long = length-map xs f in let same = ap length all in omega (arith, lt, long, same)))
    ∙ ap (λ us. get_or us i (f x)) all

-- one user more, by the pointers
pub last_is : {A : Type 0} (f : A → Person) (test : Person → Bool) (xs copied all : List A) (x : A) (at : ℕ) (old new : Bool) → map f copied ≡ map f xs → all ≡ copied ++ x ∷ []
    → old ≡ passes_at test (map f xs) at → new ≡ (old || (test (f x) && (length xs == at))) → new ≡ passes_at test (map f all) at
last_is f test xs copied all x at old new same is was now =
    now
    ∙ (λ j. was j || (test (f x) && (sym (length-map xs f) j == at)))
    ∙ sym (ap (λ l. passes_at test (map f l) at) is
    ∙ ap (λ l. passes_at test l at) (map-append f copied (x ∷ []) ∙ ap (λ l. l ++ f x ∷ []) same)
    ∙ passes_at-push test (map f xs) (f x) at)
