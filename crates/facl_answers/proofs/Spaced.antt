-- Requests one after another.
use Rattle.std.proofs.Common.{◌≡◌, ◌+◌, ◌<◌, ℕ, zero, suc, Bool, true, false, List, [], ◌∷◌, ◌++◌, length, get_or, take, map, refl, sym, ap, ◌∙◌, append_assoc, arith}
use Rattle.std.specs.Prelude.{filter, codes, cond}
use Rattle.std.specs.List.{flat_map, AllByRecursion}
use Rattle.std.proofs.lemmas.List.{map-append, append-nil, take_more}
use Rattle.std.proofs.lemmas.List.Concat.{flat_map-append}
use Rattle.std.proofs.lemmas.List.Elements.{filter-append}
use Rattle.acl_entry.specs.Perms.{Perms, numbered, text}
use Rattle.acl_entry.specs.Check.{has}
use Rattle.facl_answers.specs.Requests.{request_text, requests_text, after_space}

-- the requests with a space between each two, and nothing where there is none
abbrev pub spaced : List Perms → List ℕ
spaced [] = []
spaced (q ∷ qs) = text q ++ flat_map after_space qs

abbrev pub is_empty : List Perms → Bool
is_empty [] = true
is_empty (q ∷ qs) = false

-- those of some numbers that are granted
abbrev pub among : ℕ → List ℕ → List Perms
among granted numbers = filter (has granted) (map numbered numbers)

pub spaced-more : (qs : List Perms) (q : Perms) → spaced (qs ++ q ∷ []) ≡ spaced qs ++ request_text (is_empty qs) q
spaced-more [] q = append-nil (text q)
spaced-more (p ∷ qs) q =
    ap (λ (l : List ℕ). text p ++ l) (flat_map-append after_space qs (q ∷ []) ∙ ap (λ (l : List ℕ). flat_map after_space qs ++ l) (append-nil (after_space q)))
    ∙ sym (append_assoc (text p) (flat_map after_space qs) (after_space q))

pub not_empty : (qs : List Perms) (q : Perms) → is_empty (qs ++ q ∷ []) ≡ false
not_empty [] q = refl
not_empty (p ∷ qs) q = refl

pub among-more : (granted : ℕ) (numbers : List ℕ) (i : ℕ) → i < length numbers
    → among granted (take (i + 1) numbers) ≡ among granted (take i numbers) ++ filter (has granted) (numbered (get_or numbers i 0) ∷ [])
among-more granted numbers i h =
    ap (among granted) (take_more numbers i 0 h)
    ∙ (ap (filter (has granted)) (map-append numbered (take i numbers) (get_or numbers i 0 ∷ []))
    ∙ filter-append (has granted) (map numbered (take i numbers)) (numbered (get_or numbers i 0) ∷ []))

-- one number more, whose request is granted
pub one_granted : (granted : ℕ) (numbers : List ℕ) (i : ℕ) → i < length numbers → has granted (numbered (get_or numbers i 0)) ≡ true
    → among granted (take (i + 1) numbers) ≡ among granted (take i numbers) ++ numbered (get_or numbers i 0) ∷ []
one_granted granted numbers i h is =
    among-more granted numbers i h
    ∙ ap (λ b. among granted (take i numbers) ++ cond b (numbered (get_or numbers i 0) ∷ []) []) is

-- one number more, whose request is not granted
pub one_refused : (granted : ℕ) (numbers : List ℕ) (i : ℕ) → i < length numbers → has granted (numbered (get_or numbers i 0)) ≡ false
    → among granted (take (i + 1) numbers) ≡ among granted (take i numbers)
one_refused granted numbers i h is =
    among-more granted numbers i h
    ∙ (ap (λ b. among granted (take i numbers) ++ cond b (numbered (get_or numbers i 0) ∷ []) []) is
    ∙ append-nil (among granted (take i numbers)))

-- the requests as text, by whether there is one
pub text_some : (qs : List Perms) → is_empty qs ≡ false → spaced qs ≡ requests_text qs
text_some [] h = absurd (cc h)
text_some (q ∷ qs) h = refl

pub text_none : (qs : List Perms) → is_empty qs ≡ true → (spaced qs ≡ []) × (requests_text qs ≡ codes "none")
text_none [] h = (refl, refl)
text_none (q ∷ qs) h = absurd (cc h)

-- each number is that of a request
pub below_eight : (numbers : List ℕ) → AllByRecursion (λ n. n < 8) numbers → (i : ℕ) → i < length numbers → get_or numbers i 0 < 8
below_eight [] all i h = absurd (omega arith)
below_eight (n ∷ numbers) all zero h = all.0
below_eight (n ∷ numbers) all (suc i) h = below_eight numbers all.1 i (omega arith)

-- one granted request more
pub text_step : (old t0 t1 : List ℕ) (qs all : List Perms) (q request : Perms) (first : Bool) → t1 ≡ t0 ++ request_text first request → t0 ≡ old ++ spaced qs
    → first ≡ is_empty qs → request ≡ q → all ≡ qs ++ q ∷ []
    → t1 ≡ old ++ spaced all
text_step old t0 t1 qs all q request first wrote before is same more =
    wrote
    ∙ (ap (λ r. t0 ++ request_text first r) same
    ∙ (ap (λ b. t0 ++ request_text b q) is
    ∙ (ap (λ (t : List ℕ). t ++ request_text (is_empty qs) q) before
    ∙ (append_assoc old (spaced qs) (request_text (is_empty qs) q)
    ∙ ap (λ (t : List ℕ). old ++ t) (sym (spaced-more qs q) ∙ ap spaced (sym more))))))
