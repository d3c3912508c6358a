-- Lists of places, and notes of places.
use Rattle.std.proofs.Common.{◌≡◌, ℕ, suc, ◌+◌, ◌==◌, ◌&&◌, ◌||◌, Bool, true, false, cond, not, List, [], ◌∷◌, ◌++◌, take, drop, map, filter, if◌then◌else◌}
use Rattle.std.proofs.Common.{Vec, Global, Some, refl, ap, sym, subst, ◌∙◌, arith}
use Rattle.std.specs.List.{All, AllZip}
use Rattle.std.specs.Map.{lookup}
use Rattle.std.specs.Option.{option_map_or}
use Rattle.std.specs.declared.rc.Rc.{Rc}
use Rattle.std.proofs.lemmas.Bool.{eqb-true, eq-eqb, ne_eqb, true≢false}
use Rattle.std.proofs.lemmas.List.{take-append-drop}
use Rattle.std.proofs.lemmas.List.Elements.{All-cons}
use Rattle.std.proofs.lemmas.List.Folds.{list_any-append}
use Rattle.acl_entry.specs.Mentions.{is_one_of}
use Rattle.acl_people.specs.Places.{is_noted, of_both}
use Rattle.acl_people.specs.declared.places_by_id.Note.{Note}

-- ---- lists that are cloned one by one

abbrev places_in : (ℕ → Bool) → List (ℕ × Rc (Vec ℕ Global) Global) → List ℕ
places_in test es = option_map_or (λ l. l.value.items) (lookup test es) []

pub clones_found : (test : ℕ → Bool) (es fs : List (ℕ × Rc (Vec ℕ Global) Global)) → AllZip (λ p q. (q.0 ≡ p.0) × (q.1.value ≡ p.1.value)) es fs → places_in test fs ≡ places_in test es
clones_found test [] [] h = refl
clones_found test [] (f ∷ fs) h = absurd h
clones_found test (e ∷ es) [] h = absurd h
clones_found test (e ∷ es) (f ∷ fs) h = ap (λ k. option_map_or (λ l. l.value.items) (cond (test k) (Some f.1) (lookup test fs)) []) h.0.0 ∙ by (test e.0) (clones_found test es fs h.1)
  where
    by : (b : Bool) → places_in test fs ≡ places_in test es
        → option_map_or (λ l. l.value.items) (cond b (Some f.1) (lookup test fs)) [] ≡ option_map_or (λ l. l.value.items) (cond b (Some e.1) (lookup test es)) []
    by true rest = ap (λ v. v.items) h.0.1
    by false rest = rest

-- ---- a list without a place

none_other : (b c : Bool) → c ≡ true → ((c || b) && not c) ≡ (b && not c)
none_other b true h = by b
  where
    by : (x : Bool) → false ≡ (x && false)
    by true = refl
    by false = refl
none_other b false h = refl

or_not : (a b c : Bool) → (a ≡ true → c ≡ false) → (a || (b && not c)) ≡ ((a || b) && not c)
or_not true b true h = absurd (true≢false (h refl))
or_not true b false h = refl
or_not false b c h = refl

pub without_is : (place at : ℕ) (xs : List ℕ) → is_one_of at (filter (λ x. not (x == place)) xs) ≡ (is_one_of at xs && not (place == at))
without_is place at [] = refl
without_is place at (x ∷ xs) = by (x == place) refl (without_is place at xs)
  where
    apart : (x == place) ≡ false → (x == at) ≡ true → (place == at) ≡ false
    apart other same = let e = eqb-true x at same in ne_eqb place at (λ p. true≢false (sym (eq-eqb x place (e ∙ sym p)) ∙ other))

    by : (b : Bool) → (x == place) ≡ b → is_one_of at (filter (λ y. not (y == place)) xs) ≡ (is_one_of at xs && not (place == at))
        → is_one_of at (cond (not b) (x ∷ filter (λ y. not (y == place)) xs) (filter (λ y. not (y == place)) xs)) ≡ (((x == at) || is_one_of at xs) && not (place == at))
    by true same rest =
        rest
        ∙ sym (gone (place == at) refl)
      where
        here : x ≡ place
        here = eqb-true x place same

        gone : (c : Bool) → (place == at) ≡ c → (((x == at) || is_one_of at xs) && not (place == at)) ≡ (is_one_of at xs && not (place == at))
        gone c is = ap (λ y. ((y == at) || is_one_of at xs) && not (place == at)) here ∙ by_place c is
          where
            by_place : (d : Bool) → (place == at) ≡ d → (((place == at) || is_one_of at xs) && not (place == at)) ≡ (is_one_of at xs && not (place == at))
            by_place true p = none_other (is_one_of at xs) (place == at) p
            by_place false p = ap (λ d. (d || is_one_of at xs) && not (place == at)) p
    by false other rest = ap (λ b. (x == at) || b) rest ∙ or_not (x == at) (is_one_of at xs) (place == at) (apart other)

-- a place is taken from the list of one id
pub one_removed : (id q place at : ℕ) (without list old new : List ℕ) → without ≡ filter (λ x. not (x == place)) list → (id ≡ q → list ≡ old)
    → new ≡ (if id == q then without else old) → is_one_of at new ≡ (is_one_of at old && not ((id == q) && (place == at)))
one_removed id q place at without list old new is same put = ap (is_one_of at) put ∙ by (id == q) refl
  where
    by : (b : Bool) → (id == q) ≡ b → is_one_of at (if b then without else old) ≡ (is_one_of at old && not (b && (place == at)))
    by true h = ap (is_one_of at) (is ∙ ap (filter (λ x. not (x == place))) (same (eqb-true id q h))) ∙ without_is place at old
    by false h = by_old (is_one_of at old)
      where
        by_old : (b : Bool) → b ≡ (b && true)
        by_old true = refl
        by_old false = refl

-- ---- notes of one id

pub noted_end : (q at : ℕ) (ns : List Note) (n : Note) → is_noted q at (ns ++ n ∷ []) ≡ (is_noted q at ns || ((n.id == q) && (n.place == at)))
noted_end q at ns n = list_any-append (of_both q at) ns (n ∷ []) ∙ ap (λ b. is_noted q at ns || b) (by (of_both q at n))
  where
    by : (b : Bool) → (b || false) ≡ b
    by true = refl
    by false = refl

run_is : (id q at : ℕ) (ns : List Note) → All (λ n. n.id ≡ id) ns → is_noted q at ns ≡ ((id == q) && is_one_of at (map (λ n. n.place) ns))
run_is id q at [] h = by (id == q)
  where
    by : (b : Bool) → false ≡ (b && false)
    by true = refl
    by false = refl
run_is id q at (n ∷ ns) h =
    ap (λ i. ((i == q) && (n.place == at)) || is_noted q at ns) (h 0 n (omega arith))
    ∙ ap (λ b. ((id == q) && (n.place == at)) || b) (run_is id q at ns (λ k d lt. h (suc k) d (omega (arith, lt))))
    ∙ by (id == q) (n.place == at) (is_one_of at (map (λ m. m.place) ns))
  where
    by : (b c d : Bool) → ((b && c) || (b && d)) ≡ (b && (c || d))
    by true c d = refl
    by false c d = refl

-- the notes of one id are done, which are the first and so many of the others
pub run_more : (first : Note) (others : List Note) (count id at : ℕ) (rest : List Note) (old new all : Bool) → rest ≡ first ∷ others → All (λ n. n.id ≡ first.id) (take count others)
    → new ≡ (old || ((first.id == id) && is_one_of at (map (λ n. n.place) (take (count + 1) rest)))) → (old || is_noted id at rest) ≡ all → (new || is_noted id at (drop count others)) ≡ all
run_more first others count id at rest old new all is those more so_far =
    ap (λ b. b || is_noted id at (drop count others)) (more ∙ ap (λ b. old || b) (sym run))
    ∙ by old (is_noted id at (take (count + 1) rest)) (is_noted id at (drop count others))
    ∙ ap (λ b. old || b) (parts ∙ ap (is_noted id at) (take-append-drop (count + 1) rest))
    ∙ so_far
  where
    next : count + 1 ≡ suc count
    next = omega arith

    taken : take (count + 1) rest ≡ first ∷ take count others
    taken = (λ j. take (next j) (is j))

    dropped : drop (count + 1) rest ≡ drop count others
    dropped = (λ j. drop (next j) (is j))

    run : is_noted id at (take (count + 1) rest) ≡ ((first.id == id) && is_one_of at (map (λ n. n.place) (take (count + 1) rest)))
    run = run_is first.id id at (take (count + 1) rest) (subst (All (λ n. n.id ≡ first.id)) (sym taken) (All-cons (λ n. n.id ≡ first.id) first (take count others) refl those))

    by : (a b c : Bool) → ((a || b) || c) ≡ (a || (b || c))
    by true b c = refl
    by false b c = refl

    parts : (is_noted id at (take (count + 1) rest) || is_noted id at (drop count others)) ≡ is_noted id at (take (count + 1) rest ++ drop (count + 1) rest)
    parts = ap (λ l. is_noted id at (take (count + 1) rest) || is_noted id at l) (sym dropped) ∙ sym (list_any-append (of_both id at) (take (count + 1) rest) (drop (count + 1) rest))

-- ---- a test that failed

pub true_if_not_not : (b : Bool) → false ≡ not b → b ≡ true
true_if_not_not true h = refl
true_if_not_not false h = h
