-- What the counts of users have after some counts of files by classes.
use Rattle.std.proofs.Common.{◌≡◌, ℕ, zero, suc, ◌+◌, ◌<◌, arith, true, false, cond, List, [], ◌∷◌, ◌++◌, append-nil, append_assoc, map, length, take, drop, set, get_or}
use Rattle.std.proofs.Common.{◌≤◌, Option, Some, None, refl, sym, ap, subst, ◌∙◌}
use Rattle.std.specs.Prelude.{◌||◌, ◌&&◌, unwrap_or}
use Rattle.std.specs.List.{list_all}
use Rattle.std.proofs.lemmas.Bool.{and_parts}
use Rattle.std.proofs.lemmas.List.{map-append, take_all, take_more, take_more_set, drop-set-lt}
use Rattle.acl_names.specs.Paths.{PathOf}
use Rattle.facl_counts.specs.GainsText.{is_change}
use Rattle.facl_answers.specs.Inner.{Placed, same_place}
use Rattle.facl_answers.specs.BothStates.{BothClassed, RowsOfFile}
use Rattle.facl_counts.specs.InnerGains.{AllOfBoth, Gained, IsCountedFor, IsPassed, ArePassed, RowStays, AreCountedFor, verdict_given}
use Rattle.facl_counts.specs.InnerGains.{cells_of_both, change_of, gained_of, keeps}
use Rattle.facl_counts.specs.InnerGains.{keyed, row_given, rekeyed}
use Rattle.facl_counts.specs.Counting.{tallied}
use Rattle.facl_answers.specs.BothStates.{Sides, rows_of_key}
use Rattle.path_classes.specs.Tallies.{Tallied, SaysAs}
use Rattle.facl_counts.specs.declared.tallies.Tally.{Tally}
use Rattle.facl_counts.specs.declared.user_gains.GivenRow.{GivenRow}
use Rattle.facl_counts.specs.declared.user_gains.UserGains.{UserGains}
use Rattle.facl_counts.proofs.Gained.{no_gain}
use Rattle.facl_counts.proofs.Rekeyed.{rekeyed_append}
use Rattle.facl_counts.proofs.Tallying.{same_of}

-- ---- elements at one place

module _ {A B C : Type 0} (P : A → B → Type 0) (Q : B → C → Type 0) (R : A → C → Type 0) where
  all_then : ((x : A) (y : B) (z : C) → P x y → Q y z → R x z) → (xs : List A) (ys : List B) (zs : List C) → AllOfBoth P xs ys → AllOfBoth Q ys zs → AllOfBoth R xs zs
  all_then h [] [] [] p q = tt
  all_then h [] [] (z ∷ zs) p q = absurd q
  all_then h [] (y ∷ ys) zs p q = absurd p
  all_then h (x ∷ xs) [] zs p q = absurd p
  all_then h (x ∷ xs) (y ∷ ys) [] p q = absurd q
  all_then h (x ∷ xs) (y ∷ ys) (z ∷ zs) p q = (h x y z p.0 q.0, all_then h xs ys zs p.1 q.1)

module _ {A B : Type 0} (P : A → B → Type 0) where
  all_more : (xs : List A) (ys : List B) (x : A) (y : B) → AllOfBoth P xs ys → P x y → AllOfBoth P (xs ++ x ∷ []) (ys ++ y ∷ [])
  all_more [] [] x y p h = (h, tt)
  all_more [] (b ∷ ys) x y p h = absurd p
  all_more (a ∷ xs) [] x y p h = absurd p
  all_more (a ∷ xs) (b ∷ ys) x y p h = (p.0, all_more xs ys x y p.1 h)

-- ---- no change where a row stays

no_change : (cell : Option ℕ) → is_change true (cell, cell) ≡ false
no_change cell = λ i. no_gain (unwrap_or cell 0) i || no_gain (unwrap_or cell 0) i

pub unchanged : (places : Sides) (row : Option (List ℕ)) → same_place places.0 places.1 ≡ true → change_of places (row, row) ≡ None
unchanged places None same = refl
unchanged places (Some row) same =
    let place = same_of places.0 places.1 same in
    let cell = verdict_given (Some row) places.0 in
    let kept : is_change true (cells_of_both places (Some row, Some row)) ≡ false = ap (λ p. is_change true (cell, verdict_given (Some row) p)) (sym place) ∙ no_change cell in
    ap (λ b. cond b (Some (cells_of_both places (Some row, Some row))) None) kept

-- nothing is counted where the row and the users are the same
pub counted_none : (rows : RowsOfFile) (count : ℕ) (first : PathOf) → rows.0 ≡ rows.1 → (users : List UserGains) → list_all keeps users ≡ true → AreCountedFor rows count first users users
counted_none rows count first same [] h = tt
counted_none rows count first same (user ∷ users) h =
    let parts = and_parts (keeps user) (list_all keeps users) h in
    let placed = gained_of user in
    let none : change_of placed.0.1 rows ≡ None = ap (λ row. change_of placed.0.1 (row, rows.1)) same ∙ unchanged placed.0.1 rows.1 parts.0 in
    ((refl, λ others says. subst (λ l. SaysAs placed.1 l) (sym (ap (λ o. others ++ keyed o count first) none ∙ append-nil others)) says), counted_none rows count first same users parts.1)

pub same_row : (rows : RowsOfFile) → RowStays rows → rows.0 ≡ rows.1
same_row rows stays = ap (λ (r : RowsOfFile). r.0) stays.1 ∙ sym (ap (λ (r : RowsOfFile). r.1) stays.1)

-- ---- the places of users

-- users whose counts alone change keep their places, or do not, as before
pub places_stay : (both : BothClassed) (ts : List (Tallied Sides)) (xs ys : List UserGains) → ArePassed both ts xs ys → list_all keeps ys ≡ list_all keeps xs
places_stay both ts [] [] h = refl
places_stay both ts [] (y ∷ ys) h = absurd h
places_stay both ts (x ∷ xs) [] h = absurd h
places_stay both ts (x ∷ xs) (y ∷ ys) h =
    let here : keeps y ≡ keeps x = ap (λ (placed : Placed). same_place placed.1.0 placed.1.1) h.0.0 in
    let more = places_stay both ts xs ys h.1 in
    λ i. here i && more i

-- ---- a loop over users

module _ {A : Type 0} where
  -- an element that is left
  left_at : (xs : List A) (i : ℕ) (x : A) (rest : List A) → drop i xs ≡ x ∷ rest → (take (i + 1) xs ≡ take i xs ++ x ∷ []) × (drop (i + 1) xs ≡ rest)
  left_at [] zero x rest h = absurd (cc h)
  left_at [] (suc i) x rest h = absurd (cc h)
  left_at (y ∷ xs) zero x rest h =
      let same : y ≡ x = cc in
      let more : xs ≡ rest = cc in
      (ap (λ z. z ∷ []) same, more)
  left_at (y ∷ xs) (suc i) x rest h =
      let on : suc i + 1 ≡ suc (i + 1) = omega arith in
      let more = left_at xs i x rest h in
      (ap (λ k. take k (y ∷ xs)) on ∙ ap (λ l. y ∷ l) more.0, ap (λ k. drop k (y ∷ xs)) on ∙ more.1)

  pub drop_here : (xs : List A) (i : ℕ) (x d : A) → i < length xs → x ≡ get_or xs i d → drop i xs ≡ x ∷ drop (i + 1) xs
  drop_here [] i x d lt is = absurd (omega (arith, lt))
  drop_here (y ∷ xs) zero x d lt is = ap (λ z. z ∷ xs) (sym is)
  drop_here (y ∷ xs) (suc i) x d lt is =
      let on : suc i + 1 ≡ suc (i + 1) = omega arith in
      drop_here xs i x d (omega (arith, lt)) is ∙ ap (λ k. x ∷ drop k (y ∷ xs)) (sym on)

module _ (rows : RowsOfFile) (count : ℕ) (first : PathOf) (start : List UserGains) where
  -- the users so far are counted, and those to come are as they were
  abbrev pub AreCountedTo : ℕ → List UserGains → Type 0
  AreCountedTo i users = AreCountedFor rows count first (take i start) (take i users) × (drop i users ≡ drop i start)

  pub counted_more : (i : ℕ) (users : List UserGains) (old new d : UserGains) → i < length users → old ≡ get_or users i d → AreCountedTo i users
      → IsCountedFor rows count first (gained_of old) (gained_of new)
      → AreCountedTo (i + 1) (set users i new)
  counted_more i users old new d lt is so_far here =
      let left = drop_here users i old d lt is in
      let started = left_at start i old (drop (i + 1) users) (sym so_far.1 ∙ left) in (
        subst (λ l. AllOfBoth (IsCountedFor rows count first) l (map gained_of (take (i + 1) (set users i new)))) (sym (ap (map gained_of) started.0 ∙ map-append gained_of (take i start) (old ∷ [])))
            (subst (λ l. AllOfBoth (IsCountedFor rows count first) (map gained_of (take i start) ++ gained_of old ∷ []) l)
            (sym (ap (map gained_of) (take_more_set users i new lt) ∙ map-append gained_of (take i users) (new ∷ [])))
            (all_more (IsCountedFor rows count first) (map gained_of (take i start)) (map gained_of (take i users)) (gained_of old) (gained_of new) so_far.0 here)),
        drop-set-lt (i + 1) users i new (omega arith) ∙ sym started.1,
      )

  pub counted_all : (i : ℕ) (users : List UserGains) → length users ≤ i → length start ≤ i → AreCountedTo i users → AreCountedFor rows count first start users
  counted_all i users past past_start so_far =
      subst (λ l. AreCountedFor rows count first l users) (take_all i start past_start)
      (subst (λ l. AreCountedFor rows count first (take i start) l) (take_all i users past) so_far.0)

-- a row that stays
pub stays_by : (before after : GivenRow) → before.is_there ≡ true → after.is_there ≡ true → before.row.now ≡ after.row.now → RowStays (row_given before, row_given after)
stays_by before after was is same =
    (after.row.now, λ i. ((ap (λ b. cond b (Some before.row.now) None) was ∙ ap Some same) i, ap (λ b. cond b (Some after.row.now) None) is i))

-- ---- counts of files, one after another

module _ (both : BothClassed) where
  abbrev key_of : Placed → Sides → Option Sides
  key_of placed key = change_of placed.1 (rows_of_key both key)

  pub passed_more : (ts : List (Tallied Sides)) (t : Tallied Sides) (x y z : Gained) → IsPassed both ts x y → IsCountedFor (rows_of_key both t.key) t.count t.first y z
      → IsPassed both (ts ++ t ∷ []) x z
  passed_more ts t x y z p q = (
    q.0 ∙ p.0,
    λ others says.
        subst (λ l. SaysAs z.1 l)
        (append_assoc others (rekeyed (key_of x.0) ts) (keyed (key_of y.0 t.key) t.count t.first)
        ∙ ap (λ l. others ++ l)
        (sym (λ i. rekeyed (key_of x.0) ts ++ append-nil (keyed (key_of (sym p.0 i) t.key) t.count t.first) i)
        ∙ sym (rekeyed_append (key_of x.0) ts (t ∷ []))))
        (q.1 (others ++ rekeyed (key_of x.0) ts) (p.1 others says)),
  )

  pub all_passed_more : (ts : List (Tallied Sides)) (t : Tallied Sides) (xs ys zs : List Gained) → AllOfBoth (IsPassed both ts) xs ys
      → AllOfBoth (IsCountedFor (rows_of_key both t.key) t.count t.first) ys zs
      → AllOfBoth (IsPassed both (ts ++ t ∷ [])) xs zs
  all_passed_more ts t xs ys zs p q = all_then (IsPassed both ts) (IsCountedFor (rows_of_key both t.key) t.count t.first) (IsPassed both (ts ++ t ∷ [])) (passed_more ts t) xs ys zs p q

  pub passed_none : (xs : List Gained) → AllOfBoth (IsPassed both []) xs xs
  passed_none [] = tt
  passed_none (x ∷ xs) = ((refl, λ others says. subst (λ l. SaysAs x.1 l) (sym (append-nil others)) says), passed_none xs)

  pub passed_next : (ts : List Tally) (i : ℕ) (t d : Tally) (xs ys zs : List UserGains) → i < length ts → t ≡ get_or ts i d → ArePassed both (map tallied (take i ts)) xs ys
      → AreCountedFor (rows_of_key both t.key) t.count t.first.now ys zs → ArePassed both (map tallied (take (i + 1) ts)) xs zs
  passed_next ts i t d xs ys zs lt is so_far here =
      subst (λ l. ArePassed both l xs zs) (sym (ap (map tallied) (take_more ts i d lt ∙ ap (λ (y : Tally). take i ts ++ y ∷ []) (sym is)) ∙ map-append tallied (take i ts) (t ∷ [])))
      (all_passed_more (map tallied (take i ts)) (tallied t) (map gained_of xs) (map gained_of ys) (map gained_of zs) so_far here)
