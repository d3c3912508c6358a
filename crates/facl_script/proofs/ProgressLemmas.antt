-- Lemmas on how far a run has come.
use Rattle.std.proofs.Common.{◌≡◌, ◌<◌, ℕ, Bool, true, false, not, cond, ◌||◌, nat_eq, List, [], ◌∷◌, ◌++◌, Option, refl, sym, ap, ◌∙◌, arith, append_assoc}
use Rattle.std.proofs.Common.{append-nil, true≢false, eq-eqb, add_assoc, add-zero, zero-add}
use Rattle.std.proofs.lemmas.Bool.{ne_eqb}
use Rattle.std.proofs.lemmas.List.Elements.{filter-append}
use Rattle.facl_script.specs.Lines.{lines_of}
use Rattle.facl_script.specs.Units.{ScriptUnit, outside, cut, units_of, full_units, HasNoUnit}
use Rattle.facl_script.specs.ReadUnit.{IsNextUnit}
use Rattle.facl_script.specs.Play.{Answer, quiet, joined, play}
use Rattle.facl_script.proofs.Progress.{Progress, AgreesBelow}
use Rattle.facl_script.proofs.TextLemmas.{of_not_not}

or_assoc : (a b c : Bool) → ((a || b) || c) ≡ (a || (b || c))
or_assoc true b c = refl
or_assoc false b c = refl

pub or_false : (a : Bool) → (a || false) ≡ a
or_false true = refl
or_false false = refl

joined-assoc : {S : Type 0} (a b c : Answer S) → joined (joined a b) c ≡ joined a (joined b c)
joined-assoc a b c = rw (append_assoc a.out b.out c.out, append_assoc a.err b.err c.err, or_assoc a.refused b.refused c.refused, add_assoc a.cost b.cost c.cost) refl

joined-quiet : {S : Type 0} (a : Answer S) → joined a (quiet a.state) ≡ a
joined-quiet a = rw (append-nil a.out, append-nil a.err, or_false a.refused, add-zero a.cost) refl

quiet-joined : {S : Type 0} (state : S) (a : Answer S) → a ≡ joined (quiet state) a
quiet-joined state a = rw (zero-add a.cost) refl

pub play-append : {S : Type 0} (answered : Bool → ScriptUnit → S → Answer S) (m : ℕ → Bool) (us vs : List ScriptUnit) (state : S)
    → play answered m (us ++ vs) state ≡ joined (play answered m us state) (play answered m vs (play answered m us state).state)
play-append answered m [] vs state = quiet-joined state (play answered m vs state)
play-append answered m (u ∷ us) vs state =
    let a = answered (m u.number) u state in
    ap (joined a) (play-append answered m us vs a.state) ∙ sym (joined-assoc a (play answered m us a.state) (play answered m vs (play answered m us a.state).state))

-- m, but b at n
abbrev pub updated : ℕ → Bool → (ℕ → Bool) → ℕ → Bool
updated n b m k = cond (nat_eq k n) b (m k)

pub updated_at : (n : ℕ) (b : Bool) (m : ℕ → Bool) → updated n b m n ≡ b
updated_at n b m = rw (eq-eqb n n refl) refl

updated_below : (n : ℕ) (b : Bool) (m : ℕ → Bool) (k : ℕ) → k < n → updated n b m k ≡ m k
updated_below n b m k h = rw (ne_eqb k n (λ e. omega (arith, e, h))) refl

pub updated_agrees : (n : ℕ) (b : Bool) (m : ℕ → Bool) → AgreesBelow n m (updated n b m)
updated_agrees n b m k lt = updated_below n b m k lt

below_before : (n n' : ℕ) (b : Bool) (m m' : ℕ → Bool) → n < n' → AgreesBelow n' (updated n b m) m' → AgreesBelow n m m'
below_before n n' b m m' grows h k lt = h k (omega (arith, lt, grows)) ∙ updated_below n b m k lt

below_at : (n n' : ℕ) (b : Bool) (m m' : ℕ → Bool) → n < n' → AgreesBelow n' (updated n b m) m' → m' n ≡ b
below_at n n' b m m' grows h = h n grows ∙ updated_at n b m

-- nothing is returned
pub begins : {S : Type 0} (asks : List ℕ → Bool) (answered : Bool → ScriptUnit → S → Answer S) (start : S) → Progress asks answered start [] 1 false (quiet start)
begins asks answered start = record { done = []; m = λ _. false; splits = λ rest h. refl; full = λ h. refl; plays = λ m' h. refl }

-- one more unit is answered
pub plays_more : {S : Type 0} (answered : Bool → ScriptUnit → S → Answer S) (start : S) (done : List ScriptUnit) (m : ℕ → Bool) (answer_so_far : Answer S) (u : ScriptUnit) (b : Bool)
    → play answered m done start ≡ answer_so_far → m u.number ≡ b → play answered m (done ++ u ∷ []) start ≡ joined answer_so_far (answered b u answer_so_far.state)
plays_more answered start done m answer_so_far u b h e =
    play-append answered m done (u ∷ []) start ∙ ap (λ a. joined a (play answered m (u ∷ []) a.state)) h
    ∙ ap (λ w. joined answer_so_far (joined (answered w u answer_so_far.state) (quiet (answered w u answer_so_far.state).state))) e
    ∙ ap (joined answer_so_far) (joined-quiet (answered b u answer_so_far.state))

-- the units of what was returned and of the piece after it
pub next_splits : {S : Type 0} (asks : List ℕ → Bool) (answered : Bool → ScriptUnit → S → Answer S) (start : S) (taken : List ℕ) (number number' : ℕ)
    (answer_so_far : Answer S) (p : Progress asks answered start taken number false answer_so_far)
    (before after : Option (List ℕ)) (old new : ℕ) (piece : List ℕ) (u : ScriptUnit) (next : IsNextUnit asks before after old new number number' piece u)
    (rest : List ℕ) → (u.is_full ≡ false → rest ≡ [])
    → units_of asks ((taken ++ piece) ++ rest) ≡ (p.done ++ u ∷ []) ++ cut asks outside number' (lines_of rest)
next_splits asks answered start taken number number' answer_so_far p before after old new piece u next rest last =
    ap (units_of asks) (append_assoc taken piece rest) ∙ p.splits (piece ++ rest) (λ e. absurd (true≢false (sym e)))
    ∙ ap (λ us. p.done ++ us) (next.splits rest last) ∙ sym (append_assoc p.done (u ∷ []) (cut asks outside number' (lines_of rest)))

not_true : (b : Bool) → b ≡ false → not b ≡ true
not_true b e = ap not e

full_last : (u : ScriptUnit) → u.is_full ≡ true → full_units (u ∷ []) ≡ u ∷ []
full_last u e = rw e refl

pub goes_on : {S : Type 0} (asks : List ℕ → Bool) (answered : Bool → ScriptUnit → S → Answer S) (start : S) (taken : List ℕ) (number number' : ℕ)
    (answer_so_far : Answer S) (p : Progress asks answered start taken number false answer_so_far)
    (before after : Option (List ℕ)) (old new : ℕ) (piece : List ℕ) (u : ScriptUnit) (next : IsNextUnit asks before after old new number number' piece u) (ran_out : Bool)
    → Progress asks answered start (taken ++ piece) number' (not u.is_full) (joined answer_so_far (answered ran_out u answer_so_far.state))
goes_on asks answered start taken number number' answer_so_far p before after old new piece u next ran_out = record {
  done = p.done ++ u ∷ [];
  m = updated number ran_out p.m;
  splits = λ rest h. next_splits asks answered start taken number number' answer_so_far p before after old new piece u next rest (λ e. h (not_true u.is_full e));
  full = λ e. filter-append (λ (v : ScriptUnit). v.is_full) p.done (u ∷ []) ∙ ap (λ l. l ++ full_units (u ∷ [])) (p.full refl) ∙ ap (λ l. p.done ++ l) (full_last u (of_not_not u.is_full e));
  plays = λ m' agrees. plays_more answered start p.done m' answer_so_far u ran_out (p.plays m' (below_before number number' ran_out p.m m' next.grows agrees))
      (ap m' next.numbered ∙ below_at number number' ran_out p.m m' next.grows agrees);
}

-- the answer to the units done, where the rest that was returned has none
pub full_answer : {S : Type 0} (asks : List ℕ → Bool) (answered : Bool → ScriptUnit → S → Answer S) (start : S) (taken : List ℕ) (number : ℕ)
    (answer_so_far : Answer S) (p : Progress asks answered start taken number false answer_so_far) (tail : List ℕ)
    → HasNoUnit asks tail → play answered p.m (full_units (units_of asks (taken ++ tail))) start ≡ answer_so_far
full_answer asks answered start taken number answer_so_far p tail none =
    ap (λ us. play answered p.m us start)
    (ap full_units (p.splits tail (λ e. absurd (true≢false (sym e)))) ∙ filter-append (λ (u : ScriptUnit). u.is_full) p.done (cut asks outside number (lines_of tail))
    ∙ ap (λ l. full_units p.done ++ l) (none number) ∙ append-nil (full_units p.done) ∙ p.full refl)
    ∙ p.plays p.m (λ k lt. refl)
