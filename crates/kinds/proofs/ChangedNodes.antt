-- Nodes of some numbers that become others.
use Rattle.std.proofs.Common.{◌≡◌, ℕ, ◌<◌, ◌||◌, Bool, true, false, cond, List, [], ◌∷◌, ◌++◌, length, map, set, get_or, get_or-set_other, Option, Some, None, refl, sym, ap, subst, ◌∙◌, arith}
use Rattle.std.specs.Prelude.{◌==◌, option_map}
use Rattle.std.proofs.lemmas.List.{map-set, length-map}
use Rattle.std.proofs.lemmas.List.Folds.{list_any-append}
use Rattle.kinds.specs.Kinds.{KindsOf, kinds_of, node_at, count_at, IsNode}
use Rattle.kinds.specs.Numbered.{Numbers, AreSound}
use Rattle.kinds.specs.Tagged.{is_one, ChangesEach, AreNoted}
use Rattle.kinds.proofs.Numbers.{eq_true, eq_false, eq_swap, set_read, node_within}
use Rattle.kinds.proofs.EntriesBy.{all_weaker}

or_one : (a b : Bool) {A : Type 0} (x y : A) → (b ≡ true → y ≡ x) → cond (a || (b || false)) x y ≡ cond a x y
or_one true b x y h = refl
or_one false true x y h = sym (h refl)
or_one false false x y h = refl

module _ {N : Type 0} (f : N → N) (old : KindsOf N) where
  -- a number more, whose node stays
  pub changes_same : (done : List ℕ) (m : ℕ) (new : KindsOf N) → option_map f (node_at old m) ≡ node_at old m → ChangesEach f done old new → ChangesEach f (done ++ m ∷ []) old new
  changes_same done m new same h = record {
    nodes = λ n.
        h.nodes n
        ∙ sym (or_one (is_one n done) (m == n) (option_map f (node_at old n)) (node_at old n) (λ e. subst (λ i. node_at old i ≡ option_map f (node_at old i)) (eq_true m n e) (sym same)))
        ∙ ap (λ b. cond b (option_map f (node_at old n)) (node_at old n)) (sym (list_any-append (λ i. i == n) done (m ∷ [])));
    counts = h.counts;
  }

  -- a number more, whose node becomes another one
  pub changes_next : (done : List ℕ) (m : ℕ) (slots new : List (Option N × ℕ)) (s : Option N × ℕ) → IsNode old m → s ≡ (option_map f (node_at old m), count_at old m) → new ≡ set slots m s
      → ChangesEach f done old (kinds_of slots) → ChangesEach f (done ++ m ∷ []) old (kinds_of new)
  changes_next done m slots new s there is made h = record {
    nodes = λ n.
        node n ∙ by_node n (is_one n done) (m == n) refl (h.nodes n)
        ∙ ap (λ b. cond b (option_map f (node_at old n)) (node_at old n)) (sym (list_any-append (λ i. i == n) done (m ∷ [])));
    counts = λ n. count n ∙ by_count n (m == n) refl;
  }
    where
      here : (b : Bool) → (x : N) × (cond b (option_map f (node_at old m)) (node_at old m) ≡ Some x)
      here true = (f there.0, ap (option_map f) there.1)
      here false = there

      within : m < length slots
      within =
          let some = here (is_one m done) in
          let lt = node_within (kinds_of slots).0 m some.0 (h.nodes m ∙ some.1) in
          omega (arith, lt, length-map slots (λ (t : Option N × ℕ). t.0))

      swap : (n : ℕ) → (n == m) ≡ (m == n)
      swap n = grind arith

      node : (n : ℕ) → node_at (kinds_of new) n ≡ cond (m == n) s.0 (node_at (kinds_of slots) n)
      node n =
          ap (λ (l : List (Option N × ℕ)). node_at (kinds_of l) n) made
          ∙ ap (λ l. get_or l n None) (map-set (λ (t : Option N × ℕ). t.0) slots m s)
          ∙ set_read (map (λ t. t.0) slots) m n s.0 None (omega (arith, within, length-map slots (λ (t : Option N × ℕ). t.0)))
          ∙ ap (λ b. cond b s.0 (node_at (kinds_of slots) n)) (swap n)

      count : (n : ℕ) → count_at (kinds_of new) n ≡ cond (m == n) s.1 (count_at (kinds_of slots) n)
      count n =
          ap (λ (l : List (Option N × ℕ)). count_at (kinds_of l) n) made
          ∙ ap (λ l. get_or l n 0) (map-set (λ (t : Option N × ℕ). t.1) slots m s)
          ∙ set_read (map (λ t. t.1) slots) m n s.1 0 (omega (arith, within, length-map slots (λ (t : Option N × ℕ). t.1)))
          ∙ ap (λ b. cond b s.1 (count_at (kinds_of slots) n)) (swap n)

      by_node : (n : ℕ) (a b : Bool) → (m == n) ≡ b → node_at (kinds_of slots) n ≡ cond a (option_map f (node_at old n)) (node_at old n)
          → cond b s.0 (node_at (kinds_of slots) n) ≡ cond (a || (b || false)) (option_map f (node_at old n)) (node_at old n)
      by_node n true true e was = ap (λ (t : Option N × ℕ). t.0) is ∙ ap (λ i. option_map f (node_at old i)) (eq_true m n e)
      by_node n false true e was = ap (λ (t : Option N × ℕ). t.0) is ∙ ap (λ i. option_map f (node_at old i)) (eq_true m n e)
      by_node n true false e was = was
      by_node n false false e was = was

      by_count : (n : ℕ) (b : Bool) → (m == n) ≡ b → cond b s.1 (count_at (kinds_of slots) n) ≡ count_at old n
      by_count n true e = ap (λ (t : Option N × ℕ). t.1) is ∙ ap (count_at old) (eq_true m n e)
      by_count n false e = h.counts n

  node_kept : (new : KindsOf N) (numbers : List ℕ) → ChangesEach f numbers old new → (n : ℕ) → IsNode old n → IsNode new n
  node_kept new numbers h n there = by (is_one n numbers) (h.nodes n)
    where
      by : (b : Bool) → node_at new n ≡ cond b (option_map f (node_at old n)) (node_at old n) → IsNode new n
      by true is = (f there.0, is ∙ ap (option_map f) there.1)
      by false is = (there.0, is ∙ there.1)

  pub changed_sound : (new : KindsOf N) (numbers : List ℕ) (ns : Numbers) → ChangesEach f numbers old new → AreSound old ns → AreSound new ns
  changed_sound new numbers ns h sound = record {
    order = sound.order;
    used = all_weaker (λ e. IsNode old e.1) (λ e. IsNode new e.1) (λ e. node_kept new numbers h e.1) ns sound.used;
    counted = λ n. h.counts n ∙ sound.counted n;
  }

-- ---- the numbers of the nodes that became others

one_more : (n m : ℕ) (ns : List ℕ) → is_one n (ns ++ m ∷ []) ≡ (is_one n ns || ((m == n) || false))
one_more n m ns = list_any-append (λ i. i == n) ns (m ∷ [])

module _ {N : Type 0} (old : KindsOf N) where
  -- none so far
  pub none_noted : (new : KindsOf N) (done noted : List ℕ) → noted ≡ [] → new ≡ old → AreNoted done old new noted
  none_noted new done noted none same = record {
    among = λ n one. let no : false ≡ true = sym (ap (is_one n) none) ∙ one in cc;
    same = λ n out. ap (λ (k : KindsOf N). node_at k n) same;
  }

  -- a number more, whose node stays
  pub noted_same : (new : KindsOf N) (done noted : List ℕ) (m : ℕ) → AreNoted done old new noted → AreNoted (done ++ m ∷ []) old new noted
  noted_same new done noted m h = record {
    among = λ n one. one_more n m done ∙ ap (λ b. b || ((m == n) || false)) (h.among n one);
    same = h.same;
  }

  -- a number more, whose node becomes another one
  pub noted_next : (slots new : List (Option N × ℕ)) (done noted more : List ℕ) (m : ℕ) (s : Option N × ℕ) → new ≡ set slots m s → more ≡ noted ++ m ∷ []
      → AreNoted done old (kinds_of slots) noted → AreNoted (done ++ m ∷ []) old (kinds_of new) more
  noted_next slots new done noted more m s made is h = record {
    among = λ n one. one_more n m done ∙ grown (is_one n noted) (is_one n done) ((m == n) || false) (h.among n) (sym (one_more n m noted) ∙ sym (ap (is_one n) is) ∙ one);
    same = λ n out. node n (neither (is_one n noted) (m == n) (sym (one_more n m noted) ∙ sym (ap (is_one n) is) ∙ out));
  }
    where
      grown : (a b c : Bool) → (a ≡ true → b ≡ true) → (a || c) ≡ true → (b || c) ≡ true
      grown a true c among one = refl
      grown true false c among one = let no : false ≡ true = among refl in cc
      grown false false c among one = one

      neither : (a b : Bool) → (a || (b || false)) ≡ false → (a ≡ false) × (b ≡ false)
      neither true b h = cc
      neither false true h = cc
      neither false false h = (refl, refl)

      node : (n : ℕ) → (is_one n noted ≡ false) × ((m == n) ≡ false) → node_at (kinds_of new) n ≡ node_at old n
      node n outs =
          ap (λ (l : List (Option N × ℕ)). node_at (kinds_of l) n) made
          ∙ ap (λ l. get_or l n None) (map-set (λ (t : Option N × ℕ). t.0) slots m s)
          ∙ get_or-set_other (map (λ t. t.0) slots) m n s.0 None (eq_false n m (eq_swap n m ∙ outs.1))
          ∙ h.same n outs.0
