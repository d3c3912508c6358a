-- Files edited by their numbers.
use Rattle.std.proofs.Common.{◌≡◌, ℕ, zero, suc, ◌+◌, ◌<◌, Bool, true, false, cond, List, [], ◌∷◌, ◌++◌, length, length-append, set, get_or, Some, Result, Ok, Err, refl, sym, ap, subst, ◌∙◌, arith}
use Rattle.std.specs.Prelude.{◌==◌, ◌||◌}
use Rattle.std.specs.List.{AllByRecursion}
use Rattle.std.proofs.Math.ListN.{length-set}
use Rattle.std.proofs.lemmas.List.{map-append}
use Rattle.acl_names.specs.Paths.{PathOf}
use Rattle.acl_names.proofs.Basics.{some_same, all_end}
use Rattle.kinds.specs.declared.memo.Met.{Met}
use Rattle.kinds.specs.Kinds.{KindsOf, node_at, count_at, IsNode, Adds, Grants, Releases}
use Rattle.kinds.specs.Numbered.{Numbers, entries_by, one_if, paths_with}
use Rattle.kinds.specs.Inner.{Extends, paths_in}
use Rattle.kinds.specs.Memo.{NodeEdit, and_others, edit_each, is_new, met_before, met_after, IsEdited, AreEdited, EditsOneMore, IsMetAt, EditsOne, CountsAgain, GrantsMet, ReleasesMet}
use Rattle.kinds.proofs.Numbers.{eq_swap}
use Rattle.kinds.proofs.EntriesBy.{adds_extends, adds_here, all_weaker, all_at, all_set, entry_first, entries_append, entries_extend, used_extend, paths_with-append}

-- ---- what was seen

pub before_more : (n : ℕ) (ms : List Met) (m : Met) → met_before n (ms ++ m ∷ []) ≡ met_before n ms + cond (m.old == n) m.count 0
before_more n [] m = omega arith
before_more n (l ∷ ms) m = let h = before_more n ms m in omega (arith, h)

pub after_more : (n : ℕ) (ms : List Met) (m : Met) → met_after n (ms ++ m ∷ []) ≡ met_after n ms + cond (m.new == n) m.count 0
after_more n [] m = omega arith
after_more n (l ∷ ms) m = let h = after_more n ms m in omega (arith, h)

counted_more : (b : Bool) (c : ℕ) → cond b (c + 1) 0 ≡ cond b c 0 + cond b 1 0
counted_more true c = refl
counted_more false c = refl

before_again : (n : ℕ) (ms : List Met) (at : ℕ) (d : Met) → at < length ms
    → met_before n (set ms at (record (get_or ms at d) { count = (get_or ms at d).count + 1 })) ≡ met_before n ms + one_if n (get_or ms at d).old
before_again n [] at d lt = absurd (omega arith)
before_again n (m ∷ ms) zero d lt = let h = counted_more (m.old == n) m.count in omega (arith, h)
before_again n (m ∷ ms) (suc at) d lt = let h = before_again n ms at d (omega arith) in omega (arith, h)

after_again : (n : ℕ) (ms : List Met) (at : ℕ) (d : Met) → at < length ms
    → met_after n (set ms at (record (get_or ms at d) { count = (get_or ms at d).count + 1 })) ≡ met_after n ms + one_if n (get_or ms at d).new
after_again n [] at d lt = absurd (omega arith)
after_again n (m ∷ ms) zero d lt = let h = counted_more (m.new == n) m.count in omega (arith, h)
after_again n (m ∷ ms) (suc at) d lt = let h = after_again n ms at d (omega arith) in omega (arith, h)

-- ---- which numbers are new

new_again : (n : ℕ) (ms : List Met) (at : ℕ) (d : Met) → is_new n (set ms at (record (get_or ms at d) { count = (get_or ms at d).count + 1 })) ≡ is_new n ms
new_again n [] at d = refl
new_again n (m ∷ ms) zero d = refl
new_again n (m ∷ ms) (suc at) d = ap (λ b. (m.new == n) || b) (new_again n ms at d)

new_more : (n : ℕ) (ms : List Met) (m : Met) → is_new n (ms ++ m ∷ []) ≡ false → (is_new n ms ≡ false) × ((m.new == n) ≡ false)
new_more n [] m h = by (m.new == n) h
  where
    by : (b : Bool) → (b || false) ≡ false → (false ≡ false) × (b ≡ false)
    by true h = cc
    by false h = (refl, refl)
new_more n (l ∷ ms) m h = by (l.new == n) h (λ rest. new_more n ms m rest)
  where
    by : (b : Bool) → (b || is_new n (ms ++ m ∷ [])) ≡ false → (is_new n (ms ++ m ∷ []) ≡ false → (is_new n ms ≡ false) × ((m.new == n) ≡ false))
        → ((b || is_new n ms) ≡ false) × ((m.new == n) ≡ false)
    by true h rest = cc
    by false h rest = rest h

one_more : (n : ℕ) (ns : Numbers) (e : PathOf × ℕ) → paths_with n (ns ++ e ∷ []) ≡ paths_with n ns + one_if n e.1
one_more n ns e = let h = paths_with-append n ns (e ∷ []) in omega (arith, h)

module _ {N F : Type 0} (edit : NodeEdit N F) where
  -- ---- edits, one after another

  abbrev after_edits : List (PathOf × N) → Result (List (PathOf × N)) (PathOf × F) → Result (List (PathOf × N)) (PathOf × F)
  after_edits es (Ok more) = Ok (es ++ more)
  after_edits es (Err fault) = Err fault

  abbrev ok_or : List (PathOf × N) → Result (List (PathOf × N)) (PathOf × F) → List (PathOf × N)
  ok_or d (Ok es) = es
  ok_or d (Err fault) = d

  err_is_not_ok : {A B : Type 0} (a : A) (b : B) → Err b ≡ Ok a → ⊥
  err_is_not_ok a b h = cc

  pub edit_append : (xs ys xs' : List (PathOf × N)) → edit_each edit xs ≡ Ok xs' → edit_each edit (xs ++ ys) ≡ after_edits xs' (edit_each edit ys)
  edit_append [] ys xs' h = by (edit_each edit ys) ∙ ap (λ l. after_edits l (edit_each edit ys)) (ap (ok_or []) h)
    where
      by : (r : Result (List (PathOf × N)) (PathOf × F)) → r ≡ after_edits [] r
      by (Ok es) = refl
      by (Err f) = refl
  edit_append (x ∷ xs) ys xs' h = by (edit x.1) (edit_each edit xs) (λ l is. edit_append xs ys l is) h
    where
      joined : (y : N) (l : List (PathOf × N)) (r : Result (List (PathOf × N)) (PathOf × F)) → and_others x.0 (Ok y) (after_edits l r) ≡ after_edits ((x.0, y) ∷ l) r
      joined y l (Ok es) = refl
      joined y l (Err f) = refl

      by : (o : Result N F) (r : Result (List (PathOf × N)) (PathOf × F))
          → ((l : List (PathOf × N)) → r ≡ Ok l → edit_each edit (xs ++ ys) ≡ after_edits l (edit_each edit ys)) → and_others x.0 o r ≡ Ok xs'
          → and_others x.0 o (edit_each edit (xs ++ ys)) ≡ after_edits xs' (edit_each edit ys)
      by (Err f) r rest h = absurd (err_is_not_ok _ _ h)
      by (Ok y) (Err f) rest h = absurd (err_is_not_ok _ _ h)
      by (Ok y) (Ok l) rest h = ap (λ r. and_others x.0 (Ok y) r) (rest l refl) ∙ joined y l (edit_each edit ys) ∙ ap (λ l. after_edits l (edit_each edit ys)) (ap (ok_or []) h)

  -- ---- one file more

  made_more : (before after : KindsOf N) (done puts : Numbers) (e : PathOf × ℕ) (new : ℕ) (x y : N) → edit_each edit (entries_by before done) ≡ Ok (entries_by after puts)
      → node_at before e.1 ≡ Some x → edit x ≡ Ok y → node_at after new ≡ Some y → edit_each edit (entries_by before (done ++ e ∷ [])) ≡ Ok (entries_by after (puts ++ (e.0, new) ∷ []))
  made_more before after done puts e new x y made is_before makes is_after =
      ap (edit_each edit) (entries_append before done (e ∷ []) ∙ ap (λ l. entries_by before done ++ l) (entry_first before e [] x is_before))
      ∙ edit_append (entries_by before done) ((e.0, x) ∷ []) (entries_by after puts) made
      ∙ ap (λ o. after_edits (entries_by after puts) (and_others e.0 o (Ok []))) makes
      ∙ ap (λ l. Ok l) (ap (λ l. entries_by after puts ++ l) (sym (entry_first after (e.0, new) [] y is_after)) ∙ sym (entries_append after puts ((e.0, new) ∷ [])))

  paths_more : (done puts : Numbers) (e : PathOf × ℕ) (new : ℕ) → paths_in puts ≡ paths_in done → paths_in (puts ++ (e.0, new) ∷ []) ≡ paths_in (done ++ e ∷ [])
  paths_more done puts e new h = map-append (λ e. e.0) puts ((e.0, new) ∷ []) ∙ ap (λ l. l ++ e.0 ∷ []) h ∙ sym (map-append (λ e. e.0) done (e ∷ []))

  pub met_again : (e : PathOf × ℕ) (k : KindsOf N) (met met' : List Met) (puts : Numbers) (at number : ℕ) → IsMetAt met e.1 at → CountsAgain at met met' number
      → EditsOneMore edit e k met puts k met' (puts ++ (e.0, number) ∷ [])
  met_again e k met met' puts at number here counts = λ before done is h.
      let d : Met = record { old = 0; new = 0; count = 0 } in
      let m = get_or met at d in
      let known = all_at (λ m. IsEdited edit before k m.old m.new) met at d here.within h.known in
      let is_after : node_at k number ≡ Some known.edited = ap (node_at k) (counts.number d) ∙ known.is_after in
      let is_before : node_at before e.1 ≡ Some known.node = ap (node_at before) (sym (here.is d)) ∙ known.is_before in
      record {
        extends = h.extends;
        counts = h.counts;
        others = λ n none. h.others n (sym (ap (is_new n) (counts.met d) ∙ new_again n met at d) ∙ none);
        known = subst (AllByRecursion (λ m. IsEdited edit before k m.old m.new)) (sym (counts.met d))
            (all_set (λ m. IsEdited edit before k m.old m.new) met at (record m { count = m.count + 1 }) h.known known);
        paths = paths_more done puts e number h.paths;
        used = all_end (λ e. IsNode k e.1) puts (e.0, number) h.used (known.edited, is_after);
        few =
            let few = h.few in
            let same = ap length (counts.met d) ∙ length-set met at (record m { count = m.count + 1 }) in
            omega (arith, few, same, length-append done (e ∷ []));
        olds = λ n. ap (met_before n) (counts.met d) ∙ before_again n met at d here.within ∙ (λ i. h.olds n i + one_if n (here.is d i)) ∙ sym (one_more n done e);
        news = λ n. ap (met_after n) (counts.met d) ∙ after_again n met at d here.within ∙ (λ i. h.news n i + one_if n (sym (counts.number d) i)) ∙ sym (one_more n puts (e.0, number));
        made = made_more before k done puts e number known.node known.edited h.made is_before known.makes is_after;
      }

  extend_edited : (before k k' : KindsOf N) → Extends k k' → (m : Met) → IsEdited edit before k m.old m.new → IsEdited edit before k' m.old m.new
  extend_edited before k k' ext m h = record { node = h.node; edited = h.edited; is_before = h.is_before; makes = h.makes; is_after = ext m.new h.edited h.is_after }

  pub met_first : (e : PathOf × ℕ) (k k' : KindsOf N) (met : List Met) (puts : Numbers) (y : N) (number : ℕ) → EditsOne edit k e.1 y → Adds k y number k'
      → EditsOneMore edit e k met puts k' (met ++ record { old = e.1; new = number; count = 1 } ∷ []) (puts ++ (e.0, number) ∷ [])
  met_first e k k' met puts y number one adds = λ before done is h.
      let ext = adds_extends k k' y number adds in
      let m : Met = record { old = e.1; new = number; count = 1 } in
      let same : is.0 ≡ one.node = some_same (sym (h.extends e.1 is.0 is.1) ∙ one.is) in
      let is_before : node_at before e.1 ≡ Some one.node = is.1 ∙ ap (λ x. Some x) same in
      let is_after = adds_here k k' y number adds in
      record {
        extends = λ n x here. ext n x (h.extends n x here);
        counts = λ n. adds.counts n ∙ h.counts n;
        others = λ n none. let p = new_more n met m none in adds.nodes n ∙ ap (λ b. cond b (Some y) (node_at k n)) (eq_swap n number ∙ p.1) ∙ h.others n p.0;
        known = all_end (λ m. IsEdited edit before k' m.old m.new) met m
            (all_weaker (λ m. IsEdited edit before k m.old m.new) (λ m. IsEdited edit before k' m.old m.new) (extend_edited before k k' ext) met h.known)
            (record { node = one.node; edited = y; is_before = is_before; makes = one.makes; is_after = is_after });
        paths = paths_more done puts e number h.paths;
        used = all_end (λ e. IsNode k' e.1) puts (e.0, number) (used_extend k k' puts ext h.used) (y, is_after);
        few = let few = h.few in omega (arith, few, length-append met (m ∷ []), length-append done (e ∷ []));
        olds = λ n. before_more n met m ∙ ap (λ k. k + one_if n e.1) (h.olds n) ∙ sym (one_more n done e);
        news = λ n. after_more n met m ∙ ap (λ k. k + one_if n number) (h.news n) ∙ sym (one_more n puts (e.0, number));
        made = made_more before k' done puts e number one.node y (h.made ∙ ap (λ l. Ok l) (sym (entries_extend k k' puts ext h.used))) is_before one.makes is_after;
      }

  -- where an edit fails
  pub fails_at : (before k : KindsOf N) (done later puts : Numbers) (met : List Met) (e : PathOf × ℕ) (fault : (PathOf × F)) → AreEdited edit before done k met puts → IsNode before e.1
      → edit_each edit (entries_by k (e ∷ [])) ≡ Err fault → edit_each edit (entries_by before (done ++ e ∷ later)) ≡ Err fault
  fails_at before k done later puts met e fault h is fails =
      let x = is.0 in
      let same : entries_by k (e ∷ []) ≡ (e.0, x) ∷ [] = entry_first k e [] x (h.extends e.1 x is.1) in
      ap (edit_each edit) (entries_append before done (e ∷ later) ∙ ap (λ l. entries_by before done ++ l) (entry_first before e later x is.1))
      ∙ edit_append (entries_by before done) ((e.0, x) ∷ entries_by before later) (entries_by k puts) h.made
      ∙ by (edit x) (ap (edit_each edit) (sym same) ∙ fails)
    where
      by : (o : Result N F) → and_others e.0 o (Ok []) ≡ Err fault → after_edits (entries_by k puts) (and_others e.0 o (edit_each edit (entries_by before later))) ≡ Err fault
      by (Err f) h = h
      by (Ok n) h = absurd (err_is_not_ok _ _ (sym h))

-- ---- the counts after it

module _ {N : Type 0} where
  pub grants_more : (k0 k k' : KindsOf N) (met : List Met) (m : Met) → GrantsMet k0 met k → Grants k m.new m.count k' → GrantsMet k0 (met ++ m ∷ []) k'
  grants_more k0 k k' met m h one = record {
    nodes = λ n. one.nodes n ∙ h.nodes n;
    counts = λ n.
        let a = one.counts n in
        let b = h.counts n in
        let e : cond (n == m.new) m.count 0 ≡ cond (m.new == n) m.count 0 = ap (λ b. cond b m.count 0) (eq_swap n m.new) in
        let l = after_more n met m in
        omega (arith, a, b, e, l);
  }

  pub releases_more : (k0 k k' : KindsOf N) (met : List Met) (m : Met) → ReleasesMet k0 met k → Releases k m.old m.count k' → ReleasesMet k0 (met ++ m ∷ []) k'
  releases_more k0 k k' met m h one = record {
    nodes = λ n lt. let a = one.counts n in let some : 0 < count_at k n = omega (arith, a, lt) in one.nodes n lt ∙ h.nodes n some;
    counts = λ n.
        let a = one.counts n in
        let b = h.counts n in
        let e : cond (n == m.old) m.count 0 ≡ cond (m.old == n) m.count 0 = ap (λ b. cond b m.count 0) (eq_swap n m.old) in
        let l = before_more n met m in
        omega (arith, a, b, e, l);
  }
