-- Paths of a map put with other numbers: that changes numbers alone.
use Rattle.std.proofs.Common.{◌≡◌, ℕ, ◌+◌, ◌<◌, Bool, true, false, cond, [], ◌∷◌, Some, None, is_some, Ordering, Less, Equal, Greater, refl, sym, ap, subst, ◌∙◌, arith, true≢false}
use Rattle.std.specs.List.{AllByRecursion}
use Rattle.std.specs.Option.{option_or, unwrap_or}
use Rattle.std.specs.Ordering.{is_eq}
use Rattle.std.specs.FinMap.{find, put, is_sorted}
use Rattle.std.specs.FinMap.Entries.{by_order, below_all}
use Rattle.std.proofs.lemmas.Bool.{and_parts}
use Rattle.std.proofs.lemmas.Cmp.{tied_itself}
use Rattle.acl_names.specs.Paths.{path_cmp, PathOf}
use Rattle.acl_names.proofs.PathOrder.{path_total, exact_paths}
use Rattle.acl_names.proofs.Basics.{is_equal}
use Rattle.path_map.specs.Entries.{IsInOrder, found}
use Rattle.path_map.specs.Changed.{each, with_values}
use Rattle.path_map.specs.Inner.{After}
use Rattle.path_map.specs.Merged.{put_all}
use Rattle.path_map.proofs.Each.{in_order-each, with_none}
use Rattle.path_map.proofs.Places.{above, below}
use Rattle.path_map.proofs.Merges.{later_after}
use Rattle.path_map.proofs.Rows.{find_put_all}
use Rattle.kinds.specs.Kinds.{KindsOf, node_at}
use Rattle.kinds.specs.Numbered.{Numbers, one_if, paths_with, AreUsed}
use Rattle.kinds.specs.Inner.{paths_in, AreAmong}
use Rattle.kinds.proofs.Numbers.{eq_self}
use Rattle.kinds.proofs.EntriesBy.{all_weaker}
use Rattle.kinds.proofs.Counts.{not_after}
use Rattle.kinds.proofs.Chosen.{among_all}

-- each path has a number already
abbrev pub AreThere : Numbers → Numbers → Type 0
AreThere ns ps = AllByRecursion (λ p. is_some (find path_cmp p.0 ns) ≡ true) ps

pub there : (ns ps done : Numbers) → paths_in ps ≡ paths_in done → AreAmong ns done → AreThere ns ps
there ns [] [] same h = tt
there ns [] (d ∷ done) same h = cc
there ns (p ∷ ps) [] same h = cc
there ns (p ∷ ps) (d ∷ done) same h =
    let path : p.0 ≡ d.0 = cc in
    let rest : paths_in ps ≡ paths_in done = cc in
    (ap (λ q. is_some (find path_cmp q ns)) path ∙ ap is_some h.0, there ns ps done rest h.1)

pub there_found : (ns ps : Numbers) → AllByRecursion (λ o. is_some o ≡ true) (found ps ns) → AreThere ns ps
there_found ns [] h = tt
there_found ns (p ∷ ps) h = (h.0, there_found ns ps h.1)

kept_after : (p : PathOf × ℕ) (es : Numbers) → After p.0 es → with_values (p ∷ []) es ≡ es
kept_after p [] h = refl
kept_after p (e ∷ es) h = λ i. (e.0, unwrap_or (cond (is_eq (above p.0 e.0 h.0 i)) (Some p.1) None) e.1) ∷ kept_after p es h.1 i

put_found : (p : PathOf × ℕ) (es : Numbers) → IsInOrder es → is_some (find path_cmp p.0 es) ≡ true → put path_cmp p.0 p.1 es ≡ with_values (p ∷ []) es
put_found p [] order h = absurd (true≢false (sym h))
put_found p (e ∷ es) order h = by (path_cmp p.0 e.0) refl h (put_found p es (and_parts (below_all path_cmp e.0 es) (is_sorted path_cmp es) order).1)
  where
    after_rest : (es : Numbers) → path_cmp p.0 e.0 ≡ Less → After e.0 es → After p.0 es
    after_rest [] lt h = tt
    after_rest (x ∷ es) lt h = (path_total.trans p.0 e.0 x.0 lt h.0, after_rest es lt h.1)

    by : (o : Ordering) → path_cmp p.0 e.0 ≡ o → is_some (cond (is_eq o) (Some e.1) (find path_cmp p.0 es)) ≡ true
        → (is_some (find path_cmp p.0 es) ≡ true → put path_cmp p.0 p.1 es ≡ with_values (p ∷ []) es)
        → by_order o (p ∷ e ∷ es) ((e.0, p.1) ∷ es) (e ∷ put path_cmp p.0 p.1 es) ≡ with_values (p ∷ []) (e ∷ es)
    by Less is h rest = absurd (true≢false (sym (sym (ap is_some (not_after p.0 es (after_rest es is (later_after e es order)))) ∙ h)))
    by Equal is h rest =
        let same : path_cmp e.0 p.0 ≡ Equal = ap (λ q. path_cmp q p.0) (sym (exact_paths p.0 e.0 is)) ∙ tied_itself path_total p.0 in
        let after : After p.0 es = subst (λ q. After q es) (sym (exact_paths p.0 e.0 is)) (later_after e es order) in
        λ i. (e.0, unwrap_or (cond (is_eq (sym same i)) (Some p.1) None) e.1) ∷ sym (kept_after p es after) i
    by Greater is h rest =
        λ i. (e.0, unwrap_or (cond (is_eq (sym (below p.0 e.0 is) i)) (Some p.1) None) e.1) ∷ rest h i

found_each : (g : PathOf → ℕ → ℕ) (q : PathOf) (es : Numbers) → is_some (find path_cmp q (each g es)) ≡ is_some (find path_cmp q es)
found_each g q [] = refl
found_each g q (e ∷ es) = by (is_eq (path_cmp q e.0)) (found_each g q es)
  where
    by : (b : Bool) → is_some (find path_cmp q (each g es)) ≡ is_some (find path_cmp q es)
        → is_some (cond b (Some (g e.0 e.1)) (find path_cmp q (each g es))) ≡ is_some (cond b (Some e.1) (find path_cmp q es))
    by true rest = refl
    by false rest = rest

-- the values of paths, and then those of later ones
with_twice : (p : PathOf × ℕ) (ps es : Numbers) → After p.0 ps → with_values ps (with_values (p ∷ []) es) ≡ with_values (p ∷ ps) es
with_twice p ps [] h = refl
with_twice p ps (e ∷ es) h = λ i. (e.0, by (is_eq (path_cmp e.0 p.0)) refl i) ∷ with_twice p ps es h i
  where
    by : (b : Bool) → is_eq (path_cmp e.0 p.0) ≡ b → unwrap_or (find path_cmp e.0 ps) (unwrap_or (cond b (Some p.1) None) e.1) ≡ unwrap_or (cond b (Some p.1) (find path_cmp e.0 ps)) e.1
    by true is =
        let path : e.0 ≡ p.0 = exact_paths e.0 p.0 (is_equal (path_cmp e.0 p.0) is) in
        ap (λ o. unwrap_or o p.1) (ap (λ q. find path_cmp q ps) path ∙ not_after p.0 ps h)
    by false is = refl

pub put_all_there : (ps es : Numbers) → IsInOrder ps → IsInOrder es → AreThere es ps → put_all ps es ≡ with_values ps es
put_all_there [] es h order all = sym (with_none [] es refl)
put_all_there (p ∷ ps) es h order all =
    let g : PathOf → ℕ → ℕ = λ q v. unwrap_or (find path_cmp q (p ∷ [])) v in
    ap (put_all ps) (put_found p es order all.0)
    ∙ put_all_there ps (with_values (p ∷ []) es) (and_parts (below_all path_cmp p.0 ps) (is_sorted path_cmp ps) h).1 (in_order-each g es order)
    (all_weaker (λ q. is_some (find path_cmp q.0 es) ≡ true) (λ q. is_some (find path_cmp q.0 (with_values (p ∷ []) es)) ≡ true) (λ q there. found_each g q.0 es ∙ there) ps all.1)
    ∙ with_twice p ps es (later_after p ps h)

-- ---- numbers that paths have

found_counted : (p : PathOf) (n : ℕ) (es : Numbers) → find path_cmp p es ≡ Some n → 0 < paths_with n es
found_counted p n [] h = cc
found_counted p n (e ∷ es) h = by (is_eq (path_cmp p e.0)) h (λ later. found_counted p n es later)
  where
    by : (b : Bool) → cond b (Some e.1) (find path_cmp p es) ≡ Some n → (find path_cmp p es ≡ Some n → 0 < paths_with n es) → 0 < one_if n e.1 + paths_with n es
    by true h rest =
        let same : e.1 ≡ n = cc in
        let one : one_if n e.1 ≡ 1 = ap (one_if n) same ∙ ap (λ b. cond b 1 0) (eq_self n) in
        omega (arith, one)
    by false h rest = let more = rest h in omega (arith, more)

-- what is put is in the map
pub puts_counted : (f : ℕ → ℕ) (ps es : Numbers) → IsInOrder ps → ((n : ℕ) → f n ≡ paths_with n (put_all ps es)) → AllByRecursion (λ e. 0 < f e.1) ps
puts_counted f ps es order counted =
    all_weaker (λ e. find path_cmp e.0 ps ≡ Some e.1) (λ e. 0 < f e.1)
    (λ e h. subst (λ m. 0 < m) (sym (counted e.1)) (found_counted e.0 e.1 (put_all ps es) (find_put_all e.0 ps es order ∙ ap (λ o. option_or o (find path_cmp e.0 es)) h)))
    ps (among_all ps order)

pub used_same : {N : Type 0} (k k' : KindsOf N) (es : Numbers) → AllByRecursion (λ e. node_at k' e.1 ≡ node_at k e.1) es → AreUsed k es → AreUsed k' es
used_same k k' [] same used = tt
used_same k k' (e ∷ es) same used = ((used.0.0, same.0 ∙ used.0.1), used_same k k' es same.1 used.1)
