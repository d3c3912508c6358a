-- Files in path order: what lies below a path follows it at once.
use Rattle.std.proofs.Common.{◌≡◌, Bool, true, false, IsTrue, ◌||◌, [], ◌∷◌, ◌++◌, Less, Greater, refl, sym, ap, ◌∙◌}
use Rattle.std.specs.Ordering.{is_lt}
use Rattle.std.specs.FinMap.{is_sorted}
use Rattle.std.specs.FinMap.Entries.{below_all}
use Rattle.std.proofs.lemmas.Bool.{and_parts}
use Rattle.std.proofs.lemmas.List.Folds.{list_any-append}
use Rattle.acl_names.specs.Paths.{path_cmp, PathOf}
use Rattle.acl_names.proofs.Below.{below_less, convex_below, not_below_itself}
use Rattle.acl_edit.specs.declared.node.Node.{Node}
use Rattle.acl_tree.specs.Files.{Files}
use Rattle.path_map.specs.Entries.{IsInOrder}
use Rattle.path_map.specs.Below.{holds_below}
use Rattle.acl_names.specs.Below.{is_above}
use Rattle.acl_names.proofs.Basics.{false_from, not_both, is_less}
use Rattle.acl_tree.specs.Inner.{next_file_below}
use Rattle.path_map.proofs.Places.{above}

none_below : (p : PathOf) (s : PathOf × Node) (es : Files) → is_above p s.0 ≡ false → path_cmp p s.0 ≡ Less → IsTrue (below_all path_cmp s.0 es) → holds_below es p ≡ false
none_below p s [] apart ps order = refl
none_below p s (e ∷ es) apart ps order =
    let parts = and_parts (is_lt (path_cmp s.0 e.0)) (below_all path_cmp s.0 es) order in
    ap (λ b. b || holds_below es p) (false_from (is_above p e.0) (λ below. not_both (is_above p s.0) (convex_below p s.0 e.0 ps (is_less (path_cmp s.0 e.0) parts.0) below) apart))
    ∙ none_below p s es apart ps parts.1

-- of the files after a path, those below it come first
below_next : (p : PathOf) (es : Files) → IsTrue (below_all path_cmp p es) → IsInOrder es → holds_below es p ≡ next_file_below p es
below_next p [] after order = refl
below_next p (s ∷ es) after order = by (is_above p s.0) refl
  where
    by : (b : Bool) → is_above p s.0 ≡ b → (is_above p s.0 || holds_below es p) ≡ is_above p s.0
    by true e = ap (λ b. b || holds_below es p) e ∙ sym e
    by false e =
        let first = and_parts (is_lt (path_cmp p s.0)) (below_all path_cmp p es) after in
        let rest = and_parts (below_all path_cmp s.0 es) (is_sorted path_cmp es) order in
        ap (λ b. b || holds_below es p) e ∙ none_below p s es e (is_less (path_cmp p s.0) first.0) rest.0 ∙ sym e

pub before_it : (q : PathOf) (pre : Files) (e : PathOf × Node) (es : Files) → IsTrue (below_all path_cmp q (pre ++ e ∷ es)) → path_cmp q e.0 ≡ Less
before_it q [] e es order = is_less (path_cmp q e.0) (and_parts (is_lt (path_cmp q e.0)) (below_all path_cmp q es) order).0
before_it q (s ∷ pre) e es order = before_it q pre e es (and_parts (is_lt (path_cmp q s.0)) (below_all path_cmp q (pre ++ e ∷ es)) order).1

not_before_below : (pre : Files) (e : PathOf × Node) (es : Files) → IsInOrder (pre ++ e ∷ es) → holds_below pre e.0 ≡ false
not_before_below [] e es order = refl
not_before_below (q ∷ pre) e es order =
    let parts = and_parts (below_all path_cmp q.0 (pre ++ e ∷ es)) (is_sorted path_cmp (pre ++ e ∷ es)) order in
    ap (λ b. b || holds_below pre e.0) (false_from (is_above e.0 q.0) (λ below. greater_is_not_less (sym (above q.0 e.0 (before_it q.0 pre e es parts.0)) ∙ below_less e.0 q.0 below)))
    ∙ not_before_below pre e es parts.1
  where
    greater_is_not_less : Greater ≡ Less → ⊥
    greater_is_not_less e = cc

order-right : (pre es : Files) → IsInOrder (pre ++ es) → IsInOrder es
order-right [] es order = order
order-right (q ∷ pre) es order = order-right pre es (and_parts (below_all path_cmp q.0 (pre ++ es)) (is_sorted path_cmp (pre ++ es)) order).1

-- another file lies below a file exactly if the next one in path order does
pub known_by_next : (pre : Files) (e : PathOf × Node) (es : Files) → IsInOrder (pre ++ e ∷ es) → next_file_below e.0 es ≡ holds_below (pre ++ e ∷ es) e.0
known_by_next pre e es order =
    let here = order-right pre (e ∷ es) order in
    let parts = and_parts (below_all path_cmp e.0 es) (is_sorted path_cmp es) here in
    sym (list_any-append (λ (s : PathOf × Node). is_above e.0 s.0) pre (e ∷ es)
    ∙ ap (λ b. b || (is_above e.0 e.0 || holds_below es e.0)) (not_before_below pre e es order)
    ∙ ap (λ b. b || holds_below es e.0) (not_below_itself e.0)
    ∙ below_next e.0 es parts.0 parts.1)
