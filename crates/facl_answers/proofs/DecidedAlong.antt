-- The entries that decide on a user, on a file and on each directory above it, are the check along the path.
use Rattle.std.proofs.Common.{◌≡◌, ℕ, Bool, true, false, true≢false, cond, not, ◌||◌, ◌&&◌, [], ◌∷◌, filter, Ordering, Less, Equal, Greater, Some, None, refl, sym, ap, ◌∙◌}
use Rattle.std.specs.List.{list_all, AllByRecursion}
use Rattle.std.specs.Option.{option_map_or}
use Rattle.std.specs.Ordering.{is_eq, is_lt, eq_by_cmp, ordering_reverse}
use Rattle.std.specs.FinMap.{find, is_sorted}
use Rattle.std.specs.FinMap.Entries.{below_all}
use Rattle.std.proofs.lemmas.Bool.{and_parts}
use Rattle.std.proofs.lemmas.List.Folds.{list_all-map}
use Rattle.acl_entry.specs.Check.{check, has}
use Rattle.acl_entry.specs.Linux.{linux_check}
use Rattle.acl_entry.specs.Lists.{IsValid}
use Rattle.acl_entry.specs.Perms.{Perms}
use Rattle.acl_entry.specs.Person.{Person}
use Rattle.acl_entry.specs.declared.label.Label.{Label}
use Rattle.acl_names.specs.Paths.{path_cmp, PathOf}
use Rattle.acl_edit.specs.declared.node.Node.{Node}
use Rattle.acl_names.specs.Below.{is_above, encloses}
use Rattle.acl_tree.specs.Files.{Files}
use Rattle.path_map.specs.Entries.{IsInOrder}
use Rattle.acl_tree.specs.Found.{found_file}
use Rattle.path_map.specs.Below.{holds_below}
use Rattle.path_classes.specs.ReachedRows.{execute}
use Rattle.acl_rights.specs.Deciders.{Judging, linux, posix}
use Rattle.acl_rights.specs.Reach.{passes}
use Rattle.acl_entry.proofs.Bytes.{has-byte_of}
use Rattle.acl_names.proofs.Below.{not_below_itself}
use Rattle.acl_names.proofs.PathOrder.{path_total}
use Rattle.acl_names.proofs.Basics.{is_less, or_false, and_assoc}
use Rattle.facl_answers.proofs.AskedFiles.{one_path, within_is}
use Rattle.facl_answers.proofs.Deciding.{decided, decided_by_linux}
use Rattle.facl_answers.specs.Inner.{HasValidList}
use Rattle.facl_answers.specs.WhyText.{some_decides, is_asked, asked_of, IsDecidedAlong}

and_comm : (a b : Bool) → (a && (b && true)) ≡ (b && a)
and_comm true true = refl
and_comm true false = refl
and_comm false true = refl
and_comm false false = refl

nothing_has : (a b c : Bool) → has 0 (record { read = a; write = b; execute = c }) ≡ false
nothing_has true true true = refl
nothing_has true true false = refl
nothing_has true false true = refl
nothing_has true false false = refl
nothing_has false true true = refl
nothing_has false true false = refl
nothing_has false false true = refl
nothing_has false false false = refl

reversed : (o : Ordering) → is_eq (ordering_reverse o) ≡ is_eq o
reversed Less = refl
reversed Equal = refl
reversed Greater = refl

same_back : (p q : PathOf) → eq_by_cmp path_cmp q p ≡ eq_by_cmp path_cmp p q
same_back p q = ap is_eq (path_total.antisymm q p) ∙ reversed (path_cmp p q)

-- a path before all files is none of theirs
nothing_at : (p : PathOf) (es : Files) → below_all path_cmp p es ≡ true → find path_cmp p es ≡ None
nothing_at p [] h = refl
nothing_at p (e ∷ es) h =
    let parts = and_parts (is_lt (path_cmp p e.0)) (below_all path_cmp p es) h in
    ap (λ o. cond (is_eq o) (Some e.1) (find path_cmp p es)) (is_less (path_cmp p e.0) parts.0) ∙ nothing_at p es parts.1

-- a judge grants what the entries that decide contain
abbrev IsByEntries : Judging → Type 0
IsByEntries judge = (u : Person) (f : Label) (q : Perms) → IsValid f.acl → has (judge.verdict u f) q ≡ some_decides judge.decider u f q

module _ (judge : Judging) (law : IsByEntries judge) (u : Person) (q : Perms) (p : PathOf) where
  -- the entries of a file decide what has to be contained in them
  abbrev of_file : PathOf × Node → Bool
  of_file e = some_decides judge.decider u e.1.label (cond (eq_by_cmp path_cmp p e.0) q execute)

  -- search is granted where the path is below
  abbrev lets_pass : PathOf × Node → Bool
  lets_pass e = not (is_above e.0 p) || has (judge.verdict u e.1.label) execute

  abbrev at_path : Files → Bool
  at_path es = option_map_or (λ n. has (judge.verdict u n.label) q) (find path_cmp p es) true

  abbrev asked : Files → Files
  asked es = filter (λ e. is_asked true (p ∷ []) e.0) es

  along : (es : Files) → IsInOrder es → AllByRecursion HasValidList es → list_all of_file (asked es) ≡ (list_all lets_pass es && at_path es)
  along [] order valid = refl
  along (e ∷ es) order valid =
      ap (λ b. list_all of_file (cond b (e ∷ asked es) (asked es))) (or_false (encloses e.0 p) ∙ within_is e.0 p ∙ ap (λ b. is_above e.0 p || b) (same_back p e.0))
      ∙ by (is_above e.0 p) (eq_by_cmp path_cmp p e.0) refl refl (along es parts.1 valid.1)
    where
      parts : (below_all path_cmp e.0 es ≡ true) × (is_sorted path_cmp es ≡ true)
      parts = and_parts (below_all path_cmp e.0 es) (is_sorted path_cmp es) order

      granted_as : (here : Bool) → eq_by_cmp path_cmp p e.0 ≡ here → of_file e ≡ has (judge.verdict u e.1.label) (cond here q execute)
      granted_as here is = ap (λ b. some_decides judge.decider u e.1.label (cond b q execute)) is ∙ sym (law u e.1.label (cond here q execute) valid.0)

      not_later : p ≡ e.0 → at_path es ≡ true
      not_later at = ap (λ o. option_map_or (λ (n : Node). has (judge.verdict u n.label) q) o true) (nothing_at p es (ap (λ x. below_all path_cmp x es) at ∙ parts.0))

      by : (below here : Bool) → is_above e.0 p ≡ below → eq_by_cmp path_cmp p e.0 ≡ here
          → list_all of_file (asked es) ≡ (list_all lets_pass es && at_path es)
          → list_all of_file (cond (below || here) (e ∷ asked es) (asked es))
          ≡ (((not below || has (judge.verdict u e.1.label) execute) && list_all lets_pass es)
          && option_map_or (λ (n : Node). has (judge.verdict u n.label) q) (cond here (Some e.1) (find path_cmp p es)) true)
      by true true under is rest = absurd (true≢false (sym under ∙ ap (λ x. is_above x p) (sym (one_path p e.0 is)) ∙ not_below_itself p))
      by true false under is rest = (λ i. granted_as false is i && rest i) ∙ and_assoc (has (judge.verdict u e.1.label) execute) (list_all lets_pass es) (at_path es)
      by false true under is rest =
          (λ i. granted_as true is i && rest i)
          ∙ ap (λ b. has (judge.verdict u e.1.label) q && (list_all lets_pass es && b)) (not_later (one_path p e.0 is))
          ∙ and_comm (has (judge.verdict u e.1.label) q) (list_all lets_pass es)
      by false false under is rest = rest

  reached : (b : Bool) (v : ℕ) → has (cond b v 0) q ≡ (b && has v q)
  reached true v = refl
  reached false v = nothing_has q.read q.write q.execute

  -- what is granted along the path
  decided_along : (t : Files) → IsInOrder t → AllByRecursion HasValidList t → (n : Node) → find path_cmp p t ≡ Some n → IsDecidedAlong judge u t q (p, n)
  decided_along t order valid n found =
      reached (passes judge.verdict t u p) (judge.verdict u n.label)
      ∙ ap (λ o. list_all lets_pass t && option_map_or (λ (m : Node). has (judge.verdict u m.label) q) o true) (sym found)
      ∙ sym (along t order valid)
      ∙ sym (list_all-map (λ file. some_decides judge.decider u file.node.label (asked_of p q file)) (λ (e : PathOf × Node). found_file (holds_below t e.0) e) (asked t))

by_check : IsByEntries posix
by_check u f q valid = has-byte_of (check u f) q ∙ decided u f q valid

by_linux : IsByEntries linux
by_linux u f q valid = has-byte_of (linux_check u f) q ∙ decided_by_linux u f q valid

module _ (u : Person) (t : Files) (order : IsInOrder t) (valid : AllByRecursion HasValidList t) where
  -- what acl(5)'s check grants along a path
  pub decided_by_check : (q : Perms) (p : PathOf) (n : Node) → find path_cmp p t ≡ Some n → IsDecidedAlong posix u t q (p, n)
  decided_by_check q p n found = decided_along posix by_check u q p t order valid n found

  -- what Linux grants
  pub decided_under_linux : (q : Perms) (p : PathOf) (n : Node) → find path_cmp p t ≡ Some n → IsDecidedAlong linux u t q (p, n)
  decided_under_linux q p n found = decided_along linux by_linux u q p t order valid n found
