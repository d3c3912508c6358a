-- Files without those that a test passes, by their numbers.
use Rattle.std.proofs.Common.{◌≡◌, Bool, true, false, not, cond, is_some, Some, [], ◌∷◌, filter, refl, sym, ap, ◌∙◌}
use Rattle.std.specs.Ordering.{is_eq}
use Rattle.std.specs.FinMap.{find}
use Rattle.acl_names.specs.Paths.{path_cmp, PathOf}
use Rattle.acl_names.proofs.Basics.{and_is_first}
use Rattle.path_map.specs.Merged.{has, without_all}
use Rattle.path_map.proofs.Differences.{Leads, leads_all, has_where}
use Rattle.acl_edit.specs.declared.node.Node.{Node}
use Rattle.kinds.specs.Kinds.{KindsOf}
use Rattle.kinds.specs.Numbered.{Numbers, entries_by, AreUsed}
use Rattle.kinds.proofs.EntriesBy.{entry_first}
use Rattle.acl_tree.specs.Files.{Files}
use Rattle.path_map.specs.Entries.{IsInOrder}

has_by : (k : KindsOf Node) (p : PathOf) (ns : Numbers) → AreUsed k ns → has p (entries_by k ns) ≡ has p ns
has_by k p [] used = refl
has_by k p (e ∷ ns) used = ap (has p) (entry_first k e ns used.0.0 used.0.1) ∙ by (is_eq (path_cmp p e.0)) (has_by k p ns used.1)
  where
    by : (b : Bool) → has p (entries_by k ns) ≡ has p ns → is_some (cond b (Some used.0.0) (find path_cmp p (entries_by k ns))) ≡ is_some (cond b (Some e.1) (find path_cmp p ns))
    by true rest = refl
    by false rest = rest

-- without the numbers of those that pass a test, those are left that do not
pub left_by : (k : KindsOf Node) (test : PathOf → Bool) (ns : Numbers) → AreUsed k ns → IsInOrder (entries_by k ns)
    → without_all (filter (λ e. test e.0) ns) (entries_by k ns) ≡ filter (λ e. not (test e.0)) (entries_by k ns)
left_by k test ns used order = each (entries_by k ns) (leads_all (entries_by k ns) order)
  where
    each : (es : Files) → Leads (entries_by k ns) es → without_all (filter (λ e. test e.0) ns) es ≡ filter (λ e. not (test e.0)) es
    each [] h = refl
    each (e ∷ es) h =
        λ i. cond (not ((has_where test e.0 ns ∙ and_is_first (test e.0) (has e.0 ns) (sym (has_by k e.0 ns used) ∙ ap is_some h.0)) i)) (e ∷ each es h.1 i) (each es h.1 i)
