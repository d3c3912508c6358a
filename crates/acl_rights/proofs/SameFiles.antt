-- Files that are all recorded still, and as many as before, are the same files.
use Rattle.std.proofs.Common.{◌≡◌, ℕ, cond, not, is_some, [], ◌∷◌, length, map, Option, Some, None, refl, sym, ap, ◌∙◌}
use Rattle.std.specs.Prelude.{option_map}
use Rattle.std.specs.FinMap.{find}
use Rattle.std.proofs.lemmas.List.{length-map}
use Rattle.acl_names.specs.Paths.{path_cmp, PathOf}
use Rattle.acl_edit.specs.declared.node.Node.{Node}
use Rattle.path_map.specs.Entries.{IsInOrder}
use Rattle.kinds.specs.Numbered.{Numbers}
use Rattle.kinds.specs.Inner.{AreAmong}
use Rattle.kinds.proofs.WholeEdits.{all_of_them}
use Rattle.acl_tree.specs.Files.{Files}
use Rattle.acl_tree.specs.Changed.{gone_between}
use Rattle.path_classes.proofs.Maps.{find-values, map_twice}
use Rattle.acl_rights.proofs.Orders.{in_order-values}

-- all paths with one number
abbrev with_zero : PathOf × Node → PathOf × ℕ
with_zero e = (e.0, 0)

abbrev numbered : Files → Numbers
numbered es = map with_zero es

still : (gs es : Files) → gone_between es gs ≡ [] → AreAmong (numbered gs) (numbered es)
still gs [] h = tt
still gs (e ∷ es) h = by (find path_cmp e.0 gs) refl (λ none. still gs es none) h
  where
    by : (o : Option Node) → find path_cmp e.0 gs ≡ o → (gone_between es gs ≡ [] → AreAmong (numbered gs) (numbered es))
        → cond (not (is_some o)) (e ∷ gone_between es gs) (gone_between es gs) ≡ [] → AreAmong (numbered gs) (numbered (e ∷ es))
    by None is rest h = cc
    by (Some x) is rest h = (find-values (λ (n : Node). 0) e.0 gs ∙ ap (option_map (λ (n : Node). 0)) is, rest h)

pub same_paths : (fs gs : Files) → IsInOrder fs → IsInOrder gs → gone_between fs gs ≡ [] → length fs ≡ length gs → map (λ e. e.0) fs ≡ map (λ e. e.0) gs
same_paths fs gs order after none long =
    let same : numbered fs ≡ numbered gs =
    all_of_them (numbered gs) (numbered fs) (in_order-values (λ (e : PathOf × Node). 0) gs after) (in_order-values (λ (e : PathOf × Node). 0) fs order) (still gs fs none)
    (length-map fs with_zero ∙ long ∙ sym (length-map gs with_zero)) in
    sym (map_twice with_zero (λ (e : PathOf × ℕ). e.0) fs) ∙ ap (map (λ (e : PathOf × ℕ). e.0)) same ∙ map_twice with_zero (λ (e : PathOf × ℕ). e.0) gs
