-- Files some of which are edited.
use Rattle.std.proofs.Common.{◌≡◌, ◌&&◌, [], ◌∷◌, refl, ap, ◌∙◌, Bool}
use Rattle.std.specs.Ordering.{is_lt}
use Rattle.std.specs.FinMap.{is_sorted}
use Rattle.std.specs.FinMap.Entries.{below_all}
use Rattle.acl_names.specs.Paths.{path_cmp, PathOf}
use Rattle.acl_edit.specs.declared.node.Node.{Node}
use Rattle.acl_tree.specs.Files.{Files}
use Rattle.path_map.specs.Entries.{IsInOrder}
use Rattle.acl_tree.specs.Operands.{edit_files}

below_edited : (x : PathOf) (test : PathOf → Bool) (g : PathOf → Node → Node) (t : Files) → below_all path_cmp x (edit_files test g t) ≡ below_all path_cmp x t
below_edited x test g [] = refl
below_edited x test g (e ∷ t) = ap (λ b. is_lt (path_cmp x e.0) && b) (below_edited x test g t)

sorted-edited : (test : PathOf → Bool) (g : PathOf → Node → Node) (t : Files) → is_sorted path_cmp (edit_files test g t) ≡ is_sorted path_cmp t
sorted-edited test g [] = refl
sorted-edited test g (e ∷ t) = ap (λ b. b && is_sorted path_cmp (edit_files test g t)) (below_edited e.0 test g t) ∙ ap (λ b. below_all path_cmp e.0 t && b) (sorted-edited test g t)

-- an edit keeps the order
pub in_order-edited : (test : PathOf → Bool) (g : PathOf → Node → Node) (t : Files) → IsInOrder t → IsInOrder (edit_files test g t)
in_order-edited test g t h = sorted-edited test g t ∙ h
