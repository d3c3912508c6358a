-- The lists of a file, put into this file, leave it as it is.
use Rattle.std.proofs.Common.{◌≡◌, Bool, Option, Some, None, Ok, refl, sym, ap, ◌∙◌}
use Rattle.acl_edit.specs.Edits.{edit, put}
use Rattle.acl_edit.specs.Nodes.{IsSound, with_lists}
use Rattle.acl_edit.specs.declared.edit.Edit.TheVariants.{Put}
use Rattle.acl_edit.specs.declared.node.Node.{Node}
use Rattle.acl_edit.proofs.Restored.{own_list}
use Rattle.acl_entry.specs.Lists.{KeyMap, or_else}
use Rattle.acl_text.specs.Results.{◌>>=◌}

either : (o : Option KeyMap) → or_else o o ≡ o
either None = refl
either (Some d) = refl

-- an access list alone
pub access_put : (n : Node) (in_recursion : Bool) → edit n (Put (Some n.label.acl) None) in_recursion ≡ Ok n
unfolding put
access_put n in_recursion = ap (λ r. r >>= λ d. Ok (with_lists n n.label.acl (or_else d n.dacl))) (own_list n.kind None in_recursion (λ plain. refl))

-- a default list alone
pub default_put : (n : Node) → IsSound n → (dacl : KeyMap) → n.dacl ≡ Some dacl → (in_recursion : Bool) → edit n (Put None (Some dacl)) in_recursion ≡ Ok n
unfolding put
default_put n sound dacl is in_recursion =
    ap (λ r. r >>= λ d. Ok (with_lists n n.label.acl (or_else d n.dacl))) (own_list n.kind (Some dacl) in_recursion (λ plain. sym is ∙ sound plain))
    ∙ ap (λ d. Ok (with_lists n n.label.acl d)) (sym is)

-- both lists
pub both_put : (n : Node) → IsSound n → (in_recursion : Bool) → edit n (Put (Some n.label.acl) n.dacl) in_recursion ≡ Ok n
unfolding put
both_put n sound in_recursion =
    ap (λ r. r >>= λ d. Ok (with_lists n n.label.acl (or_else d n.dacl))) (own_list n.kind n.dacl in_recursion sound)
    ∙ ap (λ d. Ok (with_lists n n.label.acl d)) (either n.dacl)
