-- A record of a sound file gives it back.
use Rattle.std.proofs.Common.{◌≡◌, Bool, Option, Some, None, Ok, refl, sym, ap, subst, ◌∙◌}
use Rattle.acl_entry.specs.Lists.{KeyMap}
use Rattle.acl_edit.specs.Nodes.{IsSound}
use Rattle.acl_edit.specs.Edits.{allowed, restore}
use Rattle.acl_edit.specs.declared.node.Kind.{Kind}
use Rattle.acl_edit.specs.declared.node.Kind.TheVariants.{Plain, Directory}
use Rattle.acl_edit.specs.declared.node.Node.{Node}
use Rattle.acl_text.specs.Results.{◌>>=◌}

pub own_list : (k : Kind) (o : Option KeyMap) (in_recursion : Bool) → (k ≡ Plain → o ≡ None) → allowed k in_recursion o ≡ Ok o
own_list Plain o in_recursion h = subst (λ z. allowed Plain in_recursion z ≡ Ok z) (sym (h refl)) refl
own_list Directory o in_recursion h = refl

pub gives_back : (m n : Node) (in_recursion : Bool) → IsSound m → n.kind ≡ m.kind
    → restore n m.label.acl m.dacl (Some m.label.owner) (Some m.label.group) (Some m.flags) in_recursion ≡ Ok m
unfolding restore
gives_back m n in_recursion sound same =
    ap (λ r. r >>= λ d. Ok (record { kind = n.kind; label = m.label; flags = m.flags; dacl = d })) (own_list n.kind m.dacl in_recursion (λ plain. sound (sym same ∙ plain)))
    ∙ ap (λ k. Ok (record m { kind = k })) same
