-- Nodes that are the same.
use Rattle.std.proofs.Common.{◌≡◌, Bool, true, false, List, [], ◌∷◌, refl}
use Rattle.std.proofs.Math.Bool.{beq}
use Rattle.std.specs.Cmp.Lexicographic.{pointwise}
use Rattle.std.proofs.lemmas.Bool.{and_parts}
use Rattle.acl_edit.specs.declared.node.Node.{Node}

pub same_node : (a b : Node) → a.kind ≡ b.kind → a.label ≡ b.label → a.flags ≡ b.flags → a.dacl ≡ b.dacl → a ≡ b
same_node a b kind label flags dacl = λ i. record { kind = kind i; label = label i; flags = flags i; dacl = dacl i }

same_flag : (x y : Bool) → beq x y ≡ true → x ≡ y
same_flag true true h = refl
same_flag true false h = cc
same_flag false true h = cc
same_flag false false h = refl

pub same_flags : (xs ys : List Bool) → pointwise beq xs ys ≡ true → xs ≡ ys
same_flags [] [] h = refl
same_flags [] (y ∷ ys) h = cc
same_flags (x ∷ xs) [] h = cc
same_flags (x ∷ xs) (y ∷ ys) h =
    let parts = and_parts (beq x y) (pointwise beq xs ys) h in
    λ i. same_flag x y parts.0 i ∷ same_flags xs ys parts.1 i
