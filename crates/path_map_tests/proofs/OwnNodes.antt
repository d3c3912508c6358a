-- Nodes of a map that become themselves, and what counts where nothing does.
use Rattle.std.proofs.Common.{◌≡◌, ℕ, suc, ◌+◌, List, [], ◌∷◌, ◌++◌, Option, Some, None, refl, sym, ap, subst, ◌∙◌, arith, length}
use Rattle.std.specs.Prelude.{option_map}
use Rattle.std.specs.declared.rc.Rc.{Rc}
use Rattle.std.specs.List.{sum_by}
use Rattle.std.proofs.lemmas.List.{map-append, length-map}
use Rattle.std.proofs.lemmas.List.Sums.{sum_by-cons}
use Rattle.kinds.specs.Kinds.{KindsOf}
use Rattle.kinds.specs.Numbered.{Numbers, AreSound}
use Rattle.kinds.specs.Renewed.{renewed_before}
use Rattle.kinds.specs.Given.{used_at, shared_nodes, HaveNodes}
use Rattle.kinds.proofs.Renewals.{length-renewed}
use Rattle.kinds.proofs.GivenNodes.{used_renewed, renewed_have}

itself : {N : Type 0} (o : Option N) → option_map (λ x. x) o ≡ o
itself None = refl
itself (Some x) = refl

-- one number more
pub nodes_more : {N Z : Type 0} (k : KindsOf N) (n : ℕ) (nodes new : List (Option (Rc N Z))) (node : Option (Rc N Z)) → new ≡ nodes ++ node ∷ []
    → shared_nodes nodes ≡ renewed_before (λ x. x) k n → option_map (λ r. r.value) node ≡ used_at k n → shared_nodes new ≡ renewed_before (λ x. x) k (n + 1)
nodes_more k n nodes new node made so_far is =
    let next : suc n ≡ n + 1 = omega arith in
    ap shared_nodes made
    ∙ map-append (option_map (λ r. r.value)) nodes (node ∷ [])
    ∙ (λ i. so_far i ++ (is ∙ sym (itself (used_at k n)) ∙ sym (used_renewed (λ x. x) k n)) i ∷ [])
    ∙ ap (renewed_before (λ x. x) k) next

pub weighs_nothing : {A : Type 0} (es : List A) → sum_by (λ (e : A). 0) es ≡ 0
weighs_nothing [] = refl
weighs_nothing {A} (e ∷ es) = sum_by-cons (λ (x : A). 0) e es ∙ (let rest = weighs_nothing es in omega (arith, rest))

module _ {N Z : Type 0} (k : KindsOf N) (ns : Numbers) (nodes : List (Option (Rc N Z))) (sound : AreSound k ns) (are : shared_nodes nodes ≡ renewed_before (λ x. x) k (length k.0)) where
  pub nodes_long : length nodes ≡ length k.0
  nodes_long = sym (length-map nodes (option_map (λ r. r.value))) ∙ ap length are ∙ length-renewed (λ x. x) k (length k.0)

  pub nodes_have : HaveNodes (shared_nodes nodes) ns
  nodes_have = subst (λ (l : List (Option N)). HaveNodes l ns) (sym are) (renewed_have (λ x. x) k ns sound)
