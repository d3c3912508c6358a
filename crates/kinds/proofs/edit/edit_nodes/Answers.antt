use Rattle.std.proofs.Common.{◌≡◌, ◌++◌, ◌∷◌, [], ℕ, List, Option, None, get_or, length, sym, ap, subst, ◌∙◌, arith}
use Rattle.std.specs.Prelude.{option_map}
use Rattle.std.proofs.lemmas.List.{length-map, map-append}
use Rattle.kinds.specs.Given.{shared_nodes}
use Rattle.kinds.specs.Memo.{EditsUsed}
use Rattle.kinds.proofs.WholeEdits.{edits_more}
use Rattle.kinds.proofs.edit.edit_nodes.Goals as goal

pub loop-number-preserved : goal.loop-number-preserved
loop-number-preserved g c =
    let edit = g.E.KindEdit.edited c.args.edit.now in
    let k = c.args.map.now.0 in
    let m : ℕ = c.loop-number.number in
    let nodes = c.loop-number.nodes.items in
    let node = option_map (λ r. r.value) c.in_ok-node.node in
    let shared : shared_nodes c.push.new.self.items ≡ shared_nodes nodes ++ node ∷ [] =
    ap shared_nodes c.in_ok-push.ensures.items ∙ map-append (option_map (λ r. r.value)) nodes (c.in_ok-node.node ∷ []) in
    let long : length (shared_nodes nodes) ≡ m = length-map nodes (option_map (λ r. r.value)) ∙ c.loop-number.invariant.long in
    record {
      long = omega (arith, c.loop-number.invariant.long, c.in_ok-push.ensures.len);
      each = λ n lt. subst (λ (l : List (Option g.row.N.Denot)). EditsUsed edit k n (get_or l n None)) (sym shared)
          (edits_more edit k (shared_nodes nodes) node m long c.loop-number.invariant.each c.in_ok-node.ensures n lt);
    }
