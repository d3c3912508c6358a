use Rattle.std.proofs.Common.{◌≡◌, ◌+◌, suc, None, length, sym, ap, subst, ◌∙◌, arith}
use Rattle.std.specs.Prelude.{option_map}
use Rattle.std.proofs.lemmas.List.{length-map, get_or-map, get_or_past}
use Rattle.kinds.specs.Kinds.{KindsOf, kinds_of, node_at, count_at, HasRoom}
use Rattle.kinds.specs.Renewed.{renewed_if, renewed_before, counts_before, Renews}
use Rattle.kinds.specs.Given.{shared_nodes}
use Rattle.kinds.proofs.Numbers.{room}
use Rattle.kinds.proofs.Renewals.{renews, renewed_more}
use Rattle.kinds.proofs.kinds.Kinds.with_nodes.Goals as goal

pub loop-number-preserved : goal.loop-number-preserved
loop-number-preserved g c =
    let k : KindsOf g.row.M.Denot = (shared_nodes c.args.nodes.now, c.args.self.now.1) in
    let n = c.loop-number.number in
    let next : suc n ≡ n + 1 = omega arith in
    let node : option_map (λ r. r.value) c.in_ok-shared.field-0 ≡ node_at k n =
    c.in_ok-shared.ensures
    ∙ ap (option_map (λ r. r.value)) c.index-nodes-number.is
    ∙ sym (get_or-map (option_map (λ r. r.value)) c.args.nodes.now n c.index-nodes-number.result None c.loop-number-test.true) in
    ap kinds_of c.in_ok-slots.ensures
    ∙ renewed_more (λ x. x) k n c.loop-number.slots c.slot_with-slot.result c.loop-number.invariant (c.slot_with-slot.ensures ∙ ap (λ o. (renewed_if (λ x. x) o (count_at k n), count_at k n)) node)
    ∙ ap (λ m. (renewed_before (λ x. x) k m, counts_before k m)) next

pub returns : goal.returns
returns g c =
    let k : KindsOf g.row.M.Denot = (shared_nodes c.args.nodes.now, c.args.self.now.1) in
    let long : length k.0 ≡ length c.args.nodes.now = length-map c.args.nodes.now (option_map (λ r. r.value)) in
    let end : c.loop-number.number ≡ length k.0 = omega (arith, c.loop-number-test.false, c.loop-number.auto.number-end, long) in
    let made : kinds_of c.loop-number.slots ≡ (renewed_before (λ x. x) k (length k.0), counts_before k (length k.0)) = c.loop-number.invariant
    ∙ ap (λ m. (renewed_before (λ x. x) k m, counts_before k m)) end in
    let has_room : HasRoom k = subst (λ (k : KindsOf g.row.N.Denot). HasRoom k) c.self.view_is (room c.self.inside.slots) ∙ sym c.requires ∙ sym long in
    subst (λ (new : KindsOf g.row.M.Denot). Renews (λ x. x) k new) (sym made) (renews (λ x. x) k (length k.0) (λ n le. get_or_past k.1 n 0 (omega (arith, has_room, le))))
