use Rattle.std.proofs.Common.{◌≡◌, ◌+◌, ◌++◌, List, ℕ, suc, arith, map, take, drop, set, get_or, ap, ◌∙◌}
use Rattle.acl_names.specs.Packed.{with_slash}
use Rattle.acl_names.proofs.Slashes.{one_written}
use Rattle.acl_names.proofs.packed_text.put_slashes.Goals as goal

pub loop-b-preserved : goal.loop-b-preserved
loop-b-preserved c =
    let i = c.loop-b.b-index in
    let next : suc i ≡ i + 1 = omega arith in
    ap (λ (b : ℕ). set c.loop-b.bytes i b) c.with_slash.ensures
    ∙ ap (λ (l : List ℕ). set l i (with_slash (get_or l i 0))) c.loop-b.invariant
    ∙ one_written with_slash c.args.bytes.now i 0 (omega (arith, c.loop-b-test.true))
    ∙ ap (λ (n : ℕ). map with_slash (take n c.args.bytes.now) ++ drop n c.args.bytes.now) next
