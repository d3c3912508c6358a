use Rattle.std.proofs.Common.{ℕ, List, take, sym, subst}
use Rattle.std.proofs.lemmas.List.{take_more}
use Rattle.kinds.specs.Tagged.{AreSettled}
use Rattle.kinds.proofs.tagged.changed_pairs.Goals as goal

pub loop-number-preserved : goal.loop-number-preserved
loop-number-preserved g c =
    let i = c.loop-number.number-index in
    subst (λ (ns : List ℕ). AreSettled g.N.Tagged.tags_of c.args.before.now.0 c.args.after.now.0 ns c.push_changed.new.gone.items c.push_changed.new.new.items)
    (sym (take_more c.args.numbers.now i 0 c.loop-number-test.true))
    (c.in_ok-push_changed.ensures (take i c.args.numbers.now) c.loop-number.invariant)
