use Rattle.std.proofs.Common.{ℕ, List, take, sym, subst, arith}
use Rattle.std.proofs.lemmas.List.{take_more}
use Rattle.kinds.specs.Kinds.{kinds_of}
use Rattle.kinds.specs.Tagged.{ChangesEach, AreNoted}
use Rattle.kinds.proofs.kinds.Kinds.changed_at.Goals as goal

pub loop-number-preserved : goal.loop-number-preserved
loop-number-preserved g c =
    let f = g.C.NodeChange.changed c.args.change.now in
    let i = c.loop-number.number-index in
    record {
      slots = subst (λ (ns : List ℕ). ChangesEach f ns c.args.self.now (kinds_of c.in_ok-slots-2.slots)) (sym (take_more c.args.numbers.now i 0 c.loop-number-test.true))
          (c.in_ok-slots-2.ensures.slots (take i c.args.numbers.now) c.loop-number.invariant.slots);
      noted =
          subst (λ (ns : List ℕ). AreNoted ns c.args.self.now (kinds_of c.in_ok-slots-2.slots) c.slots_changed.new.changed.items) (sym (take_more c.args.numbers.now i 0 c.loop-number-test.true))
          (c.in_ok-slots-2.ensures.noted (take i c.args.numbers.now) c.loop-number.invariant.noted);
      at_most = omega (arith, c.loop-number.invariant.at_most, c.in_ok-slots-2.ensures.at_most);
    }
