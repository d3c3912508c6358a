use Rattle.std.proofs.Common.{take, get_or, sym, subst}
use Rattle.std.proofs.lemmas.List.{take_more}
use Rattle.kinds.specs.Memo.{ReleasesMet}
use Rattle.kinds.proofs.Edited.{releases_more}
use Rattle.kinds.proofs.memo.release_met.Goals as goal

pub loop-one-preserved : goal.loop-one-preserved
loop-one-preserved g c =
    let i = c.loop-one.one-index in
    let met = c.args.met.now in
    subst (λ ms. ReleasesMet c.args.kinds ms c.in_ok-kinds.kinds) (sym (take_more met i (record { old = 0; new = 0; count = 0 }) c.loop-one-test.true))
    (releases_more c.args.kinds c.loop-one.kinds c.in_ok-kinds.kinds (take i met) (get_or met i (record { old = 0; new = 0; count = 0 })) c.loop-one.invariant c.in_ok-kinds.ensures)
