use Rattle.std.proofs.Common.{◌≡◌, ℕ, List, Option, None, take, get_or, sym, subst}
use Rattle.std.proofs.lemmas.List.{take_more, take_all}
use Rattle.kinds.specs.Inner.{ReleasesBut}
use Rattle.kinds.proofs.Puts.{releases_more, releases_all}
use Rattle.kinds.proofs.release.release_runs.Goals as goal

pub loop-one-preserved : goal.loop-one-preserved
loop-one-preserved g c =
    let i = c.loop-one.one-index in
    let found = c.args.found.now in
    subst (λ (os : List (Option ℕ)). ReleasesBut c.args.kinds os c.in_ok-released.released c.in_ok-released.number c.in_ok-released.count) (sym (take_more found i None c.loop-one-test.true))
    (releases_more c.args.kinds c.loop-one.kinds c.in_ok-released.released (take i found)
    (get_or found i None) c.loop-one.last c.loop-one.pending c.in_ok-released.number c.in_ok-released.count c.loop-one.invariant c.in_ok-released.ensures)

pub returns : goal.returns
returns g c =
    let all : take c.loop-one.one-index c.args.found.now ≡ c.args.found.now = take_all c.loop-one.one-index c.args.found.now c.loop-one-test.false in
    releases_all c.args.kinds c.loop-one.kinds c.in_ok-kinds.kinds c.args.found.now c.loop-one.last c.loop-one.pending
    (subst (λ (os : List (Option ℕ)). ReleasesBut c.args.kinds os c.loop-one.kinds c.loop-one.last c.loop-one.pending) all c.loop-one.invariant) c.in_ok-kinds.ensures
