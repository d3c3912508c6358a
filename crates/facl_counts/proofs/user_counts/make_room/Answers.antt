use Rattle.std.proofs.Common.{◌≡◌, ◌^◌, subst, sym, ap, ap₂, ◌∙◌, arith, length, replicate}
use Rattle.std.proofs.lemmas.List.{take_all}
use Rattle.facl_counts.specs.SumLists.{totals, AreWithin}
use Rattle.facl_counts.proofs.SumsApart.{no_counts}
use Rattle.facl_counts.proofs.TwoParts.{next_fits, settled, totals_end}
use Rattle.facl_counts.proofs.user_counts.make_room.Goals as goal

pub overflow_add-wide : goal.overflow_add-wide
overflow_add-wide c =
    omega (
      arith,
      next_fits (2 ^ 64) c.loop-at.wide c.args.wide.now c.args.narrow.now c.loop-at.at
          (omega (arith, c.requires.long, c.loop-at-test.true)) (omega (arith, c.loop-at-test.true)) c.loop-at.invariant.rest c.requires.small,
    )

pub returns : goal.returns
returns c =
    let added : c.loop-at.wide ≡ totals c.args.wide.now c.args.narrow.now =
    totals_end c.loop-at.at c.loop-at.wide c.args.wide.now c.args.narrow.now (omega (arith, c.requires.long, c.loop-at-test.false))
    c.loop-at.invariant.rest c.loop-at.invariant.done
    in
    let places : c.loop-place.place ≡ length c.args.narrow.now = omega (arith, c.loop-place.invariant.long, c.loop-place-test.false, c.loop-place.auto.place-end) in
    let cleared : c.loop-place.narrow ≡ replicate (length c.args.narrow.now) 0 =
    sym (take_all c.loop-place.place c.loop-place.narrow (omega (arith, places, c.loop-place.invariant.long))) ∙ c.loop-place.invariant.done ∙ ap (λ n. replicate n 0) places
    in
    record {
      same = ap₂ totals added cleared ∙ settled c.args.wide.now c.args.narrow.now;
      few = subst (AreWithin 0) (sym cleared) (no_counts (length c.args.narrow.now));
      room = omega arith;
    }
