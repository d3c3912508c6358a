use Rattle.std.proofs.Common.{arith, refl, sym, ◌∙◌}
use Rattle.acl_text.proofs.ApartPaths.{rising_paths, do_not_rise}
use Rattle.acl_text.proofs.apart.rise.Goals as goal

pub returns : goal.returns
returns c = (λ _. rising_paths (λ p. p.now) c.args.all.now (λ k d lt. c.loop-place.invariant.rising k d (let last = c.loop-place-test.false in omega (arith, last, lt)) lt), λ _. refl)

pub returns-then-ne : goal.returns-then-ne
returns-then-ne c = (
  λ no. absurd cc,
  λ rising. do_not_rise
      (λ p. p.now) c.args.all.now c.loop-place.place c.index-all-place.result c.index-all-place-in-loop-place.result c.order.result
      c.loop-place.invariant.opened_draft c.loop-place-test.true c.index-all-place.is c.index-all-place-in-loop-place.is c.order.ensures (sym c.ne.ensures ∙ c.if-ne.true) rising,
)
