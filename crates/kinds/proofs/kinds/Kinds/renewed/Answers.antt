use Rattle.std.proofs.Common.{◌≡◌, ◌+◌, ◌<◌, ◌≤◌, ℕ, suc, length, sym, ap, subst, ◌∙◌, arith}
use Rattle.kinds.specs.Kinds.{KindsOf, kinds_of, count_at}
use Rattle.kinds.specs.Renewed.{renewed_before, counts_before, weight_before, Renews}
use Rattle.kinds.proofs.Renewals.{renews, renewed_more, weight_fits, weight_grows, weight_past}
use Rattle.kinds.proofs.kinds.Kinds.renewed.Goals as goal

pub renewed_slot-requires : goal.renewed_slot-requires
renewed_slot-requires g c =
    let w = g.R.Renewal.weight c.args.renewal.now in
    let k : KindsOf g.row.N.Denot = c.args.self.now in
    let lt : c.loop-number.number < length k.0 = omega (arith, c.loop-number-test.true, c.used_end-number-end.ensures.within) in
    let fits = weight_fits w k c.loop-number.number (length k.0) lt in
    record { room = omega (arith, fits, c.loop-number.invariant.at_most, c.requires.room) }

pub returns-in_err-slot-clause-at_most : goal.returns-in_err-slot-clause-at_most
returns-in_err-slot-clause-at_most g c =
    let w = g.R.Renewal.weight c.args.renewal.now in
    let k : KindsOf g.row.N.Denot = c.args.self.now in
    let lt : c.loop-number.number < length k.0 = omega (arith, c.loop-number-test.true, c.used_end-number-end.ensures.within) in
    let fits = weight_fits w k c.loop-number.number (length k.0) lt in
    omega (arith, fits, c.loop-number.invariant.at_most, c.renewed_slot.ensures.at_most)

pub returns-in_err-slots-clause-at_most : goal.returns-in_err-slots-clause-at_most
returns-in_err-slots-clause-at_most g c =
    let w = g.R.Renewal.weight c.args.renewal.now in
    let k : KindsOf g.row.N.Denot = c.args.self.now in
    let lt : c.loop-number.number < length k.0 = omega (arith, c.loop-number-test.true, c.used_end-number-end.ensures.within) in
    let fits = weight_fits w k c.loop-number.number (length k.0) lt in
    omega (arith, fits, c.loop-number.invariant.at_most, c.in_ok-slot.ensures.at_most)

pub loop-number-preserved : goal.loop-number-preserved
loop-number-preserved g c =
    let f = g.R.Renewal.renewed c.args.renewal.now in
    let w = g.R.Renewal.weight c.args.renewal.now in
    let k : KindsOf g.row.N.Denot = c.args.self.now in
    let n = c.loop-number.number in
    let next : suc n ≡ n + 1 = omega arith in
    record {
      slots =
          ap kinds_of c.in_ok-slots.ensures
          ∙ renewed_more f k n c.loop-number.slots c.in_ok-slot.slot c.loop-number.invariant.slots c.in_ok-slot.ensures.slot
          ∙ ap (λ m. (renewed_before f k m, counts_before k m)) next;
      exact = λ is. let so_far = c.loop-number.invariant.exact is in let more = c.in_ok-slot.ensures.exact is in let step = ap (weight_before w k) next in omega (arith, so_far, more, step);
      at_most = let so_far = c.loop-number.invariant.at_most in let more = c.in_ok-slot.ensures.at_most in let step = ap (weight_before w k) next in omega (arith, so_far, more, step);
    }

pub returns-clause-renews : goal.returns-clause-renews
returns-clause-renews g c =
    let f = g.R.Renewal.renewed c.args.renewal.now in
    let k : KindsOf g.row.N.Denot = c.args.self.now in
    let end = c.loop-number.number in
    let past : (n : ℕ) → end ≤ n → count_at k n ≡ 0 = λ n le. c.used_end-number-end.ensures.past n (omega (arith, le, c.loop-number-test.false)) in
    let made : kinds_of c.loop-number.slots ≡ (renewed_before f k end, counts_before k end) = c.loop-number.invariant.slots in
    subst (λ (new : KindsOf g.row.M.Denot). Renews f k new) (sym made) (renews f k end past)

pub returns-clause-exact : goal.returns-clause-exact
returns-clause-exact g c = λ is.
    let w = g.R.Renewal.weight c.args.renewal.now in
    let k : KindsOf g.row.N.Denot = c.args.self.now in
    let end = c.loop-number.number in
    let past : (n : ℕ) → end ≤ n → count_at k n ≡ 0 = λ n le. c.used_end-number-end.ensures.past n (omega (arith, le, c.loop-number-test.false)) in
    let all = weight_past w k end (length k.0) (omega (arith, c.loop-number.auto.number-end, c.used_end-number-end.ensures.within)) past in
    let so_far = c.loop-number.invariant.exact is in
    omega (arith, so_far, all)

pub returns-clause-at_most : goal.returns-clause-at_most
returns-clause-at_most g c =
    let w = g.R.Renewal.weight c.args.renewal.now in
    let k : KindsOf g.row.N.Denot = c.args.self.now in
    let all = weight_grows w k c.loop-number.number (length k.0) (omega (arith, c.loop-number.auto.number-end, c.used_end-number-end.ensures.within)) in
    omega (arith, all, c.loop-number.invariant.at_most)
