use Rattle.std.proofs.Common.{◌≡◌, ℕ, ◌<◌, ◌≤◌, Bool, true, false, true≢false, nat_lt, ltb-true, ltb-false, length, refl, sym, ap, ◌∙◌, arith}
use Rattle.kinds.specs.Kinds.{KindsOf}
use Rattle.kinds.specs.Numbered.{Kept}
use Rattle.kinds.specs.Given.{used_at}
use Rattle.kinds.proofs.Tags.{past_end}
use Rattle.kinds.proofs.tagged.TaggedMap.replaced.Goals as goal

pub after-requires : goal.after-requires
after-requires g c n h =
    let k : KindsOf g.row.N.Denot = c.args.map.0 in
    let old : KindsOf g.row.N.Denot = c.args.self.now.0 in
    let long : c.numbers_len.result ≡ length old.0 = c.numbers_len.ensures ∙ ap (λ (m : Kept g.row.N.Denot). length m.0.0) c.map.ensures in
    let end = c.max-end.ensures in
    by k old n (nat_lt n c.max-end.result) refl
    (λ lt. true≢false (sym (c.in_ok-numbers.ensures n lt) ∙ h))
    (λ ge. (omega (arith, ge, long, end), omega (arith, ge, c.numbers_len-2.ensures, end)))
  where
    by : {N : Type 0} (k old : KindsOf N) (n : ℕ) {end : ℕ} (b : Bool) → nat_lt n end ≡ b → (n < end → ⊥) → (end ≤ n → (length old.0 ≤ n) × (length k.0 ≤ n)) → used_at k n ≡ used_at old n
    by k old n true is not_lt ge = absurd (not_lt (ltb-true _ _ is))
    by k old n false is not_lt ge = past_end k n (ge (ltb-false _ _ is)).1 ∙ sym (past_end old n (ge (ltb-false _ _ is)).0)
