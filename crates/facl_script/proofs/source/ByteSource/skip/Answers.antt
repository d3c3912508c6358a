use Rattle.std.proofs.Common.{◌≡◌, ◌≤◌, ◌+◌, ◌-◌, ℕ, List, take, drop, length, slice_range, sym, ap, ◌∙◌, arith, length-take}
use Rattle.std.proofs.lemmas.List.{drop-take, drop-drop}
use Rattle.facl_script.proofs.source.ByteSource.skip.Goals as goal

skipped : (xs : List ℕ) (a b n : ℕ) → n ≤ b - a → slice_range xs (a + n) b ≡ drop n (slice_range xs a b)
skipped xs a b n h =
    let rest : b - a ≡ n + (b - (a + n)) = omega arith in
    ap (take (b - (a + n))) (sym (drop-drop n a xs)) ∙ sym (drop-take n (b - (a + n)) (drop a xs)) ∙ ap (λ k. drop n (take k (drop a xs))) (sym rest)

pub returns-clause-pending : goal.returns-clause-pending
returns-clause-pending c =
    let s = c.args.self.now in
    let fits : c.args.n ≤ length (take (s.end - s.start) (drop s.start s.chunk)) = c.requires in
    skipped s.chunk s.start s.end c.args.n (omega (arith, fits, length-take (s.end - s.start) (drop s.start s.chunk)))
