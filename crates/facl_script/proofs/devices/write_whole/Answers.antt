use Rattle.std.proofs.Common.{◌≡◌, false, ℕ, ◌||◌, ◌&&◌, arith, Bool, nat_eq, ap, ◌∙◌}
use Rattle.std.proofs.lemmas.Grind.{common_steps}
use Rattle.std.proofs.lemmas.Bool.{ne_eqb}
use Rattle.std.proofs.lemmas.List.{take_rest}
use Rattle.std.proofs.KnownBytes.{Appends-trans}
use lib.Seq.{take-add}
use Rattle.facl_script.proofs.devices.write_whole.Goals as goal

-- a write that took some byte leaves a working sink
still_works : (new old : Bool) (taken : ℕ) (some : Bool) → new ≡ (old || (nat_eq taken 0 && some)) → old ≡ false → (taken ≡ 0 → ⊥) → new ≡ false
still_works new old taken some e works more = e ∙ ap (λ b. b || (nat_eq taken 0 && some)) works ∙ ap (λ b. b && some) (ne_eqb taken 0 more)

pub loop-done-preserved : goal.loop-done-preserved
loop-done-preserved g c =
    let took = rw take_rest at c.in-Ok.ensures.bytes in
    record {
      within = omega (arith, c.in-Ok.ensures.bound);
      written = rw (take-add c.loop-done.done c.in-Ok.taken c.args.bytes.now) (Appends-trans _ _ _ _ _ c.loop-done.invariant.written took);
      works = still_works _ _ c.in-Ok.taken _ c.in-Ok.ensures.failed c.loop-done.invariant.works c.in-Ok.taken-test.1;
    }

pub returns-clause-writes : goal.returns-clause-writes
returns-clause-writes g c = grind (arith, common_steps)
