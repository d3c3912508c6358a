use Rattle.std.proofs.Common.{◌≡◌, ◌-◌, ℕ, List, [], take, drop, Option, None, Some, refl, arith, length-take}
use Rattle.std.proofs.lemmas.Grind.{common_steps}
use Rattle.std.specs.Io.KnownBytes.{Consumes, prepend_known}
use Rattle.facl_script.proofs.source.ByteSource.fill.Goals as goal

consumes_after : (none : List ℕ) (a b : Option (List ℕ)) (bs : List ℕ) → none ≡ [] → Consumes a b bs → Consumes (prepend_known none a) b bs
consumes_after none None b bs e h = tt
consumes_after none (Some x) None bs e h = absurd h
consumes_after none (Some x) (Some y) bs e h = rw e h

pub returns-else-n-eq0-clause-fills : goal.returns-else-n-eq0-clause-fills
returns-else-n-eq0-clause-fills g c =
    let s = c.args.self.now in
    let h = c.in_ok-n.ensures.reads in
    let n : ℕ = c.in_ok-n.n in
    let len = c.read_some.auto.chunk in
    let none : s.end - s.start ≡ 0 = omega arith in (
      (
        take n c.read_some.new.chunk,
        omega (arith, len, length-take n c.read_some.new.chunk),
        consumes_after (take (s.end - s.start) (drop s.start s.chunk)) _ _ _ (rw none refl) h.1,
      ),
      refl,
      omega (arith, s.within),
    )

pub returns-then-self-clause-fills : goal.returns-then-self-clause-fills
returns-then-self-clause-fills g c = grind (arith, common_steps)
