-- Lemmas on what a source returns.
use Rattle.facl_script.specs.ByteSource.{StopsAfter}
use Rattle.facl_script.specs.declared.source.ByteSource.{ByteSource}
use Rattle.facl_script.specs.declared.fault.ScriptFault.{ScriptFault}
use Rattle.facl_script.specs.declared.fault.ScriptFault.TheVariants.{Read, Write, TooLong, NoMemory}
use Rattle.std.proofs.Common.{◌≡◌, ℕ, Bool, List, ◌++◌, Option, None, Some, sym, ap, ◌∙◌, append_assoc}
use Rattle.std.proofs.KnownBytes.{Consumes-trans, Keeps-refl}
use Rattle.std.specs.Io.KnownBytes.{Consumes, Keeps, prepend_known}

-- what was returned grows by the front of what was read
pub handed : (before mid r : Option (List ℕ)) (all front rest text : List ℕ) → Consumes before mid text → Keeps mid (prepend_known all r) → all ≡ front ++ rest
    → Consumes before (prepend_known rest r) (text ++ front)
handed None mid r all front rest text p q e = tt
handed (Some x) None r all front rest text p q e = absurd p
handed (Some x) (Some y) None all front rest text p q e = absurd q
handed (Some x) (Some y) (Some z) all front rest text p q e =
    p ∙ ap (λ l. text ++ l) (sym q ∙ ap (λ l. l ++ z) e ∙ append_assoc front rest z) ∙ sym (append_assoc text front (rest ++ z))

-- a source that stops after some more of the script stops after all that was returned
pub stops_later : (fault : ScriptFault) (s : ByteSource) (before mid r : Option (List ℕ)) (failed : Bool) (text more : List ℕ) → Consumes before mid text
    → StopsAfter fault mid s r failed more → StopsAfter fault before s r failed (text ++ more)
stops_later Read s before mid r failed text more p h = (Consumes-trans before mid r text more p h.0, h.1, h.2)
stops_later TooLong s before mid r failed text more p h = ((h.0.0, h.0.1, rw append_assoc (Consumes-trans before mid r text _ p h.0.2)), h.1, h.2)
stops_later NoMemory s before mid r failed text more p h = Consumes-trans before mid _ text more p h
stops_later Write s before mid r failed text more p h = absurd h

-- what was returned grows by the front of what is read already
pub handed_pending : (before r : Option (List ℕ)) (all front rest text : List ℕ) → Consumes before (prepend_known all r) text → all ≡ front ++ rest
    → Consumes before (prepend_known rest r) (text ++ front)
handed_pending before r all front rest text p e = handed before (prepend_known all r) r all front rest text p (Keeps-refl (prepend_known all r)) e
