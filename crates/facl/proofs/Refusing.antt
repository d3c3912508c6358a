-- Lines that are refused, and units that are not silent.
use Rattle.std.proofs.Common.{◌≡◌, ◌≢◌, ◌+◌, ◌≤◌, ℕ, List, Bool, true, false, [], Err, ap, sym, subst, refl, arith, true≢false}
use Rattle.acl_rights.specs.Deciders.{Judging}
use Rattle.acl_rights.specs.declared.indexed.States.{States}
use Rattle.facl_script.specs.Play.{Answer}
use Rattle.facl_script.specs.Run.{IsAnswer}
use Rattle.facl_script.specs.Units.{ScriptUnit}
use Rattle.facl_script.specs.Forms.{Text}
use Rattle.facl_output.specs.declared.fault.LineFault.{LineFault}
use Rattle.facl_output.specs.declared.fault.LineFault.TheVariants.{NoMemory}
use Rattle.facl.specs.Counted.{refused, answer_of_words, unless_out_of_memory, answered_line, answered}
use Rattle.facl.specs.Units.{is_silent, words_of_line}

-- a line for which memory ran out is refused, whatever its answer is
pub lacks_memory : (ran_out : Bool) (number : ℕ) (w new : States) (a : Answer States) (asked asked' : ℕ) (out err : List ℕ)
    → ran_out ≡ true → asked' ≤ asked + a.cost
    → IsAnswer (unless_out_of_memory ran_out number w (refused number [] NoMemory w)) new asked' asked' out err true
    → IsAnswer (unless_out_of_memory ran_out number w a) new asked asked' out err true
lacks_memory true number w new a asked asked' out err is le h =
    record { state_is = h.state_is; spends = le; out_is = h.out_is; err_is = h.err_is; refused_is = h.refused_is }
lacks_memory false number w new a asked asked' out err is le h = absurd (true≢false (sym is))

-- a line whose answer is the refusal for a fault is refused so, unless memory runs out for it
pub refused_as : (ran_out : Bool) (number : ℕ) (tool : Text) (fault : LineFault) (w new : States) (a : Answer States) (asked : ℕ) (out err : List ℕ)
    → (fault ≡ NoMemory → ran_out ≡ true) → (fault ≢ NoMemory → a ≡ refused number tool fault w)
    → IsAnswer (unless_out_of_memory ran_out number w (refused number tool fault w)) new asked asked out err true
    → IsAnswer (unless_out_of_memory ran_out number w a) new asked asked out err true
refused_as true number tool fault w new a asked out err memory is h =
    record { state_is = h.state_is; spends = more asked a.cost; out_is = h.out_is; err_is = h.err_is; refused_is = h.refused_is }
  where
    more : (n m : ℕ) → n ≤ n + m
    more n m = omega (arith)
refused_as false number tool fault w new a asked out err memory is h =
    subst (λ b. IsAnswer b new asked asked out err true) (sym (is (λ e. true≢false (sym (memory e))))) h

-- a line without words is refused as one
pub refused_line : (J : Judging) (u : ScriptUnit) (ran_out : Bool) (number : ℕ) (fault : LineFault) (w new : States) (asked : ℕ) (out err : List ℕ)
    → u.number ≡ number → (fault ≡ NoMemory → ran_out ≡ true) → (fault ≢ NoMemory → words_of_line u.line ≡ Err fault)
    → IsAnswer (unless_out_of_memory ran_out number w (refused number [] fault w)) new asked asked out err true
    → IsAnswer (answered_line J ran_out u w) new asked asked out err true
refused_line J u ran_out number fault w new asked out err same memory is h =
    refused_as ran_out u.number [] fault w new (answer_of_words J u w (words_of_line u.line)) asked out err memory (λ other. ap (answer_of_words J u w) (is other))
    (subst (λ n. IsAnswer (unless_out_of_memory ran_out n w (refused n [] fault w)) new asked asked out err true) (sym same) h)

-- a unit whose line is neither blank nor a comment
pub not_silent : (J : Judging) (u : ScriptUnit) (ran_out : Bool) (s : States) → is_silent u.line ≡ false
    → answered J ran_out u s ≡ answered_line J ran_out u s
not_silent J u ran_out s e = rw e refl
