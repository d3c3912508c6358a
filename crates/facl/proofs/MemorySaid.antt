-- Where memory runs out for a line, the session says so.
use Rattle.std.proofs.Common.{◌≡◌, ℕ, Bool, true, false, if◌then◌else◌, List, [], ◌∷◌, ◌++◌, Result, Ok, Err, refl, sym, ap, ◌∙◌, subst, append_assoc}
use Rattle.std.specs.Prelude.{codes, decimal}
use Rattle.acl_names.proofs.Basics.{err_is_not_ok}
use Rattle.acl_rights.specs.Deciders.{Judging}
use Rattle.acl_rights.specs.States.{from_start}
use Rattle.acl_rights.specs.declared.indexed.States.{States}
use Rattle.facl_output.specs.Messages.{message}
use Rattle.facl_output.specs.declared.fault.LineFault.TheVariants.{NoMemory}
use Rattle.facl_output.specs.declared.fault.RunFault.{RunFault}
use Rattle.facl_tools.specs.TextWords.{line_asks}
use Rattle.facl_script.specs.Units.{ScriptUnit, units_of}
use Rattle.facl.specs.Headline.{joined, play}
use Rattle.facl.specs.Laws.{SaysNoMemory, NoMemoryIsSaid}
use Rattle.facl.specs.Units.{UnitAnswer, answer_of_words, answered, is_silent, quiet, refused, words_of_line}

says_in_front : (x y : List ℕ) → SaysNoMemory x → SaysNoMemory (x ++ y)
says_in_front x y s =
    record { before = s.before; after = s.after ++ y; is = ap (λ l. l ++ y) s.is ∙ append_assoc s.before (codes ": facl: no memory" ++ 10 ∷ s.after) y }

says_behind : (x y : List ℕ) → SaysNoMemory y → SaysNoMemory (x ++ y)
says_behind x y s =
    record { before = x ++ s.before; after = s.after; is = ap (λ l. x ++ l) s.is ∙ sym (append_assoc x s.before (codes ": facl: no memory" ++ 10 ∷ s.after)) }

grouped_from_behind : (l n c f d t e : List ℕ) → ((((((l ++ n) ++ c) ++ f) ++ d) ++ t) ++ e) ≡ (l ++ n) ++ (c ++ (f ++ (d ++ (t ++ e))))
grouped_from_behind l n c f d t e =
    append_assoc ((((l ++ n) ++ c) ++ f) ++ d) t e ∙ append_assoc (((l ++ n) ++ c) ++ f) d (t ++ e)
    ∙ append_assoc ((l ++ n) ++ c) f (d ++ (t ++ e)) ∙ append_assoc (l ++ n) c (f ++ (d ++ (t ++ e)))

message_says : (number : ℕ) → SaysNoMemory (message number [] NoMemory)
unfolding message
message_says number =
    record {
      before = codes "line " ++ decimal number;
      after = [];
      is = grouped_from_behind (codes "line ") (decimal number) (codes ": ") (codes "facl") (codes ": ") (codes "no memory") (10 ∷ []);
    }

module _ (judge : Judging) (m : ℕ → Bool) where
  unit_says : (u : ScriptUnit) (w : States) → (SaysNoMemory (answered judge (m u.number) u w).err → ⊥) → answered judge (m u.number) u w ≡ answered judge false u w
  unit_says u w = by (is_silent u.line) (m u.number)
    where
      by : (silent ran_out : Bool)
          → (SaysNoMemory (if silent then quiet w else (if ran_out then refused u.number [] NoMemory w else answer_of_words judge u w (words_of_line u.line))).err → ⊥)
          → (if silent then quiet w else (if ran_out then refused u.number [] NoMemory w else answer_of_words judge u w (words_of_line u.line)))
          ≡ (if silent then quiet w else answer_of_words judge u w (words_of_line u.line))
      by true ran_out none = refl
      by false false none = refl
      by false true none = absurd (none (message_says u.number))

  units_say : (us : List ScriptUnit) (w : States) → (SaysNoMemory (play judge m us w).err → ⊥) → play judge m us w ≡ play judge (λ _. false) us w
  units_say [] w none = refl
  units_say (u ∷ us) w none =
      let a = answered judge (m u.number) u w in
      let rest = play judge m us a.state in
      ap (joined a) (units_say us a.state (λ says. none (says_behind a.err rest.err says)))
      ∙ ap (λ (b : UnitAnswer). joined b (play judge (λ _. false) us b.state)) (unit_says u w (λ says. none (says_in_front a.err rest.err says)))

abbrev answer_or : UnitAnswer → Result UnitAnswer RunFault → UnitAnswer
answer_or a (Ok b) = b
answer_or a (Err fault) = a

pub no_memory_is_said : NoMemoryIsSaid
no_memory_is_said judge (Err fault) script m session is none = absurd (err_is_not_ok session fault is)
no_memory_is_said judge (Ok start) script m session is none =
    let us = units_of line_asks script in
    let w = from_start start in
    let same : play judge m us w ≡ session = ap (answer_or session) is in
    ap (λ a. Ok a) (sym (units_say judge m us w (λ says. none (subst (λ (a : UnitAnswer). SaysNoMemory a.err) same says))) ∙ same)
