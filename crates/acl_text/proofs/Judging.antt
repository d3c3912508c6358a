-- The fault that is returned is the first, and the first is returned.
use Rattle.std.proofs.Common.{◌≡◌, ℕ, ◌+◌, List, [], ◌∷◌, ◌++◌, length, Result, Ok, Err, refl, sym, ap, ◌∙◌, subst, arith, inl, inr}
use Rattle.acl_names.proofs.Basics.{cases_Result}
use Rattle.acl_text.specs.declared.fault.FaultKind.{FaultKind}
use Rattle.acl_text.specs.declared.fault.TextFault.{TextFault}
use Rattle.acl_text.specs.InTurn.{at_place, read_each_from, IsFirstFault}

module _ {S P : Type 0} (judge : ℕ → S → P → Result S FaultKind) where
  pub fault_is_first : (at : ℕ) (state : S) (ps : List P) (fault : TextFault) → read_each_from judge at state ps ≡ Err fault → IsFirstFault judge at state ps fault
  fault_is_first at state [] fault e = absurd cc
  fault_is_first at state (p ∷ ps) fault e =
      elim (cases_Result (judge at state p)) [
        | inl fine ↦
            let later : read_each_from judge (at + 1) fine.0 ps ≡ Err fault = sym (ap (λ j. at_place at j (λ more. read_each_from judge (at + 1) more ps)) fine.1) ∙ e in
            let first = fault_is_first (at + 1) fine.0 ps fault later in
            record {
              before = p ∷ first.before;
              piece = first.piece;
              after = first.after;
              parts = ap (λ (qs : List P). p ∷ qs) first.parts;
              place = omega (arith, first.place);
              state = first.state;
              no_fault_before = ap (λ j. at_place at j (λ more. read_each_from judge (at + 1) more first.before)) fine.1 ∙ first.no_fault_before;
              faulty = first.faulty;
            }
        | inr bad ↦
            let here : Err (record { kind = bad.0; at = at }) ≡ Err fault = sym (ap (λ j. at_place at j (λ more. read_each_from judge (at + 1) more ps)) bad.1) ∙ e in
            let same : record { kind = bad.0; at = at } ≡ fault = cc in
            let place : at ≡ fault.at = ap (λ (f : TextFault). f.at) same in
            record {
              before = [];
              piece = p;
              after = ps;
              parts = refl;
              place = omega (arith, place);
              state = state;
              no_fault_before = refl;
              faulty = subst (λ (n : ℕ). judge n state p ≡ Err fault.kind) place (bad.1 ∙ ap (λ (f : TextFault). Err f.kind) same);
            }
      ]

  reads_after : (at : ℕ) (start state : S) (before ps : List P) → read_each_from judge at start before ≡ Ok state
      → read_each_from judge at start (before ++ ps) ≡ read_each_from judge (at + length before) state ps
  reads_after at start state [] ps e =
      let same : start ≡ state = cc in
      ap (λ (x : S). read_each_from judge at x ps) same ∙ ap (λ (n : ℕ). read_each_from judge n state ps) (omega arith)
  reads_after at start state (p ∷ before) ps e =
      elim (cases_Result (judge at start p)) [
        | inl fine ↦
            let rest : read_each_from judge (at + 1) fine.0 before ≡ Ok state = sym (ap (λ j. at_place at j (λ more. read_each_from judge (at + 1) more before)) fine.1) ∙ e in
            ap (λ j. at_place at j (λ more. read_each_from judge (at + 1) more (before ++ ps))) fine.1
            ∙ (reads_after (at + 1) fine.0 state before ps rest ∙ ap (λ (n : ℕ). read_each_from judge n state ps) (omega arith))
        | inr bad ↦ absurd (cc (ap (λ j. at_place at j (λ more. read_each_from judge (at + 1) more before)) bad.1))
      ]

  pub first_is_fault : (at : ℕ) (state : S) (ps : List P) (fault : TextFault) → IsFirstFault judge at state ps fault → read_each_from judge at state ps ≡ Err fault
  first_is_fault at state ps fault first =
      ap (read_each_from judge at state) first.parts
      ∙ (reads_after at state first.state first.before (first.piece ∷ first.after) first.no_fault_before
      ∙ (ap (λ (n : ℕ). read_each_from judge n first.state (first.piece ∷ first.after)) (sym first.place)
      ∙ ap (λ j. at_place fault.at j (λ more. read_each_from judge (fault.at + 1) more first.after)) first.faulty))
