-- A command is refused for the first fault that applies.
use Rattle.std.proofs.Common.{◌≡◌, ◌≤◌, ℕ, Result, Ok, Err, refl, sym, ap, subst, ◌∙◌, arith}
use Rattle.std.specs.Prelude.{IsErr}
use Rattle.acl_names.proofs.Basics.{ok_is_not_err}
use Rattle.acl_tree.specs.declared.fault.TreeFault.{TreeFault}
use Rattle.acl_tree.specs.declared.command.Command.{Command}
use Rattle.acl_tree.specs.State.{State}
use Rattle.acl_tree.specs.Step.{step, Applies}
use Rattle.acl_tree.specs.Refusals.{rank, place_of, IsNotAfter, IsRefusedForFirst}

abbrev fault_or : TreeFault → Result State TreeFault → TreeFault
fault_or f (Ok t) = f
fault_or f (Err g) = g

module _ (s : State) (c : Command) where
  -- what decides on a result: the faults that apply are those that it is refused for, and it is refused for the first of them
  pub record Decides (r : Result State TreeFault) : Type 0 where
    pub applies : (f : TreeFault) → r ≡ Err f → Applies s c f
    pub first : (f g : TreeFault) → r ≡ Err f → Applies s c g → IsNotAfter s c f g
    pub refused : (g : TreeFault) → Applies s c g → (f : TreeFault) × (r ≡ Err f)

  pub decides_err : (f : TreeFault) → Applies s c f → ((g : TreeFault) → Applies s c g → IsNotAfter s c f g) → Decides (Err f)
  decides_err f here first = record {
    applies = λ g h. subst (Applies s c) (ap (fault_or f) h) here;
    first = λ g k h other. subst (λ g. IsNotAfter s c g k) (ap (fault_or f) h) (first k other);
    refused = λ g h. (f, refl);
  }

  pub decides_ok : (t : State) → ((g : TreeFault) → Applies s c g → ⊥) → Decides (Ok t)
  decides_ok t none = record {
    applies = λ g h. absurd (ok_is_not_err t g h);
    first = λ g k h other. absurd (ok_is_not_err t g h);
    refused = λ g h. absurd (none g h);
  }

  -- faults that apply differ in their rank or in their place
  abbrev pub AreApart : Type 0
  AreApart = (f g : TreeFault) → Applies s c f → Applies s c g → rank f ≡ rank g → place_of s c f ≡ place_of s c g → f ≡ g

  refused_is_err : (r : Result State TreeFault) (f : TreeFault) → r ≡ Err f → IsErr r
  refused_is_err (Ok t) f h = absurd (ok_is_not_err t f h)
  refused_is_err (Err g) f h = refl

  -- two faults neither of which is after the other
  same_rank : (f g : TreeFault) → IsNotAfter s c f g → IsNotAfter s c g f → rank f ≡ rank g
  same_rank f g fg gf = let a = fg.by_rank in let b = gf.by_rank in omega arith

  same_place : (f g : TreeFault) → IsNotAfter s c f g → IsNotAfter s c g f → rank f ≡ rank g → place_of s c f ≡ place_of s c g
  same_place f g fg gf same = let a = fg.by_place (sym same) in let b = gf.by_place same in omega arith

  pub refused_for_first : AreApart → Decides (step s c) → IsRefusedForFirst s c
  refused_for_first apart decides = record {
    reported = λ f. (
      (λ h. record { applies = decides.applies f h; first = λ g other. decides.first f g h other }),
      (λ is.
          let by = decides.refused f is.applies in
          let g : TreeFault = by.0 in
          let there : Applies s c g = decides.applies g by.1 in
          let fg : IsNotAfter s c f g = is.first g there in
          let gf : IsNotAfter s c g f = decides.first g f by.1 is.applies in
          let same : rank f ≡ rank g = same_rank f g fg gf in
          by.1 ∙ ap (λ g. Err g) (sym (apart f g is.applies there same (same_place f g fg gf same)))),
    );
    refused = λ f h. let by = decides.refused f h in refused_is_err (step s c) by.0 by.1;
  }

  -- a fault that is about no operand
  pub ranked : (f g : TreeFault) → place_of s c f ≡ 0 → rank f ≤ rank g → IsNotAfter s c f g
  ranked f g none le = record { by_rank = le; by_place = λ same. omega arith }

  -- the faults of a command are named by their ranks
  pub apart_by : (named : ℕ → TreeFault) → ((g : TreeFault) → Applies s c g → g ≡ named (rank g)) → AreApart
  apart_by named is f g fa ga same _ = is f fa ∙ ap named same ∙ sym (is g ga)
