-- What is refused for the first part at fault.
use Rattle.std.proofs.Common.{◌≡◌, ◌≤◌, ℕ, Result, Ok, Err, sym, ap, subst, ◌∙◌, arith}
use Rattle.acl_names.proofs.Basics.{ok_or_err}
use Rattle.facl.specs.FirstPart.{IsNotAfter, IsFirst, IsRefusedForFirst}
use Rattle.facl.proofs.Outcomes.{err_eq, is_err}

between : (m n : ℕ) → m ≤ n → n ≤ m → m ≡ n
between m n h k = omega arith

module _ {P F : Type 0} (rank place : P → ℕ) (named : ℕ → ℕ → P) (is_named : (p : P) → p ≡ named (rank p) (place p)) (IsAtFault : P → F → Type 0) where
  -- parts neither of which is after the other
  one_part : (p q : P) → IsNotAfter rank place p q → IsNotAfter rank place q p → p ≡ q
  one_part p q pq qp =
      let same : rank p ≡ rank q = between (rank p) (rank q) pq.by_rank qp.by_rank in
      let also : place p ≡ place q = between (place p) (place q) (pq.by_place (sym same)) (qp.by_place same) in
      is_named p ∙ ap (λ n. named n (place p)) same ∙ ap (λ n. named (rank q) n) also ∙ sym (is_named q)

  -- no part is at fault
  pub accepted : {A : Type 0} (r : Result A F) (a : A) → r ≡ Ok a → ((p : P) (f : F) → IsAtFault p f → ⊥) → IsRefusedForFirst rank place IsAtFault r
  accepted r a is none = record {
    reported = λ f. ((λ h. absurd (ok_or_err r a f is h)), (λ h. absurd (none h.part f h.at_fault)));
    refused = λ p f h. absurd (none p f h);
  }

  -- this part is at fault, with one fault, and no other part is before it
  pub refused_at : {A : Type 0} (r : Result A F) (p : P) (f : F) → r ≡ Err f → IsAtFault p f → ((g : F) → IsAtFault p g → f ≡ g)
      → ((q : P) (g : F) → IsAtFault q g → IsNotAfter rank place p q) → IsRefusedForFirst rank place IsAtFault r
  refused_at r p f is here only first = record {
    reported = λ g. (
      (λ h. subst (λ g. IsFirst rank place IsAtFault g) (err_eq r f g is h) (record { part = p; at_fault = here; first = first })),
      (λ h.
          let same : h.part ≡ p = one_part h.part p (h.first p f here) (first h.part g h.at_fault) in
          is ∙ ap (λ e. Err e) (only g (subst (λ q. IsAtFault q g) same h.at_fault))),
    );
    refused = λ q g h. is_err r f is;
  }
