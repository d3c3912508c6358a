-- Which of several faults is reported. Each part of what is read has its faults by itself, without an order; the parts
-- have one order, and the first part at fault decides.
use Rattle.std.specs.Prelude.{◌≡◌, ◌≤◌, ◌↔◌, ℕ, Result, Err, IsErr}

-- a part is not after another one: by its rank, and of one rank by its place
pub record IsNotAfter {P : Type 0} (rank place : P → ℕ) (p q : P) : Type 0 where
  pub by_rank : rank p ≤ rank q
  pub by_place : rank q ≡ rank p → place p ≤ place q

-- the fault is one of a part that is not after any other part at fault
pub record IsFirst {P F : Type 0} (rank place : P → ℕ) (IsAtFault : P → F → Type 0) (fault : F) : Type 0 where
  pub part : P
  pub at_fault : IsAtFault part fault
  pub first : (other : P) (g : F) → IsAtFault other g → IsNotAfter rank place part other

-- there is a result exactly if no part is at fault, and else the fault of the first part is reported
pub record IsRefusedForFirst {P F A : Type 0} (rank place : P → ℕ) (IsAtFault : P → F → Type 0) (r : Result A F) : Type 0 where
  pub reported : (fault : F) → (r ≡ Err fault) ↔ IsFirst rank place IsAtFault fault
  pub refused : (part : P) (fault : F) → IsAtFault part fault → IsErr r
