-- What a text means, piece by piece, and which fault is returned.
use Rattle.std.specs.Prelude.{◌≡◌, ◌≢◌, ℕ, ◌+◌, List, [], ◌∷◌, ◌++◌, length, Result, Ok, Err, MatchResult}
use Rattle.acl_text.specs.declared.fault.FaultKind.{FaultKind}
use Rattle.acl_text.specs.declared.fault.FaultKind.TheVariants.{NoMemory}
use Rattle.acl_text.specs.declared.fault.FaultKind.TheVariants as kinds
use Rattle.acl_text.specs.declared.fault.Which.{Which}
use Rattle.acl_entry.specs.declared.entry.ListFault.{ListFault}
use Rattle.acl_entry.specs.declared.entry.ListFault.TheVariants as faults
use Rattle.acl_text.specs.declared.fault.TextFault.{TextFault}

-- what is wrong with a text whose list has a fault; running out of memory is not the list's
abbrev pub of_list : Which → ListFault → FaultKind
of_list which faults.NoMemory = NoMemory
of_list which (faults.Repeated at) = kinds.List which (faults.Repeated at)
of_list which (faults.MissingBase key) = kinds.List which (faults.MissingBase key)
of_list which (faults.MissingMask at) = kinds.List which (faults.MissingMask at)
of_list which faults.TooLong = kinds.List which faults.TooLong

-- a judgement of the piece at a place, and the result for the pieces after it
abbrev pub at_place : {S T : Type 0} → ℕ → Result S FaultKind → (S → Result T TextFault) → Result T TextFault
at_place at (Ok state) more = more state
at_place at (Err kind) more = Err (record { kind = kind; at = at })

-- A judge gives the value once the piece at a place is read too, or the lowest kind of fault of that piece.
-- The value of all pieces is the last one; else the fault of the first faulty piece is returned.
abbrev pub read_each_from : {S P : Type 0} → (ℕ → S → P → Result S FaultKind) → ℕ → S → List P → Result S TextFault
read_each_from judge at state [] = Ok state
read_each_from judge at state (p ∷ ps) = at_place at (judge at state p) (λ more. read_each_from judge (at + 1) more ps)

-- what a text means, whose pieces count from 1
abbrev pub read_each : {S P : Type 0} → (ℕ → S → P → Result S FaultKind) → S → List P → Result S TextFault
read_each judge start ps = read_each_from judge 1 start ps

-- the first faulty piece: what is before it has no fault, and it has this one
pub record IsFirstFault {S P : Type 0} (judge : ℕ → S → P → Result S FaultKind) (from : ℕ) (start : S) (ps : List P) (fault : TextFault) : Type 0 where
  pub before : List P
  pub piece : P
  pub after : List P
  pub parts : ps ≡ before ++ piece ∷ after
  pub place : fault.at ≡ from + length before
  pub state : S
  pub no_fault_before : read_each_from judge from start before ≡ Ok state
  pub faulty : judge fault.at state piece ≡ Err fault.kind

-- A call gives the value, seen by view, or exactly the fault, unless memory ran out, which is a fault of its own.
abbrev pub GivesUnless : {X Y F : Type 0} → F → (X → Y) → Result X F → Result Y F → Type 0
GivesUnless no_memory view result is = MatchResult result (λ x. is ≡ Ok (view x)) (λ fault. fault ≢ no_memory → is ≡ Err fault)

-- So does a call whose fault has a kind and a place.
abbrev pub Gives : {X Y : Type 0} → (X → Y) → Result X TextFault → Result Y TextFault → Type 0
Gives view (Ok x) is = is ≡ Ok (view x)
Gives view (Err fault) is = fault.kind ≢ NoMemory → is ≡ Err fault

-- What a step with the piece at a place did: it read one piece more, or returned the fault of this piece, unless memory ran out.
abbrev pub JudgesAt : {S X : Type 0} → ℕ → Result X TextFault → S → Result S FaultKind → Type 0
JudgesAt at (Ok x) new is = is ≡ Ok new
JudgesAt at (Err fault) new is = fault.kind ≢ NoMemory → (is ≡ Err fault.kind) × (fault.at ≡ at)

-- A call gives the value of a piece, seen by view, or exactly its fault at its place, unless memory ran out.
abbrev pub GivesAt : {X Y : Type 0} → ℕ → (X → Y) → Result X TextFault → Result Y FaultKind → Type 0
GivesAt at view (Ok x) is = is ≡ Ok (view x)
GivesAt at view (Err fault) is = fault.kind ≢ NoMemory → (is ≡ Err fault.kind) × (fault.at ≡ at)
