-- What a call that may stop returns.
use Rattle.std.specs.Prelude.{◌≡◌, ⊤, [], ◌∷◌, Result, Ok, Err, ℕ}
use Rattle.std.specs.declared.rc.Rc.{Rc}
use Rattle.acl_names.specs.Paths.{PathOf}
use Rattle.kinds.specs.declared.edit.Stop.{Stop}
use Rattle.kinds.specs.declared.edit.Stop.TheVariants as stops
use Rattle.kinds.specs.Kinds.{KindsOf}
use Rattle.kinds.specs.Numbered.{entries_by}
use Rattle.kinds.specs.Memo.{NodeEdit, edit_each, EditsOne}

-- what stopped a call is this fault, unless memory ran out
abbrev pub IsFaultOf : {Y F : Type 0} → Stop F → Result Y F → Type 0
IsFaultOf (stops.Fault fault) is = is ≡ Err fault
IsFaultOf stops.NoMemory is = ⊤

-- a call gives the value, seen by view, or exactly the fault, unless memory ran out
abbrev pub GivesOr : {X Y F : Type 0} → (X → Y) → Result X (Stop F) → Result Y F → Type 0
GivesOr view (Ok x) is = is ≡ Ok (view x)
GivesOr view (Err stop) is = IsFaultOf stop is

-- where a call stops, it is for this fault, unless memory ran out
abbrev pub StopsAt : {X Y F : Type 0} → Result X (Stop F) → Result Y F → Type 0
StopsAt (Ok x) is = ⊤
StopsAt (Err stop) is = IsFaultOf stop is

-- a call edits the node of an entry, or returns the fault with its path
abbrev pub EditsEntry : {N F Z : Type 0} → NodeEdit N F → KindsOf N → PathOf × ℕ → Result (Rc N Z) (Stop (PathOf × F)) → Type 0
EditsEntry edit k e (Ok y) = EditsOne edit k e.1 y.value
EditsEntry edit k e (Err stop) = IsFaultOf stop (edit_each edit (entries_by k (e ∷ [])))
