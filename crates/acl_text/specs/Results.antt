-- How a fault is passed on. A value, or else this fault: std's `ok_or`.
use Rattle.std.specs.Prelude.{Option, Some, None, Result, Ok, Err}

-- Goes on with the value, unless there is a fault. So faults are checked in this order, and the first is returned; of
-- one piece that is the order of their kinds, and the lowest.
infixl 10 ◌>>=◌
abbrev pub ◌>>=◌ : {A B F : Type 0} → Result A F → (A → Result B F) → Result B F
(Ok x) >>= f = f x
(Err fault) >>= f = Err fault

-- this fault, if there is one, and else the result
abbrev pub unless : {A F : Type 0} → Option F → Result A F → Result A F
unless None result = result
unless (Some fault) result = Err fault

-- the fault, if there is one, as another layer sees it
abbrev pub map_err : {A F G : Type 0} → (F → G) → Result A F → Result A G
map_err view (Ok x) = Ok x
map_err view (Err fault) = Err (view fault)
