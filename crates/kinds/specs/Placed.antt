-- Entries whose nodes are at places of a list.
use Rattle.std.specs.Prelude.{◌≡◌, ◌<◌, ℕ, List, [], map, slice_get, Option, Some, None, length, get_or}
use Rattle.std.specs.List.{AllByRecursion}
use Rattle.acl_names.specs.Paths.{PathOf}
use Rattle.kinds.specs.Kinds.{KindsOf, node_at, count_at}
use Rattle.kinds.specs.Numbered.{Numbers, entries_by}
use Rattle.kinds.specs.Inner.{Extends}
use Rattle.kinds.specs.declared.placed.GivenNode.{GivenNode}
use Rattle.kinds.specs.declared.placed.GivenNode.TheVariants.{New, Known}

-- the entries, each with the node at its place, if one is there
abbrev pub placed : {N : Type 0} → List (Option N) → Numbers → List (PathOf × N)
placed nodes es = entries_by (nodes, []) es

-- the node that is given: a new one, or that of a number
abbrev pub given : {N : Type 0} → KindsOf N → GivenNode N → Option N
given k (New node) = Some node.value
given k (Known number) = node_at k number

-- each is given
abbrev pub AreGiven : {N : Type 0} → KindsOf N → List (GivenNode N) → Type 0
AreGiven {N} k nodes = AllByRecursion (λ node. (x : N) × (given k node ≡ Some x)) nodes

-- a node is that of an entry
abbrev pub IsOfEntry : {N : Type 0} → N → List (PathOf × N) → Type 0
IsOfEntry x es = (at : ℕ) × (slice_get (map (λ e. e.1) es) at ≡ Some x)

-- each place is below n
abbrev pub ArePlaces : ℕ → Numbers → Type 0
ArePlaces n es = AllByRecursion (λ e. e.1 < n) es

-- paths with the numbers at their places
abbrev pub by_place : List ℕ → Numbers → Numbers
by_place numbers es = map (λ e. (e.0, get_or numbers e.1 0)) es

-- ---- for inner functions

-- each node of a list has a number; no path is counted
pub record AddsNodes {N : Type 0} (old : KindsOf N) (nodes : List (Option N)) (numbers : List ℕ) (new : KindsOf N) : Type 0 where
  pub extends : Extends old new
  pub counts : (n : ℕ) → count_at new n ≡ count_at old n
  pub long : length numbers ≡ length nodes
  pub here : (i : ℕ) (x : N) → get_or nodes i None ≡ Some x → node_at new (get_or numbers i 0) ≡ Some x
