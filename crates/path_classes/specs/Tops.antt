-- For inner functions: the tops among the paths of two lists.
use Rattle.std.specs.Prelude.{◌≡◌, ◌+◌, ◌||◌, ◌++◌, suc, false, Bool, List, [], ◌∷◌, length, Option, None, Some, if◌then◌else◌}
use Rattle.std.specs.List.{AllByRecursion}
use Rattle.std.specs.Option.{option_map_or}
use Rattle.std.specs.Ordering.{is_gt}
use Rattle.acl_names.specs.Paths.{path_cmp, PathOf}
use Rattle.acl_names.specs.Below.{encloses}
use Rattle.path_map.specs.Entries.{IsInOrder}
use Rattle.path_classes.specs.ClassesWithin.{is_inside, AreTops}
use Rattle.path_classes.specs.ClassedRows.{paths_of}

-- a path is not after those of entries
abbrev pub NotAfter : {V : Type 0} → PathOf → List (PathOf × V) → Type 0
NotAfter s es = AllByRecursion (λ e. is_gt (path_cmp s e.0) ≡ false) es

-- no path of some is after those of two lists
abbrev pub AreNotAfter : {V W : Type 0} → List (PathOf × V) → List (PathOf × W) → List PathOf → Type 0
AreNotAfter es fs ss = AllByRecursion (λ s. NotAfter s es × NotAfter s fs) ss

-- no path of some is after a path
abbrev pub AreBefore : List PathOf → PathOf → Type 0
AreBefore ss p = AllByRecursion (λ s. is_gt (path_cmp s p) ≡ false) ss

-- whether a path is at or below one of the paths of two lists
abbrev pub is_in_two : {V W : Type 0} → List (PathOf × V) → List (PathOf × W) → PathOf → Bool
is_in_two es fs q = is_inside (paths_of es) q || is_inside (paths_of fs) q

-- the first path of two lists, and what is left of both
pub record IsNext {V W : Type 0} (es : List (PathOf × V)) (fs : List (PathOf × W)) (p : PathOf) (left : List (PathOf × V)) (rest : List (PathOf × W)) : Type 0 where
  pub covers : (q : PathOf) → is_in_two es fs q ≡ (encloses p q || is_in_two left rest q)
  pub order : IsInOrder es → IsInOrder fs → IsInOrder left × IsInOrder rest
  pub ahead : IsInOrder es → IsInOrder fs → NotAfter p left × NotAfter p rest
  pub here : (s : PathOf) → NotAfter s es → NotAfter s fs → is_gt (path_cmp s p) ≡ false
  pub still : (s : PathOf) → NotAfter s es → NotAfter s fs → NotAfter s left × NotAfter s rest
  pub fewer : suc (length left + length rest) ≡ length es + length fs

-- the last of some paths
abbrev pub last_path : List PathOf → Option PathOf
last_path [] = None
last_path (t ∷ []) = Some t
last_path (t ∷ s ∷ ts) = last_path (s ∷ ts)

-- whether a path is at or below the last of some
abbrev pub is_in_last : List PathOf → PathOf → Bool
is_in_last ts p = option_map_or (λ t. encloses t p) (last_path ts) false

-- a path after the tops, unless it is at or below one of them
pub record AddsTop (tops : List PathOf) (p : PathOf) (new : List PathOf) : Type 0 where
  pub are_tops : AreTops new
  pub covers : (q : PathOf) → is_inside new q ≡ (is_inside tops q || encloses p q)
  pub added : Bool
  pub are : new ≡ (if added then tops ++ p ∷ [] else tops)

-- the tops among the paths that were taken from two lists
pub record AreTaken {V W : Type 0} (all : List (PathOf × V)) (others : List (PathOf × W)) (es : List (PathOf × V)) (fs : List (PathOf × W)) (tops : List PathOf) : Type 0 where
  pub are_tops : AreTops tops
  pub covers : (q : PathOf) → (is_inside tops q || is_in_two es fs q) ≡ is_in_two all others q
  pub order : IsInOrder es × IsInOrder fs
  pub ahead : AreNotAfter es fs tops
