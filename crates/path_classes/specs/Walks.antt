-- For inner functions: entries in path order, and the nearest above a path.
use Rattle.std.specs.Prelude.{◌≡◌, false, List, [], ◌∷◌, Option, Some, None, if◌then◌else◌}
use Rattle.std.specs.declared.cmp.Ordering.TheVariants.{Less}
use Rattle.std.specs.List.{AllByRecursion}
use Rattle.std.specs.Ordering.{is_gt}
use Rattle.acl_names.specs.Paths.{path_cmp, PathOf}
use Rattle.acl_names.specs.Below.{is_above}

-- the last of these above a path, else what is given
abbrev pub nearest_from : {A : Type 0} → Option A → PathOf → List (PathOf × A) → Option A
nearest_from o p [] = o
nearest_from o p (e ∷ es) = nearest_from (if is_above e.0 p then Some e.1 else o) p es

abbrev pub nearest : {A : Type 0} → PathOf → List (PathOf × A) → Option A
nearest p es = nearest_from None p es

-- the last of these, else what is given
abbrev pub last_from : {A : Type 0} → Option A → List (PathOf × A) → Option A
last_from o [] = o
last_from o (e ∷ es) = last_from (Some e.1) es

abbrev pub last_of : {A : Type 0} → List (PathOf × A) → Option A
last_of es = last_from None es

-- what is left of a stack of entries once those that are not above a path are taken off its end
pub record IsLeftAbove {A : Type 0} (p : PathOf) (stack rest : List (PathOf × A)) : Type 0 where
  pub kept : (q : PathOf) → is_gt (path_cmp p q) ≡ false → nearest q rest ≡ nearest q stack
  pub top : last_of rest ≡ nearest p stack

abbrev pub AllBefore : {A : Type 0} → PathOf → List (PathOf × A) → Type 0
AllBefore p es = AllByRecursion (λ e. path_cmp e.0 p ≡ Less) es

-- a path is not before the first of some entries; none is where there is none
abbrev pub IsFrom : {A : Type 0} → PathOf → List (PathOf × A) → Type 0
IsFrom p [] = ⊥
IsFrom p (e ∷ es) = is_gt (path_cmp e.0 p) ≡ false
