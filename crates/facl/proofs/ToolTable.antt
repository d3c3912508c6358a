-- What is found in the table of tools.
use Rattle.std.proofs.Common.{◌≡◌, Bool, true, false, List, [], ◌∷◌, Option, Some, option_map, map, cond, refl, ap, ◌∙◌}
use Rattle.std.specs.List.{find}
use Rattle.facl.specs.Tools.{tool_named}
use Rattle.facl.specs.Units.{loads_by_name}

viewed : {A B : Type 0} (view : A → B) (p : B → Bool) (xs : List A) → option_map view (find (λ x. p (view x)) xs) ≡ find p (map view xs)
viewed view p [] = refl
viewed view p (x ∷ xs) = by (p (view x)) (viewed view p xs)
  where
    by : (b : Bool) → option_map view (find (λ x. p (view x)) xs) ≡ find p (map view xs)
        → option_map view (cond b (Some x) (find (λ x. p (view x)) xs)) ≡ cond b (Some (view x)) (find p (map view xs))
    by true more = refl
    by false more = more

-- the view of what is found is found among the views
pub found_view : {A B : Type 0} (view : A → B) (p : B → Bool) (xs : List A) {found : Option A} → found ≡ find (λ x. p (view x)) xs → option_map view found ≡ find p (map view xs)
found_view view p xs is = ap (option_map view) is ∙ viewed view p xs

-- no tool has the empty name
pub nothing_loads : false ≡ loads_by_name []
unfolding tool_named
nothing_loads = refl
