-- Search along paths, in a table: a verdict counts where each recorded directory above grants execute.
use Rattle.std.specs.Prelude.{ℕ, suc, ◌||◌, not, Bool, true, false, List, [], ◌∷◌, map, slice_get, Option, option_and_then, if◌then◌else◌}
use Rattle.std.specs.List.{list_all}
use Rattle.std.specs.Option.{option_map_or}
use Rattle.std.specs.FinMap.{find}
use Rattle.acl_entry.specs.Perms.{Perms}
use Rattle.acl_entry.specs.Check.{has}
use Rattle.acl_names.specs.Paths.{path_cmp, PathOf}
use Rattle.acl_names.specs.Below.{is_above}
use Rattle.path_classes.specs.Rows.{Rows}

abbrev pub execute : Perms
execute = record { read = false; write = false; execute = true }

-- whether a row lets a user search
abbrev pub can_search : ℕ → List ℕ → Bool
can_search user cells = option_map_or (λ c. has c execute) (slice_get cells user) false

-- whether each row above a path lets a user search
abbrev pub passes_in : Rows → ℕ → PathOf → Bool
passes_in rows user p = list_all (λ r. not (is_above r.0 p) || can_search user r.1) rows

-- what is left of a user's verdict: all of it, or nothing
abbrev pub reach_cell : Rows → ℕ → PathOf → ℕ → ℕ
reach_cell rows user p c = if passes_in rows user p then c else 0

-- what is left of a row, its first user being n
abbrev pub reached_from : Rows → PathOf → ℕ → List ℕ → List ℕ
reached_from rows p n [] = []
reached_from rows p n (c ∷ cells) = reach_cell rows n p c ∷ reached_from rows p (suc n) cells

-- what users may do with files that they can reach, in place of the verdicts on the files alone
abbrev pub reached_rows : Rows → Rows
reached_rows rows = map (λ r. (r.0, reached_from rows r.0 0 r.1)) rows

abbrev pub reached_at : Rows → ℕ → PathOf → Option ℕ
reached_at rows user p = option_and_then (λ cells. slice_get cells user) (find path_cmp p (reached_rows rows))

-- the rows, or what is left of them where search on the directories above is needed too
abbrev pub rows_along : Bool → Rows → Rows
rows_along along rows = if along then reached_rows rows else rows
