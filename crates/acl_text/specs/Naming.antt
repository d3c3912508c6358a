-- Who is who: the ids that names are looked up as, and the names that ids are printed as.
use Rattle.std.specs.Prelude.{ℕ, List, Option, None}

pub record Naming : Type 0 where
  pub user_id : List ℕ → Option ℕ
  pub group_id : List ℕ → Option ℕ
  pub user_name : ℕ → Option (List ℕ)
  pub group_name : ℕ → Option (List ℕ)

-- no user and no group has a name
abbrev pub no_names : Naming
no_names = record { user_id = λ name. None; group_id = λ name. None; user_name = λ id. None; group_name = λ id. None }
