-- The numbers of users and groups.
use Rattle.std.specs.Prelude.{ℕ}

-- the greatest number of four bytes is no id
abbrev pub nobody : ℕ
nobody = 4294967295
