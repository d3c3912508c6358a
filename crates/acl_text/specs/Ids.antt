-- Numbers of users and groups.
use Rattle.std.specs.Prelude.{ℕ, ◌+◌, ◌-◌, ◌*◌, List, [], ◌∷◌, length, Bool, ◌&&◌, nat_lt, if◌then◌else◌, Option, Some, None}
use Rattle.std.specs.List.{list_all}
use Rattle.std.specs.Char.{is_ascii_digit}
use Rattle.acl_entry.specs.Ids.{nobody}

-- digits alone
abbrev pub is_number : List ℕ → Bool
is_number bytes = nat_lt 0 (length bytes) && list_all is_ascii_digit bytes

-- the number that digits mean, after a number in front of them
abbrev pub number_after : ℕ → List ℕ → ℕ
number_after n [] = n
number_after n (b ∷ bs) = number_after (10 * n + (b - 48)) bs

-- the id of digits alone, if it is one
abbrev pub id_of : List ℕ → Option ℕ
id_of bytes = if is_number bytes && nat_lt (number_after 0 bytes) nobody then Some (number_after 0 bytes) else None
