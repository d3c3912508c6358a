-- Octal modes: chmod(1), umask(1).
use Rattle.std.specs.Prelude.{ℕ, ◌+◌, ◌*◌, ◌-◌, ◌==◌, ◌&&◌, ◌||◌, Bool, [], ◌∷◌, if◌then◌else◌, length, nat_le, nat_lt, Option, None, Some}
use Rattle.std.specs.List.{list_all, slice_index_or}
use Rattle.acl_names.specs.Names.{is_octal}
use Rattle.facl_script.specs.Forms.{Text}

-- one to four octal digits
abbrev pub is_mode : Text → Bool
is_mode t = nat_lt 0 (length t) && nat_le (length t) 4 && list_all (is_octal 7) t

-- the number that octal digits write after those of a number
abbrev pub octal_after : ℕ → Text → ℕ
octal_after n [] = n
octal_after n (digit ∷ digits) = octal_after (8 * n + (digit - 48)) digits

-- the mode that a word writes
abbrev pub mode_of : Text → Option ℕ
mode_of text = if is_mode text then Some (octal_after 0 text) else None

-- the first of four digits is 0
abbrev pub starts_with_zero : Text → Bool
starts_with_zero t = nat_lt (length t) 4 || slice_index_or t 0 0 == 48

-- the mode that a word writes, where it is at most 0777
abbrev pub permission_mode_of : Text → Option ℕ
permission_mode_of text = if starts_with_zero text then mode_of text else None
