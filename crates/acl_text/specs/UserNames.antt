-- Names that new users may have.
use Rattle.std.specs.Prelude.{ℕ, List, length, Bool, not, ◌==◌, ◌&&◌, ◌||◌}
use Rattle.std.specs.List.{list_any}
use Rattle.acl_text.specs.Ids.{is_number}

-- a colon, a comma, a line feed and NUL end a field, a name among others, a row or a text
abbrev pub cuts_row : ℕ → Bool
cuts_row b = b == 58 || b == 44 || b == 10 || b == 0

-- not empty, not digits alone, and a field of a row
abbrev pub is_user_name : List ℕ → Bool
is_user_name name = not (length name == 0) && not (is_number name) && not (list_any cuts_row name)
