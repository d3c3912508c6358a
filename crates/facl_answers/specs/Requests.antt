-- Requests as they are listed, and the line that `can` prints of them.
use Rattle.std.specs.Prelude.{ℕ, Bool, if◌then◌else◌, List, [], ◌∷◌, ◌++◌, map, filter, codes}
use Rattle.std.specs.List.{flat_map}
use Rattle.acl_entry.specs.Perms.{Perms, numbered, text}
use Rattle.acl_entry.specs.Check.{has}

-- the requests other than none that are granted, in rising number
abbrev pub requests_granted : ℕ → List Perms
requests_granted granted = filter (has granted) (map numbered (1 ∷ 2 ∷ 3 ∷ 4 ∷ 5 ∷ 6 ∷ 7 ∷ []))

abbrev pub after_space : Perms → List ℕ
after_space request = 32 ∷ text request

-- a request, after a space where it is not the first
abbrev pub request_text : Bool → Perms → List ℕ
request_text is_first request = if is_first then text request else after_space request

-- the requests with a space between each two, or `none`
abbrev pub requests_text : List Perms → List ℕ
requests_text [] = codes "none"
requests_text (request ∷ requests) = text request ++ flat_map after_space requests

abbrev pub requests_line : ℕ → List ℕ
requests_line granted = requests_text (requests_granted granted) ++ 10 ∷ []
