-- Permissions fields (setfacl(1), "ACL entries").
use Rattle.std.specs.Prelude.{ℕ, ◌-◌, List, [], ◌∷◌, Bool, false, ◌&&◌, ◌||◌, ◌==◌, if◌then◌else◌, Option, Some, None}
use Rattle.std.specs.List.{list_all, list_any}
use Rattle.acl_entry.specs.Perms.{Perms, numbered}
use Rattle.acl_names.specs.Names.{is_octal}
use Rattle.acl_text.specs.declared.entries.PermSpec.{PermSpec}

-- r, w, x and -, and X where it is taken
abbrev pub is_letter : Bool → ℕ → Bool
is_letter takes_x b = (b == 114) || ((b == 119) || ((b == 120) || ((b == 45) || (takes_x && (b == 88)))))

abbrev pub holds : ℕ → List ℕ → Bool
holds letter field = list_any (λ b. b == letter) field

abbrev pub letter_set : List ℕ → Perms
letter_set field = record { read = holds 114 field; write = holds 119 field; execute = holds 120 field }

abbrev pub letters_of : Bool → List ℕ → Option PermSpec
letters_of takes_x field =
    if list_all (is_letter takes_x) field then Some (record { fixed = letter_set field; cond_x = holds 88 field }) else None

-- one digit 0 to 7, or letters in any order, or nothing
abbrev pub perms_of : Bool → List ℕ → Option PermSpec
perms_of takes_x [] = letters_of takes_x []
perms_of takes_x (b ∷ []) = if is_octal 7 b then Some (record { fixed = numbered (b - 48); cond_x = false }) else letters_of takes_x (b ∷ [])
perms_of takes_x (b ∷ c ∷ bs) = letters_of takes_x (b ∷ c ∷ bs)
