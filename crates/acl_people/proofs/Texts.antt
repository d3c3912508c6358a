-- The names that passwd(5) and group(5) texts give.
use Rattle.std.proofs.Common.{◌≡◌, ℕ, ◌<◌, Bool, true, false, eqb, List, [], ◌∷◌, length, map, Option, Some, None, option_map, option_and_then, Ok, if◌then◌else◌, refl, sym, ap, subst, arith}
use Rattle.std.specs.List.{list_all}
use Rattle.std.proofs.lemmas.Bool.{and_parts}
use Rattle.acl_names.specs.Pieces.{pieces, is_byte}
use Rattle.acl_names.proofs.Basics.{none_is_not_some, some_eq}
use Rattle.acl_text.specs.declared.rows.PasswdRow.{PasswdRow}
use Rattle.acl_text.specs.declared.rows.GroupRow.{GroupRow}
use Rattle.acl_text.specs.Ids.{id_of}
use Rattle.acl_text.specs.Rows.{passwd_row, group_row, passwd_of, group_of, passwd_name, group_name, names_of}
use Rattle.acl_people.specs.NameTables.{AreCounted}
use Rattle.acl_people.specs.Entries.{user_entry, group_entry}
use Rattle.acl_people.proofs.Bytes.{are_texts, pieces_made}
use Rattle.acl_people.proofs.Counted.{IsNameText, none_counted, reads_keep}

nonzero : (n : List ℕ) → eqb (length n) 0 ≡ false → 0 < length n
nonzero [] h = cc
nonzero (x ∷ xs) h = omega arith

first_text : (n : List ℕ) (ns : List (List ℕ)) → are_texts (n ∷ ns) ≡ true → eqb (length n) 0 ≡ false → IsNameText n
first_text n ns made some = record { filled = nonzero n some; made_of_bytes = (and_parts (list_all is_byte n) (are_texts ns) made).0 }

user_made : (n : List ℕ) (row : PasswdRow) (ou og : Option ℕ) → option_and_then (λ u. option_map (λ g. let r : PasswdRow = record { name = n; uid = u; gid = g } in r) og) ou ≡ Some row → row.name ≡ n
user_made n row None og h = absurd (none_is_not_some row h)
user_made n row (Some u) None h = absurd (none_is_not_some row h)
user_made n row (Some u) (Some g) h = ap (λ (r : PasswdRow). r.name) (sym (some_eq _ row h))

group_made : (n : List ℕ) (names : List (List ℕ)) (row : GroupRow) (og : Option ℕ) → option_map (λ g. let r : GroupRow = record { name = n; gid = g; names = names } in r) og ≡ Some row → row.name ≡ n
group_made n names row None h = absurd (none_is_not_some row h)
group_made n names row (Some g) h = ap (λ (r : GroupRow). r.name) (sym (some_eq _ row h))

passwd_text : (fields : List (List ℕ)) → are_texts fields ≡ true → (row : PasswdRow) → passwd_row fields ≡ Some row → IsNameText row.name
passwd_text (n ∷ password ∷ uid ∷ gid ∷ gecos ∷ home ∷ shell ∷ []) made row is = by (eqb (length n) 0) refl is
  where
    by : (b : Bool) → eqb (length n) 0 ≡ b
        → (if b then None else option_and_then (λ u. option_map (λ g. let r : PasswdRow = record { name = n; uid = u; gid = g } in r) (id_of gid)) (id_of uid)) ≡ Some row → IsNameText row.name
    by true e h = absurd (none_is_not_some row h)
    by false e h = subst IsNameText (sym (user_made n row (id_of uid) (id_of gid) h)) (first_text n (password ∷ uid ∷ gid ∷ gecos ∷ home ∷ shell ∷ []) made e)
passwd_text _ made row is = absurd (none_is_not_some row is)

group_text : (fields : List (List ℕ)) → are_texts fields ≡ true → (row : GroupRow) → group_row fields ≡ Some row → IsNameText row.name
group_text (n ∷ password ∷ gid ∷ names ∷ []) made row is = by (eqb (length n) 0) refl is
  where
    by : (b : Bool) → eqb (length n) 0 ≡ b
        → (if b then None else option_map (λ g. let r : GroupRow = record { name = n; gid = g; names = names_of names } in r) (id_of gid)) ≡ Some row → IsNameText row.name
    by true e h = absurd (none_is_not_some row h)
    by false e h = subst IsNameText (sym (group_made n (names_of names) row (id_of gid) h)) (first_text n (password ∷ gid ∷ names ∷ []) made e)
group_text _ made row is = absurd (none_is_not_some row is)

pub passwd_counted : (bytes : List ℕ) (rows : List PasswdRow) → list_all is_byte bytes ≡ true → passwd_of bytes ≡ Ok rows → AreCounted (map user_entry rows)
passwd_counted bytes rows made is = reads_keep passwd_name (λ row. row.uid) passwd_row passwd_text 1 [] rows (pieces 10 bytes) (pieces_made 10 bytes made) none_counted is

pub group_counted : (bytes : List ℕ) (rows : List GroupRow) → list_all is_byte bytes ≡ true → group_of bytes ≡ Ok rows → AreCounted (map group_entry rows)
group_counted bytes rows made is = reads_keep group_name (λ row. row.gid) group_row group_text 1 [] rows (pieces 10 bytes) (pieces_made 10 bytes made) none_counted is
