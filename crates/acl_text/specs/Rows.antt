-- The rows of passwd(5) and group(5).
use Rattle.std.specs.Prelude.{ℕ, List, [], ◌∷◌, ◌++◌, length, Bool, true, ◌==◌, nat_le, nat_lt, if◌then◌else◌, Option, Some, None, Result, Ok, Err, filter, option_map, option_and_then}
use Rattle.std.specs.List.{list_any}
use Rattle.std.specs.Str.{bytes_eq}
use Rattle.acl_names.specs.Pieces.{pieces}
use Rattle.acl_text.specs.declared.fault.FaultKind.{FaultKind}
use Rattle.acl_text.specs.declared.fault.FaultKind.TheVariants.{BadRow, TooMany}
use Rattle.acl_text.specs.declared.fault.TextFault.{TextFault}
use Rattle.acl_text.specs.declared.rows.PasswdRow.{PasswdRow}
use Rattle.acl_text.specs.declared.rows.GroupRow.{GroupRow}
use Rattle.acl_text.specs.InTurn.{read_each}
use Rattle.acl_text.specs.Ids.{id_of}

-- passwd(5): name, password, uid, gid, gecos, home, shell
abbrev pub passwd_row : List (List ℕ) → Option PasswdRow
passwd_row (name ∷ password ∷ uid ∷ gid ∷ gecos ∷ home ∷ shell ∷ []) =
    if length name == 0 then None
    else option_and_then (λ u. option_map (λ g. record { name = name; uid = u; gid = g }) (id_of gid)) (id_of uid)
passwd_row _ = None

-- the names between commas, without empty ones
abbrev pub names_of : List ℕ → List (List ℕ)
names_of field = filter (λ name. nat_lt 0 (length name)) (pieces 44 field)

-- group(5): name, password, gid, names
abbrev pub group_row : List (List ℕ) → Option GroupRow
group_row (name ∷ password ∷ gid ∷ names ∷ []) =
    if length name == 0 then None
    else option_map (λ g. record { name = name; gid = g; names = names_of names }) (id_of gid)
group_row _ = None

-- an empty line and a line that begins with # are ignored
abbrev pub has_no_content : List ℕ → Bool
has_no_content [] = true
has_no_content (b ∷ bs) = b == 35

-- a row of this name came before
abbrev pub is_repeated : {R : Type 0} → (R → List ℕ) → List R → List ℕ → Bool
is_repeated name_of rows name = list_any (λ r. bytes_eq (name_of r) name) rows

-- the most rows that are counted
abbrev pub most_rows : ℕ
most_rows = 65536

-- the first row of a name is counted, and at most `most_rows` are
abbrev pub counted : {R : Type 0} → (R → List ℕ) → List R → Option R → Result (List R) FaultKind
counted name_of rows None = Err BadRow
counted name_of rows (Some row) =
    if is_repeated name_of rows (name_of row) then Ok rows
    else (if nat_le most_rows (length rows) then Err TooMany else Ok (rows ++ row ∷ []))

-- the counted rows, once a line is read too
abbrev pub one_line : {R : Type 0} → (R → List ℕ) → (List (List ℕ) → Option R) → List R → List ℕ → Result (List R) FaultKind
one_line name_of row_of rows line = if has_no_content line then Ok rows else counted name_of rows (row_of (pieces 58 line))

-- the counted rows of a text, or its first fault
abbrev pub rows_of : {R : Type 0} → (R → List ℕ) → (List (List ℕ) → Option R) → List ℕ → Result (List R) TextFault
rows_of name_of row_of bytes = read_each (λ at rows line. one_line name_of row_of rows line) [] (pieces 10 bytes)

abbrev pub passwd_name : PasswdRow → List ℕ
passwd_name row = row.name

abbrev pub passwd_line : ℕ → List PasswdRow → List ℕ → Result (List PasswdRow) FaultKind
passwd_line at rows line = one_line passwd_name passwd_row rows line

-- the counted rows of a passwd text, or its first fault
abbrev pub passwd_of : List ℕ → Result (List PasswdRow) TextFault
passwd_of bytes = read_each passwd_line [] (pieces 10 bytes)

abbrev pub group_name : GroupRow → List ℕ
group_name row = row.name

abbrev pub group_line : ℕ → List GroupRow → List ℕ → Result (List GroupRow) FaultKind
group_line at rows line = one_line group_name group_row rows line

-- the counted rows of a group text, or its first fault
abbrev pub group_of : List ℕ → Result (List GroupRow) TextFault
group_of bytes = read_each group_line [] (pieces 10 bytes)
