-- The lines of a dump, as getfacl(1) writes them and setfacl(1) --restore reads them.
use Rattle.std.specs.Prelude.{ℕ, List, [], ◌∷◌, drop, Bool, true, false, ◌==◌, nat_eq, if◌then◌else◌, codes}
use Rattle.std.specs.List.{starts_with}
use Rattle.acl_text.specs.declared.entries.Sep.TheVariants.{Line}
use Rattle.acl_text.specs.Blanks.{trim_front, trimmed}
use Rattle.acl_text.specs.Entries.{content}
use Rattle.acl_text.specs.declared.line.LineKind.{LineKind}
use Rattle.acl_text.specs.declared.line.LineKind.TheVariants.{Nothing, File, Owner, OwningGroup, Flags, Entry}

abbrev pub begins_with : List ℕ → List ℕ → Bool
begins_with text word = starts_with nat_eq text word

-- the value of `file:`, without one space if it begins with one
abbrev pub without_space : List ℕ → List ℕ
without_space [] = []
without_space (b ∷ bs) = if b == 32 then bs else b ∷ bs

-- what follows `#` and white space: a header with its value, or a comment
abbrev pub header_of : List ℕ → LineKind × List ℕ
header_of text =
    if begins_with text (codes "file:") then (File, without_space (drop 5 text))
    else (if begins_with text (codes "owner:") then (Owner, trimmed (drop 6 text))
    else (if begins_with text (codes "group:") then (OwningGroup, trimmed (drop 6 text))
    else (if begins_with text (codes "flags:") then (Flags, trimmed (drop 6 text))
    else (Nothing, []))))

-- a line by what is after the white space in front: an empty line has no content
abbrev pub content_after_white_space : List ℕ → LineKind × List ℕ
content_after_white_space [] = (Nothing, [])
content_after_white_space (b ∷ bs) = if b == 35 then header_of (trim_front bs) else (Entry, content Line (b ∷ bs))

-- what a line is, and its value: that of a header, or the entry without its comment
abbrev pub content_of : List ℕ → LineKind × List ℕ
content_of line = content_after_white_space (trim_front line)

abbrev pub begins_record : LineKind → Bool
begins_record File = true
begins_record _ = false
