-- USER and GROUP words.
use Rattle.std.specs.Prelude.{ℕ, List, Option, if◌then◌else◌}
use Rattle.acl_names.specs.Names.{decoded}
use Rattle.acl_text.specs.Blanks.{trimmed}
use Rattle.acl_text.specs.Ids.{is_number, id_of}

-- a name of digits alone is always a number, any other is looked up
abbrev pub named_id : (List ℕ → Option ℕ) → List ℕ → Option ℕ
named_id look_up name = if is_number name then id_of name else look_up name

-- the id that a word means, if any: it is trimmed, then decoded
abbrev pub word_id : (List ℕ → Option ℕ) → List ℕ → Option ℕ
word_id look_up word = named_id look_up (decoded (trimmed word))
