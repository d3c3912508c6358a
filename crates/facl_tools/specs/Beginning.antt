-- The first bytes of a word, as they are kept. It is for inner functions: no contract of a public one names it.
use Rattle.std.specs.Prelude.{ℕ, List, take}
use Rattle.facl_tools.specs.declared.text_words.Beginning.{Beginning}

abbrev pub first_bytes : Beginning → List ℕ
first_bytes b = take b.len b.bytes
