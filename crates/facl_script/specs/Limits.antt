-- The limits of a script, in bytes.
use Rattle.std.specs.Prelude.{ℕ}

-- how many bytes a script may have: 64 MiB
abbrev pub script_limit : ℕ
script_limit = 67108864

-- how many bytes a line may have, without its LF: 64 KiB
abbrev pub line_limit : ℕ
line_limit = 65536

-- how many bytes are read at once: 64 KiB
abbrev pub chunk_limit : ℕ
chunk_limit = 65536
