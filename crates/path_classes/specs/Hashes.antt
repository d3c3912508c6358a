-- Hashes of numbers.
use Rattle.std.specs.Prelude.{ℕ, ◌*◌, ◌^◌, ◌%◌, bit_xor}
use Rattle.std.specs.Int.{rotate_left}
use mir.Syntax.{w64}

-- a hash with a number worked into it
unfoldable pub mixed : ℕ → ℕ → ℕ
mixed hash number = rotate_left w64 ((bit_xor hash number * 11400714819323198485) % 2 ^ 64) 29
