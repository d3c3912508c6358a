use Rattle.std.proofs.Common.{◌≡◌, ℕ, ◌+◌, ◌/◌, length, sym, ◌∙◌, arith}
use Rattle.std.specs.Int.{div_ceil}
use Rattle.acl_text.proofs.Chunks.{length-first_chunks}
use Rattle.acl_text.proofs.decode.entry_count.Goals as goal

rounded : (n : ℕ) → div_ceil n 8 ≡ (n + 7) / 8
rounded n = omega arith

pub returns-clause-count : goal.returns-clause-count
returns-clause-count c = c.div_ceil.ensures ∙ (rounded (length c.args.bytes.now) ∙ sym (length-first_chunks ((length c.args.bytes.now + 7) / 8) c.args.bytes.now))
