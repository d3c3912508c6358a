use Rattle.std.proofs.Common.{map, string_bytes}
use Rattle.facl_script.proofs.WordLemmas.{IsSeen}
use Rattle.facl_script.proofs.words.split_text.Given as goal

abbrev pub invariant-loop-c : goal.invariant-loop-c
invariant-loop-c l = IsSeen l.text (map string_bytes l.words.items) (string_bytes l.word) l.place l.c-iterator.rest.now
