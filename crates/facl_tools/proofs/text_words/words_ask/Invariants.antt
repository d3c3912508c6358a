use Rattle.std.proofs.Common.{◌≡◌, ℕ, List, drop, take}
use Rattle.facl_tools.specs.Beginning.{first_bytes}
use Rattle.facl_tools.specs.TextWords.{words_ask}
use Rattle.facl_script.proofs.WordLemmas.{IsSeen}
use Rattle.facl_tools.proofs.TextWordLemmas.{none_done}
use Rattle.facl_tools.proofs.text_words.words_ask.Given as goal

abbrev pub invariant-loop-b : goal.invariant-loop-b
invariant-loop-b l = record {
  done : List (List ℕ);
  word : List ℕ;
  seen : IsSeen l.line done word l.place (drop l.b-index l.line);
  beginning : first_bytes l.beginning ≡ take 16 word;
  first : l.is_first ≡ none_done done;
  takes : l.takes ≡ words_ask done;
}
