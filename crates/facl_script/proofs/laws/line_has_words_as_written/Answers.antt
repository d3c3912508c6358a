use Rattle.facl_script.proofs.WrittenLemmas.{has_spelled, spells_had}
use Rattle.facl_script.proofs.laws.line_has_words_as_written.Goals as goal

pub returns : goal.returns
returns c = λ line words. (spells_had line words, has_spelled line words)
