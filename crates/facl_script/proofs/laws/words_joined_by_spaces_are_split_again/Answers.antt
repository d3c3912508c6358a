use Rattle.facl_script.proofs.WrittenLemmas.{has_joined}
use Rattle.facl_script.proofs.laws.words_joined_by_spaces_are_split_again.Goals as goal

pub returns : goal.returns
returns c = λ words are. has_joined words are
