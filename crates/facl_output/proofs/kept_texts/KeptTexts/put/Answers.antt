use Rattle.std.proofs.Common.{Some}
use Rattle.std.proofs.lemmas.List.Elements.{All-set}
use Rattle.facl_output.specs.KeptTexts.{IsKept}
use Rattle.facl_output.proofs.kept_texts.KeptTexts.put.Goals as goal

pub returns : goal.returns
returns c = λ text_of all one.
    All-set (IsKept text_of c.args.self.now.bytes.items) c.args.self.now.places.items c.in-Some.place (Some c.args.kept) one all
