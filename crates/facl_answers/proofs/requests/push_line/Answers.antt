use Rattle.std.proofs.Common.{◌∷◌, []}
use Rattle.facl_answers.specs.Requests.{requests_granted, requests_text}
use Rattle.facl_output.proofs.Parts.{appends_last}
use Rattle.facl_answers.proofs.requests.push_line.Goals as goal

pub returns : goal.returns
returns c =
    appends_last c.end_line.result c.args.text.now c.push_requests.new.text c.end_line.new.text (requests_text (requests_granted c.args.granted))
    (10 ∷ []) c.in_ok-push_requests.ensures c.end_line.ensures
