use Rattle.acl_text.proofs.SameBodies.{opened_is}
use Rattle.acl_text.proofs.known.read_next.Goals as goal

pub read_lines-requires-clause-opened : goal.read_lines-requires-clause-opened
read_lines-requires-clause-opened g c =
    opened_is c.args.records.now.items c.args.at c.content_of-kind.result.1.now c.in_ok-draft-in-File.draft (c.in_ok-draft-in-File.ensures c.args.records.now.items tt)
