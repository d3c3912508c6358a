use Rattle.std.proofs.Common.{◌<◌, length, rules}
use Rattle.acl_text.proofs.CutBodies.{says_ends}
use Rattle.acl_text.proofs.body.ends_record.Goals as goal

pub returns-else-is_empty : goal.returns-else-is_empty
returns-else-is_empty c = let some : 0 < length c.args.text.now = search rules in says_ends c.begins_one.result c.args.text.now some c.begins_one.ensures
