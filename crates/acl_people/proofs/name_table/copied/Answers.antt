use Rattle.acl_people.proofs.NamedRows.{clones_named}
use Rattle.acl_people.proofs.name_table.copied.Goals as goal

pub returns : goal.returns
returns c = clones_named c.args.names.now.entries c.in_ok-copy.copy.entries c.in_ok-copy.ensures.cases
