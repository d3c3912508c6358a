use Rattle.acl_names.proofs.Bytes.{all_bytes}
use Rattle.acl_people.proofs.accounts.new_row.Goals as goal

pub returns-clause-bytes : goal.returns-clause-bytes
returns-clause-bytes c = all_bytes c.args.name.now c.type_inv.name
