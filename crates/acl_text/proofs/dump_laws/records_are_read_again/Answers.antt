use Rattle.acl_text.proofs.WrittenRecords.{dump_again}
use Rattle.acl_text.proofs.dump_laws.records_are_read_again.Goals as goal

pub returns : goal.returns
returns c = λ naming dump_use records are apart. dump_again dump_use naming records are apart
