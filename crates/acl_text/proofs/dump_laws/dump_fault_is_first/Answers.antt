use Rattle.acl_text.specs.Records.{lines_of}
use Rattle.acl_text.proofs.DumpFaults.{reported_is_first, first_is_reported}
use Rattle.acl_text.proofs.dump_laws.dump_fault_is_first.Goals as goal

pub returns : goal.returns
returns c = λ naming dump_use bytes fault. (reported_is_first naming dump_use (lines_of bytes) fault, first_is_reported naming dump_use (lines_of bytes) fault)
