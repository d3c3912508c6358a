use Rattle.std.proofs.Common.{ap, ◌∙◌}
use Rattle.acl_entry.specs.Check.{has}
use Rattle.acl_entry.specs.Linux.{linux_check}
use Rattle.acl_entry.proofs.Bytes.{has-byte_of}
use Rattle.acl_entry.proofs.Local.{linux_rights_local}
use Rattle.acl_entry.proofs.linux.granted_by_linux.Goals as goal

pub returns-clause-each : goal.returns-clause-each
returns-clause-each c = λ q. ap (λ n. has n q) c.all_granted.ensures ∙ has-byte_of (linux_check c.args.subject.now c.args.label.now) q

pub returns-clause-local : goal.returns-clause-local
returns-clause-local c = λ other agrees. c.all_granted.ensures ∙ linux_rights_local c.args.subject.now other c.args.label.now agrees
