use Rattle.acl_entry.proofs.LinuxModes.{list_or_mode}
use Rattle.acl_entry.proofs.linux.linux_checks_the_list_or_the_mode.Goals as goal

pub returns : goal.returns
returns c = list_or_mode
