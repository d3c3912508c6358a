use Rattle.acl_tree.specs.declared.command.Command.TheVariants as commands
use Rattle.facl_tools.specs.Operands.{name_meant}
use Rattle.facl.specs.ToolLines.{answered}
use Rattle.facl_tools.specs.Useradd.{new_user}
use Rattle.facl.proofs.CommandFaults.{done_refused}
use Rattle.facl.proofs.tools.laws.lines_are_refused_for_the_first_fault_of_their_command.Goals as goal

pub returns-clause-each : goal.returns-clause-each
returns-clause-each c s command order = done_refused s command (c.commands_are_refused_for_their_first_fault.ensures s command order)

pub returns-clause-load : goal.returns-clause-load
unfolding answered
returns-clause-load c judge loaded s line bytes order =
    done_refused s (commands.Load line.table bytes) (c.commands_are_refused_for_their_first_fault.ensures s (commands.Load line.table bytes) order)

pub returns-clause-gpasswd : goal.returns-clause-gpasswd
unfolding answered
returns-clause-gpasswd c judge loaded s line text order =
    done_refused s (commands.Gpasswd (name_meant line.user) (name_meant line.group) line.change)
    (c.commands_are_refused_for_their_first_fault.ensures s (commands.Gpasswd (name_meant line.user) (name_meant line.group) line.change) order)

pub returns-clause-usermod : goal.returns-clause-usermod
unfolding answered
returns-clause-usermod c judge loaded s line text order =
    done_refused s (commands.Usermod (name_meant line.user) (name_meant line.group))
    (c.commands_are_refused_for_their_first_fault.ensures s (commands.Usermod (name_meant line.user) (name_meant line.group)) order)

pub returns-clause-useradd : goal.returns-clause-useradd
unfolding answered
returns-clause-useradd c judge loaded s line text order =
    done_refused s (commands.Useradd (new_user line)) (c.commands_are_refused_for_their_first_fault.ensures s (commands.Useradd (new_user line)) order)

pub returns-clause-userdel : goal.returns-clause-userdel
unfolding answered
returns-clause-userdel c judge loaded s line text order =
    done_refused s (commands.Userdel (name_meant line.user)) (c.commands_are_refused_for_their_first_fault.ensures s (commands.Userdel (name_meant line.user)) order)
