use Rattle.std.proofs.Common.{◌≡◌, ◌<◌, ℕ, List, true, length}
use Rattle.std.specs.List.{list_all}
use Rattle.facl_tools.specs.Modes.{octal_after}
use Rattle.acl_names.specs.Names.{is_octal}
use Rattle.facl_tools.proofs.Modes.{room}
use Rattle.facl_tools.proofs.mode.octal_number.Given as goal

pub record Reading (mode : ℕ) (rest all : List ℕ) : Type 0 where
  pub same : octal_after mode rest ≡ octal_after 0 all
  pub digits : list_all (is_octal 7) rest ≡ true
  pub fits : mode < room rest

abbrev pub invariant-loop-rest : goal.invariant-loop-rest
invariant-loop-rest l = Reading l.mode l.rest l.fn.digits

abbrev pub decreases-loop-rest : goal.decreases-loop-rest
decreases-loop-rest l = length l.rest
