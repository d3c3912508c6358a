use Rattle.std.proofs.Common.{length}
use Rattle.std.specs.List.{AllByRecursion}
use Rattle.facl_output.specs.RoundTrips.{IsReadAgain}
use Rattle.facl_output.proofs.round_trips.files_are_read_again.Given as goal

abbrev pub invariant-loop-file : goal.invariant-loop-file
invariant-loop-file l = AllByRecursion (IsReadAgain l.people) l.files → AllByRecursion (IsReadAgain l.people) l.tree.files

abbrev pub decreases-loop-file : goal.decreases-loop-file
decreases-loop-file l = length l.files
