use Rattle.std.proofs.Common.{◌≡◌, ◌++◌, map, length}
use Rattle.acl_tree.specs.Walks.{within}
use Rattle.acl_tree.proofs.files.Files.within.Given as goal

abbrev pub invariant-loop-file : goal.invariant-loop-file
invariant-loop-file l = l.paths.items ++ map (λ e. e.0) l.rest ≡ within l.path l.self.files

abbrev pub decreases-loop-file : goal.decreases-loop-file
decreases-loop-file l = length l.rest
