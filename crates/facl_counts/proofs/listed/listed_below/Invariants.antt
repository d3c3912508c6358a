use Rattle.std.proofs.Common.{◌≡◌, take}
use Rattle.path_classes.specs.ClassesWithin.{paths_seen, inside}
use Rattle.facl_counts.specs.Listed.{listed_in}
use Rattle.facl_counts.proofs.listed.listed_below.Given as goal

abbrev pub invariant-loop-top : goal.invariant-loop-top
invariant-loop-top g l =
    l.found.items ≡ take l.listing.most
    (listed_in g.J.Judge.verdict_of l.verdicts.along l.verdicts.state.now l.listing (inside (paths_seen (take l.top-index l.tops)) l.verdicts.state.now.tree.files))
