use Rattle.std.proofs.Common.{Bor, length, sym, ap, ap₂, ◌∙◌}
use Rattle.acl_names.specs.Paths.{PathOf}
use Rattle.facl_counts.specs.SumLists.{sums_kept, waits_of}
use Rattle.facl_counts.proofs.SumsApart.{no_sums, all_wait}
use Rattle.facl_counts.proofs.sums.UserSums.new.Goals as goal

pub invariant_of-result : goal.invariant_of-result
invariant_of-result c = c.in_ok-waits.ensures ∙ all_wait (Bor PathOf) (length c.args.names.now) ∙ ap waits_of (sym c.in_ok-firsts.ensures)

pub returns : goal.returns
returns c = ap₂ sums_kept c.in_ok-counts.ensures c.in_ok-firsts.ensures ∙ no_sums c.args.names.now
