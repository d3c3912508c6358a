use Rattle.std.proofs.Common.{◌≡◌, ◌++◌, take}
use Rattle.std.specs.List.{flat_map}
use Rattle.facl_output.specs.TestListing.{default_entry}
use Rattle.facl_output.proofs.test_listing.push_default_entries.Given as goal

abbrev pub invariant-loop-entry : goal.invariant-loop-entry
invariant-loop-entry g l = l.text.items ≡ l.initial.text.items ++ flat_map (default_entry (g.N.Names.naming l.names)) (take l.entry-index l.entries)
