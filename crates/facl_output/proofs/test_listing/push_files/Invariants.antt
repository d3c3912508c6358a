use Rattle.std.proofs.Common.{◌≡◌, ◌++◌, take}
use Rattle.facl_output.specs.TestListing.{test_listing}
use Rattle.facl_output.specs.AfterPaths.{after_tested_path}
use Rattle.facl_output.specs.KeptTexts.{AreKept}
use Rattle.facl_output.proofs.test_listing.push_files.Given as goal

abbrev pub invariant-loop-file : goal.invariant-loop-file
invariant-loop-file g l =
    let naming = g.N.Names.naming l.names in
    record {
      text : l.text.items ≡ l.initial.text.items ++ test_listing naming (take l.file-index l.files);
      kept : AreKept (after_tested_path naming) l.kept;
    }
