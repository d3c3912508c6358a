use Rattle.std.proofs.Common.{◌≡◌, ◌++◌, take}
use Rattle.facl_output.specs.Listings.{files_text}
use Rattle.facl_output.specs.AfterPaths.{after_path}
use Rattle.facl_output.specs.KeptTexts.{AreKept}
use Rattle.facl_output.proofs.listing.push_files.Given as goal

abbrev pub invariant-loop-file : goal.invariant-loop-file
invariant-loop-file g l =
    let naming = g.N.Names.naming l.names in
    record {
      text : l.text.items ≡ l.initial.text.items ++ files_text naming l.options (take l.file-index l.files);
      kept : AreKept (after_path naming l.options) l.kept;
    }
