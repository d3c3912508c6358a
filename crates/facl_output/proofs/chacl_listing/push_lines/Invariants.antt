use Rattle.std.proofs.Common.{◌≡◌, ◌++◌, take}
use Rattle.facl_output.specs.ChaclListings.{chacl_listing}
use Rattle.facl_output.specs.AfterPaths.{after_chacl_path}
use Rattle.facl_output.specs.KeptTexts.{AreKept}
use Rattle.facl_output.proofs.chacl_listing.push_lines.Given as goal

abbrev pub invariant-loop-file : goal.invariant-loop-file
invariant-loop-file g l =
    let naming = g.N.Names.naming l.names in
    record {
      text : l.text.items ≡ l.initial.text.items ++ chacl_listing naming (take l.file-index l.files);
      kept : AreKept (after_chacl_path naming) l.kept;
    }
