use Rattle.std.proofs.Common.{◌≡◌, ◌++◌, take}
use Rattle.facl_output.specs.AttrListings.{attr_listing}
use Rattle.facl_output.proofs.attr_listing.push_files.Given as goal

abbrev pub invariant-loop-file : goal.invariant-loop-file
invariant-loop-file l = l.text.items ≡ l.initial.text.items ++ attr_listing (take l.file-index l.files)
