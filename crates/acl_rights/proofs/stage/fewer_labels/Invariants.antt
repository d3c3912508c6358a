use Rattle.std.proofs.Common.{◌≡◌, ◌+◌, ◌++◌, map, length}
use Rattle.acl_rights.specs.KindRows.{with_label}
use Rattle.acl_rights.specs.Lines.{labels_of}
use Rattle.acl_rights.proofs.stage.fewer_labels.Given as goal

abbrev pub invariant-loop-file : goal.invariant-loop-file
invariant-loop-file l = record {
  all : map with_label l.labels.items ++ labels_of l.rest ≡ labels_of l.fn.files;
  long : length l.labels.items + length l.rest ≡ length l.fn.files;
}

abbrev pub decreases-loop-file : goal.decreases-loop-file
decreases-loop-file l = length l.rest
