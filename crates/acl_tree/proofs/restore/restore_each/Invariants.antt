use Rattle.std.proofs.Common.{◌≡◌, ◌++◌, length, Err}
use Rattle.kinds.specs.Numbered.{entries_in}
use Rattle.acl_tree.specs.Files.{Files}
use Rattle.acl_tree.specs.declared.edit.FileFault.{FileFault}
use Rattle.acl_tree.specs.Inner.{restored, restore_each, SomeEdited, paths_in}
use Rattle.acl_tree.proofs.restore.restore_each.Given as goal

abbrev pub invariant-loop-rest : goal.invariant-loop-rest
invariant-loop-rest l = record {
  before : l.puts.0 ≡ entries_in l.files;
  touched : paths_in l.puts.1 ≡ l.touched.items;
  made : (ms : Files) → SomeEdited (λ x. x.0) restored l.rest ms → SomeEdited (λ x. x.0) restored l.found (l.puts.1 ++ ms);
  refused : (fault : FileFault) → restore_each l.rest ≡ Err fault → restore_each l.found ≡ Err fault;
}

abbrev pub decreases-loop-rest : goal.decreases-loop-rest
decreases-loop-rest l = length l.rest
