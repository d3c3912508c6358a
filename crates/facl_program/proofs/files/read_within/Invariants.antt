use Rattle.std.proofs.Common.{◌≡◌, false, true, ◌+◌, ◌-◌, ◌≤◌, vec_len}
use Rattle.facl_program.specs.FileStores.{Loses}
use Rattle.facl_program.specs.Files.{file_limit}
use Rattle.facl_program.proofs.files.read_within.Given as goal

abbrev pub invariant-loop-text : goal.invariant-loop-text
invariant-loop-text g l = record {
  within : vec_len l.text ≤ file_limit;
  lost : Loses (g.S.FileStore.left l.fn.store) (g.S.FileStore.left l.store) l.text.items;
  works : g.S.FileStore.has_failed l.store ≡ false;
  is_open : g.S.FileStore.is_open l.store ≡ true;
  same : g.S.FileStore.bytes_of l.store ≡ g.S.FileStore.bytes_of l.fn.store;
}

abbrev pub decreases-loop-text : goal.decreases-loop-text
decreases-loop-text g l = file_limit + 1 - vec_len l.text
