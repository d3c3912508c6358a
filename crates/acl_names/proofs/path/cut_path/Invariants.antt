use Rattle.std.proofs.Common.{◌≡◌, ◌++◌, length}
use Rattle.std.specs.List.{list_any}
use Rattle.acl_names.specs.Packed.{IsPacked, unpacked}
use Rattle.acl_names.specs.Pieces.{pieces}
use Rattle.acl_names.specs.Paths.{is_refused, components_of}
use Rattle.acl_names.proofs.path.cut_path.Given as goal

abbrev pub invariant-loop-rest : goal.invariant-loop-rest
invariant-loop-rest l = record {
  refused : list_any is_refused (pieces 47 l.rest) ≡ list_any is_refused (pieces 47 l.fn.bytes);
  are : IsPacked l.packed;
  kept : unpacked l.packed ++ components_of (pieces 47 l.rest) ≡ components_of (pieces 47 l.fn.bytes);
}

abbrev pub decreases-loop-rest : goal.decreases-loop-rest
decreases-loop-rest l = length l.rest
