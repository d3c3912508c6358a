-- A file that is put among others, and a test of what is made of files.
use Rattle.std.proofs.Common.{List}
use Rattle.std.specs.FinMap.{put}
use Rattle.std.specs.FinMap.Entries.{is_sorted-put}
use Rattle.acl_names.specs.Paths.{path_cmp, PathOf}
use Rattle.acl_names.proofs.PathOrder.{path_total}
use Rattle.acl_names.proofs.Basics.{from_T, to_T}
use Rattle.path_map.specs.Entries.{IsInOrder}

pub in_order-put : {V : Type 0} (p : PathOf) (n : V) (es : List (PathOf × V)) → IsInOrder es → IsInOrder (put path_cmp p n es)
in_order-put p n es h = from_T _ (is_sorted-put path_cmp path_total p n es (to_T _ h))
