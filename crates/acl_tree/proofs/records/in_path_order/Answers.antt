use Rattle.std.proofs.Common.{rules}
use Rattle.std.proofs.lemmas.Fn.{always_returns_same}
use Rattle.acl_tree.proofs.SortedRecords.{is_before, by_paths, sorted_are}
use Rattle.acl_tree.proofs.records.in_path_order.Goals as goal

pub returns : goal.returns
returns c =
    sorted_are c.args.records.items c.sort_unstable_by.new.self.items c.requires
    (c.sort_unstable_by.ensures.sorted is_before by_paths (always_returns_same _ _ _ (λ a r f k. search rules)))
    c.sort_unstable_by.ensures.permutation
