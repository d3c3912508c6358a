use Rattle.std.proofs.Common.{sym, ◌∙◌}
use Rattle.acl_tree.proofs.AsItIs.{stays}
use Rattle.acl_tree.proofs.restore.is_as_recorded.Goals as goal

pub returns : goal.returns
returns c = λ same.
    let ids = c.has_ids.ensures c.if-not-has_ids.false in
    let list = c.has_recorded_default.ensures same in
    stays c.args.node.now c.args.entry.now list.1 (record {
      access = sym c.get.ensures ∙ c.same.ensures.0 c.if-not-same.false;
      default = list.0;
      owner = ids.0;
      group = ids.1;
      flags = c.has_recorded_flags.ensures c.if-not-has_recorded_flags.false;
    })
