use Rattle.kinds.specs.Puts.{borrowed}
use Rattle.acl_rights.proofs.Outside.{read_more}
use Rattle.acl_rights.proofs.changed_part.with_files.Goals as goal

pub loop-left-preserved : goal.loop-left-preserved
loop-left-preserved c =
    let top = c.in-Some.ensures in (
      c.in_ok-new.ensures.tops,
      read_more c.in_ok-new.new.items c.loop-left.new.items c.args.tops.items c.args.files c.loop-left.rest c.next_top.new.self top.more
          (borrowed c.in-Some.file) top.first top.left c.in_ok-new.ensures.holds c.in_ok-new.ensures.wider c.loop-left.invariant.1,
    )
