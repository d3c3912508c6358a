use Rattle.std.proofs.Common.{◌++◌, ◌<◌, length, ap, ◌∙◌, arith}
use Rattle.path_classes.proofs.SearchedOnce.{once_first, once_linked, once_step, once_all}
use Rattle.path_classes.proofs.searched_once.searched_once.Goals as goal

pub loop-at-init : goal.loop-at-init
loop-at-init c =
    once_first c.args.rows.now c.args.before.now.0 c.in_ok-classes.classes c.new-marks.result.items c.extend_from_slice.new.self.items c.args.searched.now
    (c.in_ok-classes.ensures ∙ c.kinds.ensures.all) c.new-marks.ensures.items
    (c.in_ok-extend_from_slice.ensures.items ∙ ap (λ l. l ++ c.args.searched.now) c.new-waiting.ensures.items) c.requires.searched

pub search_next-requires : goal.search_next-requires
search_next-requires c =
    let lt : c.loop-at.at < length c.loop-at.waiting.items = omega arith in
    once_linked c.args.rows.now c.args.before.now.0 c.loop-at.classes c.requires.linked c.loop-at.marks.items c.loop-at.waiting.items c.loop-at.at c.index-number.result.now lt
    c.index-number.ensures c.loop-at.invariant

pub loop-at-preserved : goal.loop-at-preserved
loop-at-preserved c =
    let lt : c.loop-at.at < length c.loop-at.waiting.items = omega arith in
    once_step c.args.rows.now c.args.before.now.0 c.loop-at.classes c.requires.linked c.loop-at.marks.items c.loop-at.waiting.items c.loop-at.at c.index-number.result.now lt
    c.index-number.ensures c.loop-at.invariant c.search_next.new.marks.items c.search_next.new.waiting.items c.in_ok-classes-2.classes c.in_ok-classes-2.ensures

pub returns : goal.returns
returns c = once_all c.args.rows.now c.args.before.now.0 c.loop-at.classes c.loop-at.marks.items c.loop-at.waiting.items c.loop-at.at (omega arith) c.loop-at.invariant
