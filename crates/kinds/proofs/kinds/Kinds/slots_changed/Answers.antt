use Rattle.kinds.specs.Kinds.{kinds_of}
use Rattle.kinds.proofs.ChangedNodes.{changes_same, changes_next, noted_same, noted_next}
use Rattle.kinds.proofs.kinds.Kinds.slots_changed.Goals as goal

pub returns-clause-slots : goal.returns-clause-slots
returns-clause-slots g c done h =
    let e = rw c.in-Some.is at c.in_ok-some.ensures.slot in
    changes_next (g.C.NodeChange.changed c.args.change.now) c.args.self.now done c.args.number c.args.slots c.in_ok-slots.slots c.in-Some.slot e.0 e.1 c.in_ok-slots.ensures h

pub returns-clause-noted : goal.returns-clause-noted
returns-clause-noted g c done h =
    noted_next c.args.self.now c.args.slots c.in_ok-slots.slots done c.args.changed.now.items c.push.new.self.items c.args.number c.in-Some.slot c.in_ok-slots.ensures
    c.in_ok-push.ensures.items h

pub returns-in_default-clause-slots : goal.returns-in_default-clause-slots
returns-in_default-clause-slots g c done h =
    let e = rw c.in_default.is at c.in_ok-some.ensures.slot in
    changes_same (g.C.NodeChange.changed c.args.change.now) c.args.self.now done c.args.number (kinds_of c.args.slots) e h

pub returns-in_default-clause-noted : goal.returns-in_default-clause-noted
returns-in_default-clause-noted g c done h = noted_same c.args.self.now (kinds_of c.args.slots) done c.args.changed.now.items c.args.number h
