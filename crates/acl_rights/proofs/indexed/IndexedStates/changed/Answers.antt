use Rattle.std.proofs.Common.{sym, subst}
use Rattle.path_classes.specs.ClassesWithin.{AreTops}
use Rattle.acl_rights.proofs.Outside.{same_part}
use Rattle.acl_rights.proofs.indexed.IndexedStates.changed.Goals as goal

pub returns-clause-tops : goal.returns-clause-tops
returns-clause-tops g c = subst AreTops (sym c.deref.ensures.value) c.self.invariant.0

pub returns-clause-same : goal.returns-clause-same
returns-clause-same g c =
    let s = c.self.inside in
    same_part g.J.Judge.verdict_of c.args.self.now (record { state = s.state; loaded = s.loaded }) s.changed.items c.deref.result.now c.self.view_is (sym c.deref.ensures.value) c.self.invariant.1
