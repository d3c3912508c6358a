use Rattle.std.proofs.Common.{ap, subst, ◌∙◌}
use Rattle.acl_tree.specs.Files.{Recorded}
use Rattle.acl_tree.specs.State.{State}
use Rattle.path_map.specs.Entries.{IsInOrder}
use Rattle.acl_rights.specs.Outside.{HoldsChanges}
use Rattle.acl_rights.specs.States.{StatePair}
use Rattle.acl_rights.proofs.Outside.{same_next}
use Rattle.acl_rights.proofs.indexed.IndexedStates.after.Goals as goal

pub returns-in_ok-state-in-Ok-clause-same : goal.returns-in_ok-state-in-Ok-clause-same
returns-in_ok-state-in-Ok-clause-same g c =
    let s = c.self.inside in
    let order =
    subst (λ (t : Recorded). IsInOrder t.files) (c.tree.ensures ∙ ap (λ (x : State). x.tree) c.state.ensures ∙ ap (λ (w : StatePair). w.state.tree) c.self.view_is) c.soundness_law.ensures.order in
    let ordered = subst (λ (t : Recorded). IsInOrder t.files) c.tree-2.ensures c.soundness_law-2.ensures.order in
    same_next g.J.Judge.verdict_of c.args.self.now
    (record { state = s.state; loaded = s.loaded }) c.args.staged s.changed.items c.in-Ok.changed.items c.self.view_is c.requires.reports order ordered c.self.invariant.1
    (subst (λ old. HoldsChanges c.in-Ok.changed.items old c.args.staged) c.deref.ensures.value c.in-Ok.ensures.holds)
