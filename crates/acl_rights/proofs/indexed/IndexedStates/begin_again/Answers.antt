use Rattle.std.proofs.Common.{List, Option, refl, sym, subst}
use Rattle.acl_names.specs.Paths.{PathOf}
use Rattle.acl_tree.specs.State.{State}
use Rattle.path_classes.specs.ClassesWithin.{AreTops}
use Rattle.acl_rights.specs.Outside.{SameRows}
use Rattle.acl_rights.specs.States.{loaded_state}
use Rattle.acl_rights.proofs.indexed.IndexedStates.begin_again.Goals as goal

pub invariant_of-self : goal.invariant_of-self
invariant_of-self g c =
    let V = g.J.Judge.verdict_of in
    let s = c.self.inside in (
      subst AreTops (sym c.clear.ensures.items) tt,
      subst (λ (o : Option State). SameRows V c.clear.new.self.items (loaded_state (record { state = s.state; loaded = o })) s.state) (sym c.take.ensures.after)
          (subst (λ (tops : List PathOf). SameRows V tops s.state s.state) (sym c.clear.ensures.items) refl),
    )
