use Rattle.std.proofs.Common.{sym, ap, subst}
use Rattle.path_classes.specs.ClassesWithin.{AreTops}
use Rattle.acl_rights.proofs.Outside.{same_put}
use Rattle.acl_rights.proofs.indexed.IndexedStates.put.Goals as goal

pub invariant_of-self : goal.invariant_of-self
invariant_of-self g c =
    let s = c.self.inside in
    let changed = ap (λ v. v.items) c.replace.ensures.after in (
      subst AreTops (sym changed) c.requires.tops,
      same_put g.J.Judge.verdict_of c.args.self.now
          (record { state = s.state; loaded = s.loaded }) c.args.next.changed.items c.replace.new.dest.items c.args.next.state c.replace-before.new.dest c.get_or_insert-loaded.result.now
          c.replace-before.result c.self.view_is c.replace-before.ensures.value c.get_or_insert-loaded.ensures.value changed c.replace-before.ensures.after c.requires.same,
    )
