use Rattle.std.proofs.Common.{sym, ap, subst, ◌∙◌}
use Rattle.acl_tree.specs.State.{state_from}
use Rattle.acl_tree.specs.UserMoves.{move_of}
use Rattle.acl_tree.specs.Reports.{UsersMoved}
use Rattle.acl_tree.proofs.Reported.{user_moved}
use Rattle.acl_tree.proofs.stage_people.stage_user_change.Goals as goal

pub returns-clause-staged : goal.returns-clause-staged
returns-clause-staged c =
    let tree = c.args.state.now.tree.now in
    let known = c.args.state.now.people.now in
    record {
      sound = c.in_ok-staged.ensures.sound;
      reports =
          c.in_ok-staged.ensures.reports known
          (subst (λ m. UsersMoved (state_from tree known) (state_from tree c.args.next) m) (sym c.move_of.ensures)
          (user_moved tree known c.args.next c.args.user c.in_ok-groups.groups.items c.in_ok-groups.ensures.moved c.in_ok-groups.ensures.none));
      moved = ap (λ s. s.user_change) c.in_ok-staged.ensures.all ∙ c.move_of.ensures ∙ ap (λ gs. move_of c.args.user gs) c.in_ok-groups.ensures.ids;
    }
