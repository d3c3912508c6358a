use Rattle.std.proofs.Common.{◌++◌, ℕ, List, Option, ap, subst, ◌∙◌}
use Rattle.std.specs.Prelude.{MatchOption}
use Rattle.path_classes.specs.declared.path_class.PathClass.{PathClass}
use Rattle.kinds.specs.Renumbered.{Replaces}
use Rattle.path_classes.specs.Renewing.{IsAgain, IsFreshAt}
use Rattle.path_classes.proofs.Renewals.{renews_none, renews_some}
use Rattle.path_classes.proofs.renewed_searches.renew_one.Goals as goal

pub returns : goal.returns
returns c =
    let rows = c.args.rows.now in
    let n : ℕ = c.args.number in
    let x : PathClass = c.in-Some.class in
    let again : IsAgain rows c.args.classes n x =
    subst (λ (o : Option PathClass). MatchOption o (IsFreshAt rows c.args.classes n) (IsAgain rows c.args.classes n)) c.in-Some.is c.in_ok-again.ensures in
    renews_some rows c.args.before.now.0 c.args.classes c.requires.before n c.args.queue.now.waiting.items c.args.queue.now.changed.items x again c.in_ok-classes.classes
    (subst (λ (y : PathClass). Replaces c.args.classes y n c.in_ok-classes.classes) c.in_ok-class.ensures.ok c.in_ok-classes.ensures)
    c.in_ok-below.below.items c.in_ok-below.ensures c.extend_from_slice.new.self.items c.push.new.self.items
    (c.in_ok-extend_from_slice.ensures.items ∙ ap (λ (l : List ℕ). c.args.queue.now.waiting.items ++ l) c.deref.ensures.value)
    c.in_ok-push.ensures.items

pub returns-in_default : goal.returns-in_default
returns-in_default c =
    let rows = c.args.rows.now in
    let n : ℕ = c.args.number in
    let fresh : IsFreshAt rows c.args.classes n =
    subst (λ (o : Option PathClass). MatchOption o (IsFreshAt rows c.args.classes n) (IsAgain rows c.args.classes n)) c.in_default.is c.in_ok-again.ensures in
    renews_none rows c.args.before.now.0 c.args.classes c.requires.before n c.args.queue.now.waiting.items c.args.queue.now.changed.items fresh
