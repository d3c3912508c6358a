use Rattle.std.proofs.Common.{◌≡◌, ℕ, Bool, true, List, Option, sym, ap, subst, ◌∙◌}
use Rattle.std.specs.Prelude.{MatchOption}
use Rattle.kinds.specs.Kinds.{node_at}
use Rattle.kinds.specs.Renumbered.{Replaces}
use Rattle.path_classes.specs.declared.path_class.PathClass.{PathClass}
use Rattle.path_classes.specs.Renewing.{IsAgain, IsFreshAt, is_next}
use Rattle.path_classes.proofs.SearchedOnce.{searches_later, searches_same, searches_other}
use Rattle.path_classes.proofs.searched_once.search_next.Goals as goal

pub returns-then-not-is_next : goal.returns-then-not-is_next
returns-then-not-is_next c =
    searches_later c.args.rows.now c.args.classes c.args.number c.args.marks.now.items c.args.waiting.now.items c.push.new.self.items c.in_ok-push.ensures.items

pub returns-in_default : goal.returns-in_default
returns-in_default c =
    let rows = c.args.rows.now in
    let n : ℕ = c.args.number in
    let next : is_next c.args.marks.now.items n (node_at c.args.classes n) ≡ true =
    ap (λ (l : List Bool). is_next l n (node_at c.args.classes n)) (sym c.as_slice.ensures.value) ∙ sym c.is_next.ensures ∙ c.if-not-is_next.false in
    searches_same rows c.args.classes n c.args.marks.now.items c.args.waiting.now.items next c.mark.new.marks.items c.in_ok-mark.ensures
    (subst (λ (o : Option PathClass). MatchOption o (IsFreshAt rows c.args.classes n) (IsAgain rows c.args.classes n)) c.in_default.is c.in_ok-again.ensures)

pub returns : goal.returns
returns c =
    let rows = c.args.rows.now in
    let n : ℕ = c.args.number in
    let next : is_next c.args.marks.now.items n (node_at c.args.classes n) ≡ true =
    ap (λ (l : List Bool). is_next l n (node_at c.args.classes n)) (sym c.as_slice.ensures.value) ∙ sym c.is_next.ensures ∙ c.if-not-is_next.false in
    searches_other rows c.args.classes n c.args.marks.now.items c.args.waiting.now.items next c.mark.new.marks.items c.in_ok-mark.ensures c.in-Some.class
    (subst (λ (o : Option PathClass). MatchOption o (IsFreshAt rows c.args.classes n) (IsAgain rows c.args.classes n)) c.in-Some.is c.in_ok-again.ensures) c.in_ok-new.new
    (subst (λ (y : PathClass). Replaces c.args.classes y n c.in_ok-new.new) c.in_ok-class.ensures.ok c.in_ok-new.ensures)
