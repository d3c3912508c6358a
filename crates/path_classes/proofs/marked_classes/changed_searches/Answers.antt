use Rattle.std.proofs.Common.{◌≡◌, ℕ, Bool, List, false, true, get_or, sym, ap, subst, ◌∙◌, arith}
use Rattle.std.specs.Prelude.{not}
use Rattle.kinds.specs.Kinds.{KindsOf}
use Rattle.path_classes.specs.declared.path_class.PathClass.{PathClass}
use Rattle.path_classes.specs.PathClasses.{search_at}
use Rattle.path_classes.proofs.MarkedClasses.{not_false, marks_more}
use Rattle.path_classes.proofs.marked_classes.changed_searches.Goals as goal

pub loop-number-preserved : goal.loop-number-preserved
loop-number-preserved c =
    let old : KindsOf PathClass = c.args.before.now.0 in
    let new : KindsOf PathClass = c.args.after.now.0 in
    let n : ℕ = c.loop-number.number in
    let marks : List Bool = c.loop-number.marks.items in
    let is : Bool = c.has_same_search.result in
    let last : not is ≡ false → search_at new n ≡ search_at old n =
    λ h. ap (λ (k : KindsOf PathClass). search_at k n) (sym c.kinds-new.ensures.all) ∙ c.has_same_search.ensures (not_false is h)
    ∙ ap (λ (k : KindsOf PathClass). search_at k n) c.kinds-old.ensures.all in
    record {
      long = omega (arith, c.loop-number.invariant.long, c.in_ok-push.ensures.len);
      same = subst (λ (l : List Bool). (m : ℕ) → get_or l m true ≡ false → search_at new m ≡ search_at old m) (sym c.in_ok-push.ensures.items)
          (marks_more (λ m. search_at new m ≡ search_at old m) marks (not is) c.loop-number.invariant.same
          (λ h. subst (λ m. search_at new m ≡ search_at old m) (sym c.loop-number.invariant.long) (last h)));
    }
