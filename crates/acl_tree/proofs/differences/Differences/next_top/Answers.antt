use Rattle.std.proofs.Common.{sym, subst, ◌∙◌}
use Rattle.kinds.specs.Numbered.{Numbers, entries_by, AreUsed}
use Rattle.acl_tree.specs.Changed.{differing}
use Rattle.acl_tree.proofs.Outside.{differing_outside, used_outside}
use Rattle.acl_tree.proofs.differences.Differences.next_top.Goals as goal

pub invariant_of-self-2 : goal.invariant_of-self-2
invariant_of-self-2 c =
    let k = c.self.inside.kinds.now in
    let top = c.in-Some.top.0.now in
    subst (λ (w : Numbers × Numbers). AreUsed k w.0) (sym c.pass_within.ensures) (used_outside k top c.next_differing.new.walk.0 c.in-Some.ensures.used)

pub returns : goal.returns
returns c =
    let i = c.self.inside in
    let k = i.kinds.now in
    let top = c.in-Some.top.0.now in
    let left : Numbers = c.next_differing.new.walk.0 in
    record {
      more = differing i.by_label i.other (entries_by k left);
      first = sym c.self.view_is ∙ c.in-Some.ensures.first;
      left =
          (λ j. differing i.by_label (c.in-Some.ensures.other j) (entries_by k ((c.pass_within.ensures j).0)))
          ∙ differing_outside i.by_label i.other k top left c.in-Some.ensures.used;
    }
