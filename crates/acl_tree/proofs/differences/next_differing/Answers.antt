use Rattle.std.proofs.Common.{◌≡◌, ◌∷◌, false, sym, ap, subst, ◌∙◌}
use Rattle.std.specs.FinMap.{find}
use Rattle.acl_names.specs.Paths.{path_cmp}
use Rattle.acl_edit.specs.declared.node.Node.{Node}
use Rattle.path_map.specs.Entries.{seen}
use Rattle.kinds.specs.Numbered.{Numbers, entries_by, AreUsed}
use Rattle.acl_tree.specs.Changed.{differs, differing}
use Rattle.acl_tree.specs.Files.{Files}
use Rattle.acl_tree.proofs.Outside.{taken_order, taken_from, differing_passed}
use Rattle.acl_tree.proofs.differences.next_differing.Goals as goal

pub returns-then-differs-clause-from : goal.returns-then-differs-clause-from
returns-then-differs-clause-from c = taken_from (seen c.in-Some.entry) c.loop-entry.walk.1 c.next.new.self.1 c.loop-entry.invariant.order c.in-Some.ensures.1

pub loop-entry-preserved : goal.loop-entry-preserved
loop-entry-preserved c =
    let k = c.args.kinds.now in
    let b = c.args.by_label in
    let node : Node = c.node-node.result.now in
    let other : Files = c.loop-entry.other in
    let was : c.loop-entry.walk.0 ≡ seen c.in-Some.entry ∷ c.next.new.self.0 = c.in-Some.ensures.0 in
    let out : differs b (find path_cmp c.in-Some.entry.0.now other) node ≡ false = ap (λ o. differs b o node) (sym c.get.ensures.found) ∙ sym c.differs.ensures ∙ c.if-differs.false in
    record {
      used = (subst (λ (ns : Numbers). AreUsed k ns) was c.loop-entry.invariant.used).1;
      same = c.get.ensures.same ∙ c.loop-entry.invariant.same;
      left =
          ap (λ (fs : Files). differing b fs (entries_by k c.next.new.self.0)) c.get.ensures.same
          ∙ differing_passed b other k (seen c.in-Some.entry) c.loop-entry.walk.0 c.next.new.self.0 node was c.node-node.ensures out
          ∙ c.loop-entry.invariant.left;
      order = taken_order (seen c.in-Some.entry) c.loop-entry.walk.1 c.next.new.self.1 c.loop-entry.invariant.order c.in-Some.ensures.1;
    }
