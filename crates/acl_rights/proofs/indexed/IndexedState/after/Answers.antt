use Rattle.std.proofs.Common.{subst, sym}
use Rattle.acl_tree.specs.State.{State}
use Rattle.acl_rights.specs.Tables.{VerdictTable, IsWhole}
use Rattle.acl_rights.proofs.indexed.IndexedState.after.Goals as goal

pub invariant_of-result : goal.invariant_of-result
invariant_of-result g c =
    let V = g.J.Judge.verdict_of in
    subst (λ (t : VerdictTable). IsWhole V c.of.result t) (sym c.of-in-Ok.ensures) (subst (λ (s : State). IsWhole V s c.in-Ok.rows.table) (sym c.of.ensures) c.in-Ok.ensures.whole)

pub stage-requires-clause-goes : goal.stage-requires-clause-goes
stage-requires-clause-goes g c = record {
  state = c.args.self.now;
  whole = subst (λ (s : State). IsWhole g.J.Judge.verdict_of s c.self.inside.index) c.self.view_is c.self.invariant;
  reports = c.requires.reports;
}
