use Rattle.std.proofs.Common.{◌≤◌, length, sym, subst, arith}
use Rattle.std.proofs.Math.Nat.{mul-le-mul_left, mul-le-mul_right}
use Rattle.std.proofs.lemmas.Grind.{common_steps}
use Rattle.acl_tree.specs.Files.{Recorded}
use Rattle.acl_tree.specs.State.{State}
use Rattle.acl_people.specs.KnownPeople.{KnownPeople}
use Rattle.acl_rights.specs.Outside.{SameRows}
use Rattle.acl_rights.specs.States.{loaded_state}
use Rattle.acl_rights.proofs.indexed.IndexedStates.replace.Goals as goal

pub put-requires-clause-same : goal.put-requires-clause-same
put-requires-clause-same g c =
    subst (λ (s : State). SameRows g.J.Judge.verdict_of c.in_ok-next.next.changed.items (loaded_state c.args.self.now) s) (sym c.in_ok-next.ensures.state) c.in_ok-next.ensures.same

pub returns-in_err-next-clause-asked : goal.returns-in_err-next-clause-asked
returns-in_err-next-clause-asked g c = grind (arith, common_steps)

pub returns-in_err-next-clause-few : goal.returns-in_err-next-clause-few
returns-in_err-next-clause-few g c = grind (arith, common_steps)

pub returns-clause-asked : goal.returns-clause-asked
returns-clause-asked g c = grind (arith, common_steps)

pub returns-clause-few : goal.returns-clause-few
returns-clause-few g c =
    let files : length c.args.staged.state.tree.files ≤ 1048576 = subst (λ (t : Recorded). length t.files ≤ 1048576) c.tree.ensures c.soundness_law.ensures.few in
    let users : length c.args.staged.state.people.users ≤ 65536 = subst (λ (known : KnownPeople). length known.users ≤ 65536) c.people.ensures c.soundness_law-2.ensures.few_users in
    omega (arith, c.in_ok-next.ensures.bounded, mul-le-mul_left (length c.args.staged.state.tree.files) users, mul-le-mul_right 65536 files)
