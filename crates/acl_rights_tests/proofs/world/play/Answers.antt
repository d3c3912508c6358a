use Rattle.std.proofs.Common.{◌≤◌, length, subst, sym, arith}
use Rattle.acl_entry.specs.Check.{rights}
use Rattle.acl_people.specs.KnownPeople.{KnownPeople}
use Rattle.acl_tree.specs.Files.{Recorded}
use Rattle.acl_tree.specs.State.{State}
use Rattle.acl_rights.specs.Tables.{VerdictTable, IsWhole}
use native.Mathlib.Nat.{mul-le-mul_right}
use Rattle.acl_rights_tests.proofs.world.play.Goals as goal

pub stage-requires-clause-room : goal.stage-requires-clause-room
stage-requires-clause-room c =
    let s = c.in-Ok.staged.state in
    let files = subst (λ (r : Recorded). length r.files ≤ 1048576) c.tree.ensures c.soundness_law.ensures.few in
    let users = subst (λ (r : KnownPeople). length r.users ≤ 65536) c.people.ensures c.soundness_law-2.ensures.few_users in
    let times = mul-le-mul_right (length s.people.users) files in
    omega (arith, times, users, c.if-before-gt1000000.false, c.asked-before.ensures)

pub stage-requires-clause-goes : goal.stage-requires-clause-goes
stage-requires-clause-goes c = record { state = c.args.world.now.state; whole = c.requires; reports = c.in-Ok.ensures.prepares.reports }

pub returns-in_err-asked : goal.returns-in_err-asked
returns-in_err-asked c =
    subst (λ (t : VerdictTable). IsWhole rights c.commit.new.self t) (sym c.commit-2.ensures)
    (subst (λ (s : State). IsWhole rights s c.in-Ok-stage.rows.table) (sym c.commit.ensures) c.in-Ok-stage.ensures.whole)

pub returns : goal.returns
returns c =
    subst (λ (t : VerdictTable). IsWhole rights c.commit.new.self t) (sym c.commit-2.ensures)
    (subst (λ (s : State). IsWhole rights s c.in-Ok-stage.rows.table) (sym c.commit.ensures) c.in-Ok-stage.ensures.whole)
