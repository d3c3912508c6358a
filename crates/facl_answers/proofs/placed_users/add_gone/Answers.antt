use Rattle.std.proofs.Common.{◌<◌, ◌≤◌, ◌++◌, ◌∷◌, [], append_assoc, length, take, map, filter, not, sym, ap, ◌∙◌, arith}
use Rattle.std.specs.Prelude.{if◌then◌else◌}
use Rattle.std.proofs.lemmas.List.{take_all}
use Rattle.acl_people.specs.KnownPeople.{users_of}
use Rattle.acl_people.specs.NameTables.{has_name}
use Rattle.facl_answers.specs.Inner.{placed_of, placed_in}
use Rattle.facl_answers.proofs.IndexLines.{is_there}
use Rattle.facl_answers.proofs.ChangeLines.{one_gone}
use Rattle.facl_answers.proofs.placed_users.add_gone.Goals as goal
use Rattle.facl_answers.proofs.placed_users.add_gone.Goals.{in-Some+in_ok-add_if_gone, in_default}

pub loop-user-preserved : goal.loop-user-preserved
loop-user-preserved c =
    let loaded = c.args.loaded.now in
    let now = c.args.now.now in
    let user = c.loop-user.user in
    let start = map placed_of c.args.users.now.items in
    let seen = map (λ row. placed_in loaded now row.name) (filter (λ row. not (has_name row.name (users_of now))) (take user loaded.users)) in
    elim c.match-user_row.branch [
      | in-Some+in_ok-add_if_gone w ↦
          let row = w.in-Some.row.now in
          ap (λ v. map placed_of v.items) w.users-is
          ∙ w.in_ok-add_if_gone.ensures
          ∙ (λ i. c.loop-user.invariant i ++ (if has_name (w.as_bytes.ensures i) (users_of now) then [] else placed_in loaded now (w.as_bytes.ensures i) ∷ []))
          ∙ append_assoc start seen (if has_name row.name (users_of now) then [] else placed_in loaded now row.name ∷ [])
          ∙ ap (λ l. start ++ l) (sym (one_gone (λ r. has_name r.name (users_of now)) (λ r. placed_in loaded now r.name) loaded.users user row (sym w.in-Some.ensures)))
      | in_default w ↦
          let lt : user < length loaded.users = omega (arith, c.loop-user-test.true, c.users-user-end.ensures) in
          absurd (is_there loaded.users user (sym w.in_default.ensures) lt)
    ]

pub returns : goal.returns
returns c =
    let loaded = c.args.loaded.now in
    let now = c.args.now.now in
    let user = c.loop-user.user in
    let past : length loaded.users ≤ user = omega (arith, c.loop-user-test.false, c.users-user-end.ensures) in
    c.loop-user.invariant
    ∙ ap (λ rows. map placed_of c.args.users.now.items ++ map (λ row. placed_in loaded now row.name) (filter (λ row. not (has_name row.name (users_of now))) rows)) (take_all user loaded.users past)
