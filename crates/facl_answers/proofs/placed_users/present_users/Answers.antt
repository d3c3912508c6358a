use Rattle.std.proofs.Common.{◌<◌, ◌++◌, ◌∷◌, [], length, map, sym, ap, ◌∙◌, arith}
use Rattle.std.proofs.lemmas.List.{map-append}
use Rattle.facl_answers.specs.Inner.{placed_of, placed_in}
use Rattle.facl_answers.proofs.IndexLines.{one_more, is_there}
use Rattle.facl_answers.proofs.placed_users.present_users.Goals as goal
use Rattle.facl_answers.proofs.placed_users.present_users.Goals.{in-Some+in_ok-placed_user+in_ok-push, in_default}

pub loop-user-preserved : goal.loop-user-preserved
loop-user-preserved c =
    let loaded = c.args.loaded.now in
    let now = c.args.now.now in
    let user = c.loop-user.user in
    let users = c.loop-user.users.items in
    elim c.match-user_row.branch [
      | in-Some+in_ok-placed_user+in_ok-push w ↦
          let here = w.in_ok-placed_user.ensures ∙ ap (placed_in loaded now) w.as_bytes.ensures in
          ap (λ v. map placed_of v.items) w.users-is
          ∙ ap (map placed_of) w.in_ok-push.ensures.items
          ∙ map-append placed_of users (w.in_ok-placed_user.field-0 ∷ [])
          ∙ (λ i. c.loop-user.invariant i ++ here i ∷ [])
          ∙ sym (one_more (λ row. placed_in loaded now row.name) now.users user w.in-Some.row.now (sym w.in-Some.ensures))
      | in_default w ↦
          let lt : user < length now.users = omega (arith, c.loop-user-test.true, c.users-user-end.ensures) in
          absurd (is_there now.users user (sym w.in_default.ensures) lt)
    ]
