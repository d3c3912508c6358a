use Rattle.std.proofs.Common.{◌<◌, ◌++◌, ◌∷◌, [], length, map, sym, ap, ◌∙◌, arith}
use Rattle.std.proofs.lemmas.List.{map-append}
use Rattle.acl_names.specs.Names.{escaped}
use Rattle.facl_answers.proofs.IndexLines.{one_more, is_there}
use Rattle.facl_answers.proofs.index.written_names.Goals as goal
use Rattle.facl_answers.proofs.index.written_names.Goals.{in-Some+in_ok-write_name+in_ok-push, in_default}

pub loop-user-preserved : goal.loop-user-preserved
loop-user-preserved c =
    let users = c.args.people.now.users in
    let user = c.loop-user.user in
    let names = c.loop-user.names.items in
    elim c.match-user_row.branch [
      | in-Some+in_ok-write_name+in_ok-push w ↦
          let written = w.in_ok-write_name.ensures.text ∙ ap escaped w.as_bytes.ensures in
          ap (λ v. map (λ n. n.items) v.items) w.names-is
          ∙ ap (map (λ n. n.items)) w.in_ok-push.ensures.items
          ∙ map-append (λ n. n.items) names (w.in_ok-write_name.field-0 ∷ [])
          ∙ (λ i. c.loop-user.invariant i ++ written i ∷ [])
          ∙ sym (one_more (λ row. escaped row.name) users user w.in-Some.row.now (sym w.in-Some.ensures))
      | in_default w ↦
          let lt : user < length users = omega (arith, c.loop-user-test.true, c.users-user-end.ensures) in
          absurd (is_there users user (sym w.in_default.ensures) lt)
    ]
