use Rattle.std.proofs.Common.{◌≡◌, ◌++◌, map, ap, ◌∙◌}
use Rattle.std.specs.List.{flat_map}
use Rattle.acl_names.specs.Names.{escaped}
use Rattle.acl_people.specs.KnownPeople.{KnownPeople}
use Rattle.acl_tree.specs.State.{State}
use Rattle.facl_answers.specs.Inner.{files_granted, row_text}
use Rattle.facl_answers.proofs.IndexLines.{index_lines}
use Rattle.facl_answers.proofs.index.write_index.Goals as goal

pub returns : goal.returns
returns g c =
    let V = g.J.Judge.verdict_of in
    let s = c.args.indexed.now in
    let of_people = c.people.ensures ∙ ap (λ (known : State). known.people) c.state.ensures in
    let names : map (λ n. n.items) c.in_ok-names.names.items ≡ map (λ row. escaped row.name) s.people.users = c.in_ok-names.ensures
    ∙ ap (λ (known : KnownPeople). map (λ row. escaped row.name) known.users) of_people in
    let is = c.verdicts-verdicts.ensures in
    c.in_ok-push_files.ensures
    ∙ (λ i. c.new-text.ensures.items i ++ flat_map (row_text (map (λ n. n.items) (c.deref.ensures.value i))) (c.of_verdicts-files.ensures i))
    ∙ (λ i. flat_map (row_text (names i)) (files_granted V (is.along i) (is.state i)))
    ∙ index_lines V s
