use Rattle.std.proofs.Common.{◌≡◌, ◌++◌, None, Some, filter, sym, ap, ◌∙◌}
use Rattle.std.specs.Prelude.{option_map, slice_get}
use Rattle.std.specs.List.{flat_map}
use Rattle.acl_entry.specs.Check.{has}
use Rattle.acl_people.specs.KnownPeople.{KnownPeople}
use Rattle.acl_tree.specs.State.{State}
use Rattle.acl_rights.specs.Verdicts.{granted}
use Rattle.facl_answers.specs.Answers.{all_files, file_line}
use Rattle.facl_answers.specs.Inner.{files_left, granted_text, walked}
use Rattle.facl_answers.proofs.GrantedClasses.{may_lines}
use Rattle.facl_answers.proofs.may.write_may.Goals as goal

pub returns-in_default : goal.returns-in_default
returns-in_default g c =
    let V = g.J.Judge.verdict_of in
    let asked = c.args.verdicts.now in
    let s = asked.state.now in
    let people = c.people.ensures ∙ ap (λ (known : State). known.people) c.state.ensures in
    let none : None ≡ slice_get s.people.users c.args.user = c.in_default.ensures ∙ ap (λ (known : KnownPeople). slice_get known.users c.args.user) people in
    ap (option_map (λ row. flat_map file_line (filter (λ file. has (granted V asked.along s row (file.path, file.node)) c.args.request) (all_files s)))) none

pub returns : goal.returns
returns g c =
    let V = g.J.Judge.verdict_of in
    let asked = c.args.verdicts.now in
    let s = asked.state.now in
    let people = c.people.ensures ∙ ap (λ (known : State). known.people) c.state.ensures in
    let is : slice_get s.people.users c.args.user ≡ Some c.in-Some._row.now = sym (c.in-Some.ensures ∙ ap (λ (known : KnownPeople). slice_get known.users c.args.user) people) in
    let left = ap (λ classes. files_left (walked (record { files = c.of_verdicts-files.result.files; classes = classes }))) c.keep_apart.ensures
    ∙ c.of_verdicts-files.ensures in
    ap Some (c.in_ok-push_files.ensures ∙ (λ i. c.new-text.ensures.items i ++ flat_map (granted_text c.args.request c.args.user) (left i)))
    ∙ may_lines c.args.request c.args.user V asked.along s c.in-Some._row.now is
