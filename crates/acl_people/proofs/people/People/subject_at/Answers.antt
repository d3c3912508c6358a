use Rattle.std.proofs.Common.{◌≡◌, ◌<◌, ◌≤◌, length, slice_get, Some, sym, ap, ◌∙◌, arith}
use Rattle.std.proofs.lemmas.Bool.Decides.{nat_tests}
use Rattle.std.proofs.lemmas.List.{length-map}
use Rattle.std.proofs.lemmas.Option.{slice_get-map, slice_get_past}
use Rattle.acl_people.specs.KnownPeople.{person, persons}
use Rattle.acl_people.proofs.Pointers.{value_at}
use Rattle.acl_people.proofs.people.People.subject_at.Goals as goal

pub returns-in-Some : goal.returns-in-Some
returns-in-Some c =
    let known = c.args.self.now in
    let here = c.in-Some.ensures.lookup in
    let within : c.args.user < length c.subjects.result.now = grind (arith, nat_tests) in
    ap (λ s. Some s) c.deref.ensures
    ∙ sym (value_at (λ s. s.value) c.subjects.result.now c.args.user c.in-Some.subject.now within here.1)
    ∙ ap (λ ps. slice_get ps c.args.user) c.subjects.ensures
    ∙ slice_get-map (person known.groups) known.users c.args.user

pub returns-in-None : goal.returns-in-None
returns-in-None c =
    let known = c.args.self.now in
    let here = c.in-None.ensures.lookup in
    let past : length c.subjects.result.now ≤ c.args.user = grind (arith, nat_tests) in
    (let long : length (persons known) ≡ length c.subjects.result.now = ap length (sym c.subjects.ensures) ∙ length-map c.subjects.result.now (λ s. s.value) in
    sym (slice_get_past (persons known) c.args.user (omega (arith, past))))
    ∙ slice_get-map (person known.groups) known.users c.args.user
