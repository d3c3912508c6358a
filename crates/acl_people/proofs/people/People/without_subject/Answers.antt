use Rattle.std.proofs.Common.{sym, ap, ◌∙◌}
use Rattle.std.specs.List.{remove}
use Rattle.acl_people.proofs.people.People.without_subject.Goals as goal

pub invariant_of-result : goal.invariant_of-result
invariant_of-result c = c.in_ok-subjects.ensures ∙ ap (λ ps. remove ps c.args.user) c.all_subjects.ensures ∙ sym c.requires.becomes
