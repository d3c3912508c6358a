use Rattle.std.proofs.Common.{ap, map, ◌∙◌}
use Rattle.std.specs.List.{remove}
use Rattle.acl_people.proofs.WhoIsWhere.{map_remove}
use Rattle.acl_people.proofs.subjects.Subjects.without.Goals as goal

pub returns : goal.returns
returns c =
    c.in_ok-others.ensures
    ∙ ap (map (λ s. s.value)) c.remove-gone.ensures.items
    ∙ map_remove (λ s. s.value) c.in_ok-users.users.items c.args.at
    ∙ ap (λ us. remove us c.args.at) (c.in_ok-users.ensures ∙ c.as_slice.ensures)
