use Rattle.std.proofs.Common.{◌++◌, ◌∷◌, [], map, sym, ap, ◌∙◌}
use Rattle.std.proofs.lemmas.List.{map_push}
use Rattle.acl_people.specs.KnownPeople.{names_user}
use Rattle.acl_people.proofs.Changed.{name_removed-absent}
use Rattle.acl_people.proofs.groups.push_without.Goals as goal

pub returns-in_ok-push : goal.returns-in_ok-push
returns-in_ok-push c =
    ap (λ rows. map (λ r. r.value) rows) c.in_ok-push.ensures.items
    ∙ map_push (λ r. r.value) c.args.groups.now.items c.in_ok-clone.field-0
    ∙ ap (λ row. map (λ r. r.value) c.args.groups.now.items ++ row ∷ [])
    (c.in_ok-clone.ensures.cases
    ∙ sym (name_removed-absent c.args.name.now c.args.row.now.value (ap (λ row. names_user c.args.name.now row) (sym c.deref.ensures) ∙ sym c.names_user.ensures ∙ c.if-names_user.false)))
