use Rattle.std.proofs.Common.{◌++◌, not, map, filter, sym, ap, ◌∙◌}
use Rattle.std.proofs.lemmas.List.{map-append}
use Rattle.acl_people.specs.KnownPeople.{users_of}
use Rattle.acl_people.specs.NameTables.{has_name}
use Rattle.facl_answers.specs.Inner.{placed_in}
use Rattle.facl_answers.proofs.placed_users.users_of_both.Goals as goal

pub returns : goal.returns
returns c =
    let loaded = c.args.loaded.now in
    let now = c.args.now.now in
    let gone = filter (λ row. not (has_name row.name (users_of now))) loaded.users in
    c.in_ok-add_gone.ensures
    ∙ ap (λ l. l ++ map (λ row. placed_in loaded now row.name) gone) c.in_ok-users.ensures
    ∙ sym (map-append (λ row. placed_in loaded now row.name) now.users gone)
