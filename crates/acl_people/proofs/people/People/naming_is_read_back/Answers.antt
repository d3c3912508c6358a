use Rattle.std.proofs.Common.{map, subst, ap, ◌∙◌}
use Rattle.acl_people.specs.NameTables.{AreCounted}
use Rattle.acl_people.specs.Entries.{user_entry, group_entry}
use Rattle.acl_people.specs.KnownPeople.{users_of, groups_of}
use Rattle.acl_people.proofs.Naming.{is_naming}
use Rattle.acl_people.proofs.people.People.naming_is_read_back.Goals as goal

pub returns-clause-users : goal.returns-clause-users
returns-clause-users c =
    let known = subst (λ rows. AreCounted (map user_entry rows)) (c.deref.ensures ∙ ap (λ known. known.users) c.self.view_is) c.name_table-users.ensures.counted in
    is_naming (users_of c.args.self.now) known.names

pub returns-clause-groups : goal.returns-clause-groups
returns-clause-groups c =
    let known = subst (λ rows. AreCounted (map group_entry rows)) (c.deref-2.ensures ∙ ap (λ known. known.groups) c.self.view_is) c.name_table-groups.ensures.counted in
    is_naming (groups_of c.args.self.now) known.names
