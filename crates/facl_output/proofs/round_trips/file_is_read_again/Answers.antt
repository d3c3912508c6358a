use Rattle.std.proofs.Common.{◌≡◌, length, true, sym, subst}
use Rattle.std.specs.List.{list_all}
use Rattle.acl_names.specs.Paths.{is_component, PathOf}
use Rattle.acl_text.specs.RoundTrips.{IsListIf}
use Rattle.acl_edit.specs.declared.node.Node.{Node}
use Rattle.acl_people.specs.KnownPeople.{KnownPeople, naming_of}
use Rattle.facl_output.proofs.round_trips.file_is_read_again.Goals as goal

pub returns-in-Some : goal.returns-in-Some
returns-in-Some c =
    let known : KnownPeople = c.args.people.now in
    let p : PathOf = c.args.path.now in
    let n : Node = c.args.node.now in
    let path : list_all is_component p ≡ true = c.components-components.ensures.valid in
    let three : length n.flags ≡ 3 = c.flags_are_three.ensures in
    let dacl : IsListIf (naming_of known) n.dacl =
    subst (IsListIf (naming_of known)) (sym c.in-Some.is) c.list_is_read_again-in-Some.ensures
    in
    record { path = path; owner = c.user_is_found.ensures; group = c.group_is_found.ensures; flags = three; access = c.list_is_read_again.ensures; dacl = dacl }
