use Rattle.std.proofs.Common.{◌≡◌, ◌||◌, ◌&&◌, ℕ, List, not, take, nat_cmp, sym, ap, ◌∙◌, take_all}
use Rattle.std.specs.FinSet as sets
use Rattle.std.specs.FinSet.{FinSet, contains-from_list_nat}
use Rattle.acl_entry.specs.Mentions.{is_one_of}
use Rattle.acl_entry.proofs.subject_groups.add_others.Goals as goal

pub returns : goal.returns
returns c = λ gid.
    let groups = c.groups-group-items.result.now in
    let all : is_one_of gid (take c.loop-group.group-index groups) ≡ sets.contains c.args.of.now.groups gid =
    ap (λ (ids : List ℕ). is_one_of gid ids) (take_all c.loop-group.group-index groups c.loop-group-test.false)
    ∙ sym (contains-from_list_nat groups gid)
    ∙ ap (λ (s : FinSet nat_cmp). sets.contains s gid) c.groups-group-items.ensures.all
    in
    c.loop-group.invariant gid ∙ ap (λ b. is_one_of gid c.args.groups.now.items || (b && not (sets.contains c.args.but.now.groups gid))) all
