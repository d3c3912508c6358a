use Rattle.std.proofs.Common.{◌≡◌, ◌++◌, ◌∷◌, [], Some, None, ap, ◌∙◌}
use Rattle.std.proofs.lemmas.Map.Text.{btree_map_updates_str}
use Rattle.std.specs.Option.{option_map_or}
use Rattle.acl_people.specs.Members.{gids_at}
use Rattle.acl_people.proofs.Joined.{joined, items_or}
use Rattle.acl_people.proofs.memberships.join.Goals as goal

pub returns : goal.returns
returns c =
    let had : c.unwrap_or-gids.result.items ≡ gids_at c.args.members.now c.args.name.now =
    ap (λ gids. gids.items) c.unwrap_or-gids.ensures
    ∙ items_or c.remove.result c.new.result c.new.ensures.items
    ∙ ap (λ o. option_map_or (λ gids. gids.items) o []) c.remove.ensures.value
    in
    joined c.args.name.now c.args.gid c.args.members.now c.remove.new.self c.insert.new.self c.push.new.self
    (btree_map_updates_str c.args.name.now c.args.members.now c.remove.new.self None c.remove.ensures.updates)
    (btree_map_updates_str c.args.name.now c.remove.new.self c.insert.new.self (Some c.push.new.self) c.in_ok-insert.ensures.updates)
    (c.in_ok-push.ensures.items ∙ ap (λ gids. gids ++ c.args.gid ∷ []) had)
