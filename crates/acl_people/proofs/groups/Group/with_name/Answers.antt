use Rattle.std.proofs.Common.{◌≡◌, ◌∷◌, ◌++◌, [], map, ap, ◌∙◌}
use Rattle.std.proofs.lemmas.List.{map_push}
use Rattle.acl_names.proofs.Basics.{same_values}
use Rattle.acl_people.specs.Changes.{name_added}
use Rattle.acl_people.proofs.Changed.{group_row}
use Rattle.acl_people.proofs.groups.Group.with_name.Goals as goal

pub returns : goal.returns
returns c =
    let old = c.self.inside.members.items in
    let names : map (λ n. n.value) c.push.new.self.items ≡ map (λ n. n.value) old ++ c.args.name.now ∷ [] =
    ap (λ ms. map (λ n. n.value) ms) c.in_ok-push.ensures.items
    ∙ map_push (λ n. n.value) c.in_ok-members.members.items c.in_ok-new.field-0
    ∙ ap (λ ms. ms ++ c.in_ok-new.field-0.value ∷ []) (same_values (λ n. n.value) old c.in_ok-members.members.items c.in_ok-members.ensures.cases.0)
    ∙ ap (λ m. map (λ n. n.value) old ++ m ∷ []) (c.in_ok-new.ensures.ok ∙ c.in_ok-from_bytes.ensures)
    in
    ap (λ ms. group_row c.in_ok-clone.field-0.value c.self.inside.gid ms) names
    ∙ ap (λ name. group_row name c.self.inside.gid (map (λ n. n.value) old ++ c.args.name.now ∷ [])) c.in_ok-clone.ensures.cases
    ∙ ap (name_added c.args.name.now) c.self.view_is
