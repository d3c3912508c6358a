use Rattle.std.proofs.Common.{◌++◌, ◌∷◌, [], Bool, ℕ, List, map, filter, not, take, sym, ap, ◌∙◌}
use Rattle.std.specs.Str.{bytes_eq}
use Rattle.std.proofs.lemmas.List.Elements.{filter-append}
use Rattle.acl_people.proofs.Pointers.{map_take_more}
use Rattle.acl_people.proofs.groups.Group.without_name.Goals as goal

pub loop-member-preserved : goal.loop-member-preserved
loop-member-preserved c =
    let other : List ℕ → Bool = λ member. not (bytes_eq member c.args.name.now) in
    let member = c.member-item.result.value in
    let before = take c.loop-member.member-index (map (λ n. n.value) c.deref-member-items.result.now) in
    let more = map_take_more (λ n. n.value) c.deref-member-items.result.now c.loop-member.member-index c.member-item.result c.loop-member-test.true c.member-item.is in
    c.in_ok-push_other.ensures
    ∙ ap (λ names. names ++ filter other (member ∷ [])) c.loop-member.invariant
    ∙ sym (filter-append other before (member ∷ []))
    ∙ ap (λ names. filter other names) (sym more)
