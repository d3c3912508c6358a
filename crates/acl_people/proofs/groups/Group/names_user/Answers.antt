use Rattle.std.proofs.Common.{ℕ, List, rules, tests, sym, ap, ◌∙◌}
use Rattle.std.specs.List.{list_any}
use Rattle.std.specs.Str.{bytes_eq}
use Rattle.std.proofs.lemmas.Iterator.{YieldsList-from_slice}
use Rattle.std.proofs.lemmas.Iterator.Search.{any_from_yields_List}
use Rattle.acl_names.proofs.Basics.{any-map}
use Rattle.acl_text.specs.declared.rows.GroupRow.{GroupRow}
use Rattle.acl_people.specs.KnownPeople.{names_user}
use Rattle.acl_people.proofs.groups.Group.names_user.Goals as goal

pub returns : goal.returns
returns c =
    any_from_yields_List (λ m. bytes_eq m.value c.args.name.now) _ _ _ c.any.ensures.ran (YieldsList-from_slice c.deref.result.now cc) (λ x b q k. search (rules, tests))
    ∙ ap (λ ms. list_any (λ m. bytes_eq m.value c.args.name.now) ms) c.deref.ensures.value
    ∙ sym (any-map (λ (m : List ℕ). bytes_eq m c.args.name.now) (λ m. m.value) c.self.inside.members.items)
    ∙ ap (λ (row : GroupRow). names_user c.args.name.now row) c.self.view_is
