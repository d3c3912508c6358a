use Rattle.std.proofs.Common.{◌≡◌, ℕ, List, Option, true, is_some, map, sym, subst, ◌∙◌}
use Rattle.std.specs.List.{AllByRecursion}
use Rattle.path_map.specs.Entries.{seen}
use Rattle.kinds.specs.Numbered.{Numbers}
use Rattle.kinds.proofs.Replaced.{put_all_there, there_found}
use Rattle.kinds.proofs.put.numbers_with.Goals as goal

pub returns-then-are_found-clause-new : goal.returns-then-are_found-clause-new
returns-then-are_found-clause-new c =
    let puts : Numbers = map seen c.args.entries.now in
    let there = there_found c.args.numbers.now puts
    (subst (λ (os : List (Option ℕ)). AllByRecursion (λ o. is_some o ≡ true) os) (c.deref.ensures.value ∙ c.in_ok-new.ensures.was) (c.are_found.ensures c.if-are_found.true)) in
    c.in_ok-new.ensures.map ∙ sym (put_all_there puts c.args.numbers.now c.requires c.order_law.ensures there)
