use Rattle.std.proofs.Common.{◌≡◌, Bool, List, drop, length, ap, subst, ◌∙◌, arith}
use Rattle.std.specs.Prelude.{IfOk}
use Rattle.std.specs.Option.{option_copied}
use Rattle.path_classes.specs.Searching.{searches_kept}
use Rattle.path_classes.proofs.Searches.{kept_in_place}
use Rattle.path_classes.proofs.searchers.searchers_below.Goals as goal

pub returns : goal.returns
returns c =
    let cells = c.args.cells.now in
    let start = c.in_ok-users.users.items in
    let new = c.keep_searches.new.users in
    subst (λ (made : List Bool). IfOk c.new_or_shared.result (λ new. new ≡ made))
    (kept_in_place (option_copied c.args.above) cells start new (drop (length new) start) c.in_ok-users.users.len c.in_ok-users.ensures
    (c.keep_searches.ensures ∙ ap (searches_kept cells) c.as_mut_slice.ensures.value) (omega (arith, c.in_ok-users.users.ok)))
    c.new_or_shared.ensures
