use Rattle.std.proofs.Common.{◌≡◌, ◌++◌, ◌-◌, ℕ, List, Bool, [], false, true, take, length, replicate, sym, ap, ◌∙◌, arith}
use Rattle.std.specs.Option.{option_copied}
use Rattle.std.proofs.lemmas.List.{take_all}
use Rattle.path_classes.specs.Searching.{through_from}
use Rattle.path_classes.proofs.Searches.{through_all, through_some}
use Rattle.path_classes.proofs.searchers.through_from.Goals as goal

pub returns-in-Some : goal.returns-in-Some
returns-in-Some c =
    let count : ℕ = c.args.count in
    let above : List Bool = c.in-Some.above.now in
    let users = c.extend_from_slice.new.self in
    let same : users.items ≡ above = c.in_ok-extend_from_slice.ensures.items ∙ (λ i. c.new-users.ensures.items i ++ c.as_slice.ensures i) in
    let long : users.len ≡ length above = let ok = users.ok in let len = ap length same in omega (arith, ok, len) in
    c.in_ok-resize.ensures.items ∙ (λ i. take count (same i) ++ replicate (count - long i) false) ∙ through_some above 0 count
    ∙ ap (λ o. through_from (option_copied o) 0 count) (sym c.in-Some.is)

pub returns : goal.returns
returns c =
    let count : ℕ = c.args.count in
    let all : count - c.new-users.result.len ≡ count = omega (arith, c.new-users.ensures.len) in
    c.in_ok-resize-2.ensures.items ∙ (λ i. take count (c.new-users.ensures.items i) ++ replicate (all i) true)
    ∙ ap (λ l. l ++ replicate count true) (take_all count [] (omega arith)) ∙ through_all 0 count
    ∙ ap (λ o. through_from (option_copied o) 0 count) (sym c.in_default.is)
