use Rattle.std.proofs.Common.{◌∙◌, ◌≡◌, ◌++◌, [], ap, sym, List, ℕ, Option, map, unwrap_or, append-nil}
use Rattle.std.proofs.lemmas.List.{take_all}
use Rattle.clap.specs.Words.{all_of, found_of, rows_of}
use Rattle.clap.proofs.WalkLemmas.{raw_values-rows}
use Rattle.facl_script.proofs.reading.push_operand.Goals as goal

pub returns-after-loop-text : goal.returns-after-loop-text
returns-after-loop-text c =
    let read : map (λ t. t.now) c.in-Some.texts.now ≡ unwrap_or (all_of c.args.id.now (rows_of (found_of c.args.matches.now))) [] =
    ap (λ (o : Option (List (List ℕ))). unwrap_or o []) (c.in-Some.ensures ∙ raw_values-rows (found_of c.args.matches.now) c.args.id.now) in
    c.loop-text.invariant
    ∙ (ap (λ l. c.args.items.now.items ++ map (λ t. t.now) l) (take_all c.loop-text.text-index c.in-Some.texts.now c.loop-text-test.false)
    ∙ ap (λ l. c.args.items.now.items ++ l) read)

pub returns-in_default : goal.returns-in_default
returns-in_default c =
    let absent = c.in_default.ensures ∙ raw_values-rows (found_of c.args.matches.now) c.args.id.now in
    rw (← absent) (sym (append-nil c.args.items.now.items))
