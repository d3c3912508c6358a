use Rattle.std.proofs.Common.{◌∙◌, ◌≡◌, ap, refl, List, ℕ, Option, Some, None, option_map}
use Rattle.clap.specs.Words.{found_of}
use Rattle.clap.proofs.WalkLemmas.{first_value-rows}
use Rattle.facl_script.specs.Commands.{value_or}
use Rattle.facl_script.proofs.reading.option_value.Goals as goal

value_or-some : (fallback : Option (List ℕ)) (v : List ℕ) → Some v ≡ value_or fallback (Some v)
value_or-some None v = refl
value_or-some (Some d) v = refl

pub returns-in_ok-new-in-Some : goal.returns-in_ok-new-in-Some
returns-in_ok-new-in-Some c =
    let fallback = option_map (λ t. t.now) c.args.row.now.fallback in
    ap (λ (t : List ℕ). Some t) c.in_ok-new-in-Some.ensures
    ∙ (value_or-some fallback _ ∙ ap (value_or fallback) (c.in-Some.ensures ∙ first_value-rows (found_of c.args.matches.now) c.args.row.now.id.now))

pub returns-in_ok-new-in-Some-fallback : goal.returns-in_ok-new-in-Some-fallback
returns-in_ok-new-in-Some-fallback c =
    let absent = c.in-None.ensures ∙ first_value-rows (found_of c.args.matches.now) c.args.row.now.id.now in
    rw (← absent, c.in-Some-fallback.is, c.in_ok-new-in-Some-fallback.ensures)

pub returns-in-None-fallback : goal.returns-in-None-fallback
returns-in-None-fallback c =
    let absent = c.in-None.ensures ∙ first_value-rows (found_of c.args.matches.now) c.args.row.now.id.now in
    rw (← absent, c.in-None-fallback.is)
