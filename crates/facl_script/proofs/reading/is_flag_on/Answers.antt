use Rattle.std.proofs.Common.{◌∙◌, ap, false, codes, Option, List, ℕ}
use Rattle.std.specs.Option.{option_map_or}
use Rattle.std.specs.Str.{bytes_eq}
use Rattle.clap.specs.Words.{found_of}
use Rattle.clap.proofs.WalkLemmas.{first_value-rows}
use Rattle.facl_script.proofs.reading.is_flag_on.Goals as goal

pub returns-in-Some : goal.returns-in-Some
returns-in-Some c =
    c.eq.ensures ∙ ap (λ (v : Option (List ℕ)). option_map_or (λ t. bytes_eq t (codes "true")) v false) (c.in-Some.ensures ∙ first_value-rows (found_of c.args.matches.now) c.args.id.now)

pub returns-in-None : goal.returns-in-None
returns-in-None c =
    ap (λ (v : Option (List ℕ)). option_map_or (λ t. bytes_eq t (codes "true")) v false) (c.in-None.ensures ∙ first_value-rows (found_of c.args.matches.now) c.args.id.now)
