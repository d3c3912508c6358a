use Rattle.std.proofs.Common.{◌∙◌, ◌≡◌, ap, sym, map, option_map, Some}
use Rattle.std.specs.Prelude.{string_bytes}
use Rattle.clap.specs.Words.{found_of, rows_of}
use Rattle.facl_script.specs.Args.{files_for, program_syntax}
use Rattle.facl_script.specs.Commands.{taken, values_in}
use Rattle.facl_script.proofs.args.read_args.Goals as goal

pub returns : goal.returns
unfolding files_for
returns c =
    let words = map string_bytes c.args.words.now in
    let rows = rows_of (found_of c.in_ok-matches.matches) in
    let taken_is : taken program_syntax words ≡ Some rows = ap (λ l. taken l words) (sym c.program_syntax-syntax.ensures) ∙ c.in_ok-matches.ensures in
    ap (option_map (values_in program_syntax)) taken_is
    ∙ simp (← c.in_ok-passwd.ensures, ← c.in_ok-group.ensures, ← c.in_ok-dump.ensures)
