use Rattle.std.proofs.Common.{subst}
use Rattle.std.specs.Prelude.{option_map}
use Rattle.path_map.specs.Entries.{seen}
use Rattle.path_classes.specs.Classes.{TakesFile}
use Rattle.facl_answers.proofs.BothRows.{new_taken}
use Rattle.facl_answers.proofs.both_classes.BothClasses.next_new.Goals as goal

pub returns-in-Some : goal.returns-in-Some
returns-in-Some c =
    let taken = subst (λ o. TakesFile c.args.self.now.after (option_map seen o) c.next.new.self) c.in-Some.is c.in_ok-path.ensures.file in
    new_taken c.args.self.now.before c.args.self.now.after c.next.new.self c.in-Some.path.now c.in-Some.class c.requires.before c.requires.after c.requires.is taken
