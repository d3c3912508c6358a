use Rattle.std.proofs.Common.{subst}
use Rattle.std.specs.Prelude.{option_map}
use Rattle.path_map.specs.Entries.{seen}
use Rattle.path_classes.specs.Classes.{TakesFile}
use Rattle.facl_answers.proofs.BothRows.{kept_taken}
use Rattle.facl_answers.proofs.both_classes.BothClasses.next_kept.Goals as goal

pub returns-in-Some-new : goal.returns-in-Some-new
returns-in-Some-new c =
    let left = subst (λ o. TakesFile c.args.self.now.before (option_map seen o) c.next.new.self) c.in-Some.is c.in_ok-old.ensures.file in
    let right = subst (λ o. TakesFile c.args.self.now.after (option_map seen o) c.next-2.new.self) c.in-Some-new.is c.in_ok-new.ensures.file in
    kept_taken c.args.self.now.before c.next.new.self c.args.self.now.after c.next-2.new.self c.in-Some.field-0-0.now c.in-Some-new.path.now c.in-Some.old
    c.in-Some-new.new c.requires.before c.requires.after c.requires.is left right
