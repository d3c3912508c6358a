use Rattle.std.proofs.Common.{subst, ap, ◌∙◌}
use Rattle.std.specs.Prelude.{option_map}
use Rattle.path_map.specs.Entries.{seen}
use Rattle.path_classes.specs.Classes.{TakesFile}
use Rattle.facl_answers.specs.Inner.{rowed_files}
use Rattle.facl_answers.proofs.WalkedTexts.{no_files, step_taken}
use Rattle.facl_answers.proofs.file_walk.Walk.next.Goals as goal

pub returns-in_default : goal.returns-in_default
returns-in_default c =
    let over = subst (λ o. TakesFile c.args.self.now.classes (option_map seen o) c.next.new.self) c.in_default.is c.in_ok-found.ensures.file in
    ap (rowed_files c.args.self.now.files) over.0

pub returns-in-None : goal.returns-in-None
returns-in-None c = ap (λ files. rowed_files files c.args.self.now.classes.1) c.in-None.ensures.steps.0 ∙ no_files c.args.self.now.classes.1

pub returns-in-Some-next : goal.returns-in-Some-next
returns-in-Some-next c =
    let taken = subst (λ o. TakesFile c.args.self.now.classes (option_map seen o) c.next.new.self) c.in-Some.is c.in_ok-found.ensures.file in
    step_taken c.args.self.now.files c.next-2.new.self c.args.self.now.classes c.next.new.self _ c.in-Some.field-0-0.now c.in-Some-next.ensures.steps taken
