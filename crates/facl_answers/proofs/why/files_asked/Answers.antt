use Rattle.std.proofs.Common.{◌≢◌, Option, IfErr, rules, sym, ap, subst, ◌∙◌, false}
use Rattle.acl_tree.specs.declared.fault.TreeFault.TheVariants.{NoMemory}
use Rattle.acl_names.specs.Paths.{PathOf}
use Rattle.acl_tree.specs.Found.{files_found}
use Rattle.acl_tree.specs.Operands.{first_missing, IsMissing}
use Rattle.facl_answers.proofs.AskedFiles.{all_asked, first_asked}
use Rattle.facl_answers.proofs.why.files_asked.Goals as goal

pub returns-in_err-files-clause-reported : goal.returns-in_err-files-clause-reported
returns-in_err-files-clause-reported c =
    let t = c.args.tree.now.files in
    let same = ap (λ ps. first_missing ps t) c.in_ok-asked.ensures ∙ first_asked t c.args.along c.args.paths in
    subst (λ (o : Option PathOf). IfErr c.from_residual-in_err-files.result (λ fault. fault ≢ NoMemory → IsMissing fault o)) same (search rules)

pub returns-clause-all : goal.returns-clause-all
returns-clause-all c =
    let t = c.args.tree.now.files in
    c.in_ok-files.ensures.0 ∙ ap (λ ps. files_found false ps t) c.in_ok-asked.ensures ∙ all_asked t c.args.along c.args.paths

pub returns-clause-there : goal.returns-clause-there
returns-clause-there c =
    let t = c.args.tree.now.files in
    sym (ap (λ ps. first_missing ps t) c.in_ok-asked.ensures ∙ first_asked t c.args.along c.args.paths) ∙ c.in_ok-files.ensures.1
