use Rattle.std.proofs.Common.{◌≡◌, ◌∙◌, List, Option, Some, None, Ok, Err, ap, sym, arith}
use Rattle.std.proofs.lemmas.Grind.{common_steps}
use Rattle.std.specs.Option.{option_copied}
use Rattle.std.specs.Prelude.{ok_or}
use Rattle.acl_entry.specs.Person.{Person}
use Rattle.acl_names.specs.Paths.{PathOf}
use Rattle.acl_rights.specs.Deciders.{Decider}
use Rattle.acl_tree.specs.State.{State}
use Rattle.acl_tree.specs.declared.fault.TreeFault.TheVariants.{NoSuchUser}
use Rattle.facl_output.specs.declared.fault.LineFault.TheVariants.{Tree}
use Rattle.facl_tools.specs.Operands.{name_meant, paths_from}
use Rattle.facl_tools.specs.Replies.{printed}
use Rattle.facl.specs.Why.{answered, person_named, why_at, why_of}
use Rattle.facl.specs.declared.tools.why.WhyLine.{WhyLine}
use Rattle.acl_text.specs.Results.{◌>>=◌}
use Rattle.facl.proofs.tools.why.answer.Goals as goal

-- the remaining reads, once the paths and the user are known
remaining : (D : Decider) (s : State) (line : WhyLine) (paths : List PathOf) (user : Option Person) → paths_from 1 line.files ≡ Ok paths
    → user ≡ person_named s.people (name_meant line.user)
    → ((ok_or user (Tree (NoSuchUser (name_meant line.user))) >>= why_at D s line.reach paths) >>= λ out. Ok (printed s out)) ≡ answered D s line
remaining D s line paths user is named =
    ap (λ (u : Option Person). (ok_or u (Tree (NoSuchUser (name_meant line.user))) >>= why_at D s line.reach paths) >>= λ out. Ok (printed s out)) named
    ∙ ap (λ read. read >>= why_of D s line.reach line.user >>= λ out. Ok (printed s out)) (sym is)

pub returns-in_default : goal.returns-in_default
returns-in_default g c not_memory =
    let s = c.args.indexed.now in
    let line = c.args.line in
    let read = ap (paths_from 1) (sym c.as_slice.ensures) ∙ c.in_ok-paths.ensures in
    let named : None ≡ person_named s.people (name_meant line.user) =
    sym (ap option_copied c.in_default.is) ∙ c.subject_named.ensures
    ∙ ap (λ known. person_named known c.in_ok-name.name) (c.people.ensures ∙ ap (λ s. s.people) c.state.ensures)
    ∙ ap (person_named s.people) c.in_ok-name.ensures in
    sym (remaining g.J.Judge.decider_of s line c.in_ok-paths.paths None read named) ∙ ap (λ name. Err (Tree (NoSuchUser name))) (sym c.in_ok-name.ensures)

pub returns-in_err-files : goal.returns-in_err-files
returns-in_err-files g c =
    let s = c.args.indexed.now in
    let line = c.args.line in
    let read = ap (paths_from 1) (sym c.as_slice.ensures) ∙ c.in_ok-paths.ensures in
    let named : Some c.in-Some.subject.now ≡ person_named s.people (name_meant line.user) =
    sym (ap option_copied c.in-Some.is) ∙ c.subject_named.ensures
    ∙ ap (λ known. person_named known c.in_ok-name.name) (c.people.ensures ∙ ap (λ s. s.people) c.state.ensures)
    ∙ ap (person_named s.people) c.in_ok-name.ensures in
    let is = remaining g.J.Judge.decider_of s line c.in_ok-paths.paths (Some c.in-Some.subject.now) read named in
    grind (arith, common_steps, is)

pub returns-in_err-out : goal.returns-in_err-out
returns-in_err-out g c = grind (arith, common_steps)

pub returns : goal.returns
returns g c =
    let s = c.args.indexed.now in
    let line = c.args.line in
    let read = ap (paths_from 1) (sym c.as_slice.ensures) ∙ c.in_ok-paths.ensures in
    let named : Some c.in-Some.subject.now ≡ person_named s.people (name_meant line.user) =
    sym (ap option_copied c.in-Some.is) ∙ c.subject_named.ensures
    ∙ ap (λ known. person_named known c.in_ok-name.name) (c.people.ensures ∙ ap (λ s. s.people) c.state.ensures)
    ∙ ap (person_named s.people) c.in_ok-name.ensures in
    let is = remaining g.J.Judge.decider_of s line c.in_ok-paths.paths (Some c.in-Some.subject.now) read named in
    grind (arith, common_steps, is)
