use Rattle.std.proofs.Common.{◌≡◌, ◌≢◌, ◌∙◌, ℕ, List, Result, Ok, Err, ap, sym, arith}
use Rattle.std.proofs.lemmas.Grind.{common_steps}
use Rattle.acl_names.specs.Paths.{PathOf}
use Rattle.acl_people.specs.KnownPeople.{KnownPeople}
use Rattle.acl_rights.specs.Rows.{Verdict}
use Rattle.acl_text.specs.Results.{◌>>=◌}
use Rattle.acl_tree.specs.State.{State}
use Rattle.facl_output.specs.declared.fault.LineFault.{LineFault}
use Rattle.facl_output.specs.declared.fault.LineFault.TheVariants.{NoMemory}
use Rattle.facl_script.specs.Forms.{Text}
use Rattle.facl_tools.specs.Operands.{name_meant, paths_from, user_at}
use Rattle.facl_tools.specs.Replies.{printed}
use Rattle.facl.specs.Below.{listed_answered, listed_at}
use Rattle.facl.specs.declared.tools.below.BelowLine.{BelowLine}
use Rattle.facl.proofs.tools.below.answer_listed.Goals as goal

-- the remaining reads, once the paths are known, and what is read of the user
remaining : (V : Verdict) (s : State) (line : BelowLine) (word : Text) (most : ℕ) (paths : List PathOf) (known : KnownPeople) (user : Result ℕ LineFault)
    → paths_from 1 line.files ≡ Ok paths → known ≡ s.people → user_at known (name_meant word) ≡ user
    → listed_answered V s line word most ≡ ((user >>= listed_at V s line most paths) >>= λ out. Ok (printed s out))
remaining V s line word most paths known user is of_state at =
    ap (λ read. (read >>= λ paths. user_at s.people (name_meant word) >>= listed_at V s line most paths) >>= λ out. Ok (printed s out)) is
    ∙ ap (λ (u : Result ℕ LineFault). (u >>= listed_at V s line most paths) >>= λ out. Ok (printed s out))
    (sym (ap (λ (known : KnownPeople). user_at known (name_meant word)) of_state) ∙ at)

pub returns-in_err-paths : goal.returns-in_err-paths
returns-in_err-paths c = grind (arith, common_steps)

pub returns-in_err-user : goal.returns-in_err-user
returns-in_err-user g c =
    let s = c.args.indexed.now in
    let read = ap (paths_from 1) (sym c.as_slice.ensures) ∙ c.in_ok-paths.ensures in
    let of_state = c.people.ensures ∙ ap (λ (s : State). s.people) c.state.ensures in
    let fails = λ (other : c.in_err-user.field-0.0 ≢ NoMemory).
    remaining g.J.Judge.verdict_of s c.args.line.now c.args.user.now c.args.most c.in_ok-paths.paths c.people.result.now (Err c.in_err-user.field-0.0) read of_state (c.in_err-user.ensures other)
    in
    grind (arith, common_steps, fails)

pub returns-in_err-out : goal.returns-in_err-out
returns-in_err-out g c =
    let s = c.args.indexed.now in
    let read = ap (paths_from 1) (sym c.as_slice.ensures) ∙ c.in_ok-paths.ensures in
    let of_state = c.people.ensures ∙ ap (λ (s : State). s.people) c.state.ensures in
    let is =
    remaining g.J.Judge.verdict_of s c.args.line.now c.args.user.now c.args.most c.in_ok-paths.paths c.people.result.now (Ok c.in_ok-user.user) read of_state c.in_ok-user.ensures in
    grind (arith, common_steps, is)

pub returns : goal.returns
returns g c =
    let s = c.args.indexed.now in
    let read = ap (paths_from 1) (sym c.as_slice.ensures) ∙ c.in_ok-paths.ensures in
    let of_state = c.people.ensures ∙ ap (λ (s : State). s.people) c.state.ensures in
    let is =
    remaining g.J.Judge.verdict_of s c.args.line.now c.args.user.now c.args.most c.in_ok-paths.paths c.people.result.now (Ok c.in_ok-user.user) read of_state c.in_ok-user.ensures in
    grind (arith, common_steps, is)
