use Rattle.std.proofs.Common.{◌≡◌, ◌∙◌, ℕ, List, Ok, sym, ap, subst}
use Rattle.acl_names.specs.Paths.{PathOf}
use Rattle.acl_text.specs.Results.{◌>>=◌}
use Rattle.acl_tree.specs.declared.command.Command.TheVariants.{Creat}
use Rattle.acl_tree.specs.declared.command.NewFile.{NewFile}
use Rattle.facl_tools.specs.Creat.{new_file}
use Rattle.facl_tools.specs.Operands.{name_meant, path_at}
use Rattle.facl_tools.specs.Replies.{Replies, done}
use Rattle.facl_tools.proofs.creat.answer.Goals as goal

pub returns : goal.returns
returns c =
    let s = c.args.state.now in
    let line = c.args.line in
    let new_in : List ℕ → PathOf → NewFile = λ user path. record { path = path; kind = line.kind; user = user; mode = line.mode; umask = line.umask } in
    let made : new_file line ≡ Ok (new_in (name_meant line.user) c.in_ok-path.path) =
    ap (λ read. read >>= λ path. Ok (new_in (name_meant line.user) path)) (ap (path_at 1) (sym c.as_bytes.ensures) ∙ c.in_ok-path.ensures) in
    let given = subst (λ (user : List ℕ). Replies s c.effect_of.result (done s (Creat (new_in user c.in_ok-path.path)))) c.in_ok-user.ensures c.effect_of.ensures in
    subst (Replies s c.effect_of.result) (ap (λ read. read >>= λ new. done s (Creat new)) (sym made)) given
