use Rattle.std.proofs.Common.{◌≡◌, take, map}
use Rattle.acl_names.specs.Names.{escaped}
use Rattle.facl_answers.proofs.index.written_names.Given as goal

abbrev pub invariant-loop-user : goal.invariant-loop-user
invariant-loop-user l = map (λ n. n.items) l.names.items ≡ map (λ row. escaped row.name) (take l.user l.people.users)
