-- What a command does is refused for the first of its faults.
use Rattle.std.proofs.Common.{◌≡◌, false, [], Result, Ok, Err, refl, sym, ap, ◌∙◌}
use Rattle.acl_names.proofs.Basics.{ok_is_not_err}
use Rattle.acl_tree.specs.declared.command.Command.{Command}
use Rattle.acl_tree.specs.declared.fault.TreeFault.{TreeFault}
use Rattle.acl_tree.specs.declared.user_change.UserChange.{UserChange}
use Rattle.acl_tree.specs.Refusals.{IsRefusedForFirst}
use Rattle.acl_tree.specs.Step.{users_move, step}
use Rattle.acl_tree.specs.State.{State}
use Rattle.facl_output.specs.Faults.{line_fault_of_tree}
use Rattle.facl_output.specs.declared.fault.LineFault.{LineFault}
use Rattle.facl.specs.CommandFaults.{IsFirstOf, IsRefusedAs}
use Rattle.facl_tools.specs.Replies.{done, replied}
use Rattle.facl.proofs.Outcomes.{err_eq}

-- a reply is refused exactly where the state cannot be made
cause_of : (moved : UserChange) (made : Result State TreeFault) (fault : LineFault) → replied moved made ≡ Err fault
    → (cause : TreeFault) × ((made ≡ Err cause) × (fault ≡ line_fault_of_tree cause))
cause_of moved (Ok s) fault h = absurd (ok_is_not_err (record { state = s; user_change = moved; out = []; warns = false }) fault h)
cause_of moved (Err cause) fault h = (cause, (refl, err_eq (replied moved (Err cause)) fault (line_fault_of_tree cause) h refl))

pub done_refused : (s : State) (c : Command) → IsRefusedForFirst s c → IsRefusedAs s c (done s c)
done_refused s c refused fault = (there, back)
  where
    there : done s c ≡ Err fault → IsFirstOf s c fault
    there h = by (cause_of (users_move s c) (step s c) fault h)
      where
        by : (cause : TreeFault) × ((step s c ≡ Err cause) × (fault ≡ line_fault_of_tree cause)) → IsFirstOf s c fault
        by (cause, (is, same)) = record { cause = cause; is = same; first = (refused.reported cause).0 is }

    back : IsFirstOf s c fault → done s c ≡ Err fault
    back h = ap (replied (users_move s c)) ((refused.reported h.cause).1 h.first) ∙ ap (λ f. Err f) (sym h.is)
