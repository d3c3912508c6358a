-- What is answered to a line: a reply, or the line's first fault.
use Rattle.std.specs.Option.{option_map_or}
use Rattle.std.specs.Prelude.{◌≡◌, ◌≢◌, ℕ, Bool, false, List, [], Result, Ok, Err, IfSome, MatchResult}
use Rattle.acl_text.specs.InTurn.{GivesUnless}
use Rattle.acl_text.specs.Results.{◌>>=◌, map_err}
use Rattle.acl_tree.specs.State.{State}
use Rattle.acl_tree.specs.Step.{step, users_move}
use Rattle.acl_tree.specs.Reports.{Reports}
use Rattle.acl_tree.specs.declared.command.Command.{Command}
use Rattle.acl_tree.specs.declared.fault.TreeFault.{TreeFault}
use Rattle.acl_tree.specs.declared.user_change.UserChange.{UserChange}
use Rattle.acl_tree.specs.declared.user_change.UserChange.TheVariants.{Unchanged}
use Rattle.facl_output.specs.declared.fault.LineFault.{LineFault}
use Rattle.facl_output.specs.declared.fault.LineFault.TheVariants.{NoMemory}
use Rattle.facl_output.specs.Faults.{line_fault_of_tree}
use Rattle.facl_tools.specs.declared.effect.Effect.{Effect}

-- what an accepted line leaves: the state, how it moved the users, what is printed, and whether it warns of default
-- entries that were dropped
pub record Reply : Type 0 where
  pub state : State
  pub user_change : UserChange
  pub out : List ℕ
  pub warns : Bool

-- the reply to a line that makes this of the state, and moves the users so; it prints nothing
abbrev pub replied : UserChange → Result State TreeFault → Result Reply LineFault
replied moved made = map_err line_fault_of_tree made >>= λ s. Ok (record { state = s; user_change = moved; out = []; warns = false })

-- a command is done: what its own tool replies
abbrev pub done : State → Command → Result Reply LineFault
done s command = replied (users_move s command) (step s command)

-- the state stays, and this is printed
abbrev pub printed : State → List ℕ → Reply
printed s out = record { state = s; user_change = Unchanged; out = out; warns = false }

-- ---- what is done to answer a line

-- the reply of a line that does this at a state
abbrev pub reply_of : State → Effect → Reply
reply_of s effect = record {
  state = option_map_or (λ staged. staged.state) effect.staged s;
  user_change = option_map_or (λ staged. staged.user_change) effect.staged Unchanged;
  out = effect.out.items;
  warns = effect.warns;
}

-- A call gives what is to be given, or returns exactly the fault, unless memory ran out.
abbrev pub Gives : {A B : Type 0} → (A → B) → Result A LineFault → Result B LineFault → Type 0
Gives view result is = GivesUnless NoMemory view result is

-- A call gives the effect of a line whose reply at a state is this, with its state prepared; or returns exactly the
-- fault, unless memory ran out.
abbrev pub Replies : State → Result Effect LineFault → Result Reply LineFault → Type 0
Replies s result is =
    MatchResult result (λ effect. (is ≡ Ok (reply_of s effect)) × IfSome effect.staged (Reports s)) (λ fault. fault ≢ NoMemory → is ≡ Err fault)
