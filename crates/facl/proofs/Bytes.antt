-- What a session writes, whatever its units cost; and what a run asks for beside it.
use Rattle.std.proofs.Common.{◌≡◌, ℕ, Bool, true, false, if◌then◌else◌, List, [], ◌∷◌, Option, Some, None, Result, Ok, Err, refl, sym, ap, ◌∙◌, subst}
use Rattle.std.specs.Prelude.{IfOk, IfSome}
use Rattle.acl_rights.specs.Costs.{all_pairs}
use Rattle.acl_rights.specs.Deciders.{Judging}
use Rattle.acl_rights.specs.States.{from_start}
use Rattle.acl_rights.specs.declared.indexed.States.{States}
use Rattle.acl_tree.specs.State.{State}
use Rattle.facl_output.specs.declared.fault.LineFault.{LineFault}
use Rattle.facl_output.specs.declared.fault.LineFault.TheVariants.{NoMemory}
use Rattle.facl_output.specs.declared.fault.RunFault.{RunFault}
use Rattle.facl_script.specs.Forms.{Text}
use Rattle.facl_script.specs.Play as plays
use Rattle.facl_script.specs.Play.{Answer}
use Rattle.facl_script.specs.Run.{Ends}
use Rattle.facl_script.specs.Streams.{Streams, moment}
use Rattle.facl_tools.specs.TextWords.{line_asks}
use Rattle.facl_script.specs.Units.{ScriptUnit, units_of}
use Rattle.facl_script.specs.Write.{Writes}
use Rattle.facl_tools.specs.Replies.{Reply}
use Rattle.facl.specs.Asking.{RunsAsking}
use Rattle.facl.specs.Counted as counted
use Rattle.facl.specs.Headline.{RunsTo, has_refused, joined, play}
use Rattle.facl.specs.Units.{UnitAnswer, answer_of, answer_of_words, answered, is_silent, quiet, refused, reply, tool_word, words_of_line}
use Rattle.facl.specs.declared.status.Status.{Status}

abbrev bytes_of : Answer States → UnitAnswer
bytes_of a = record { out = a.out; err = a.err; state = a.state; refused = a.refused }

module _ (judge : Judging) where
  same_reply : (number : ℕ) (tool : Text) (w : States) (r : Result Reply LineFault) → bytes_of (counted.answer_of number tool w r) ≡ answer_of number tool w r
  same_reply number tool w (Ok r) = refl
  same_reply number tool w (Err fault) = refl

  same_words : (u : ScriptUnit) (w : States) (r : Result (List Text) LineFault) → bytes_of (counted.answer_of_words judge u w r) ≡ answer_of_words judge u w r
  same_words u w (Ok words) = same_reply u.number (tool_word words) w (reply judge w u.text words)
  same_words u w (Err fault) = refl

  same_answer : (ran_out : Bool) (u : ScriptUnit) (w : States) → bytes_of (counted.answered judge ran_out u w) ≡ answered judge ran_out u w
  same_answer ran_out u w = by (is_silent u.line) ran_out
    where
      by : (silent ran_out : Bool)
          → bytes_of (if silent then plays.quiet w else counted.unless_out_of_memory ran_out u.number w (counted.answer_of_words judge u w (words_of_line u.line)))
          ≡ (if silent then quiet w else (if ran_out then refused u.number [] NoMemory w else answer_of_words judge u w (words_of_line u.line)))
      by true ran_out = refl
      by false true = refl
      by false false = same_words u w (words_of_line u.line)

  same_play : (m : ℕ → Bool) (us : List ScriptUnit) (w : States) → bytes_of (plays.play (counted.answered judge) m us w) ≡ play judge m us w
  same_play m [] w = refl
  same_play m (u ∷ us) w =
      let a = counted.answered judge (m u.number) u w in
      ap (joined (bytes_of a)) (same_play m us a.state) ∙ ap (λ (b : UnitAnswer). joined b (play judge m us b.state)) (same_answer (m u.number) u w)

  started : (start : State) (states : States) (script : List ℕ) (is_refused : Bool) (status : Status) (asked : ℕ) (old new : Streams)
      → has_refused status ≡ is_refused
      → Ends line_asks (counted.answered judge) script is_refused (moment (from_start start) (all_pairs start) old) (moment states asked new)
      → RunsAsking judge (Ok start) script status asked old new
  started start states script is_refused status asked old new same ends =
      let bytes = same_play ends.m (units_of line_asks script) (from_start start) in
      record {
        runs = record {
          m = ends.m;
          session = play judge ends.m (units_of line_asks script) (from_start start);
          is = refl;
          within = ends.within;
          writes = subst (λ (a : UnitAnswer). Writes old new a.out a.err) bytes ends.gives.writes;
          status_is = same ∙ ends.refused_is ∙ ap (λ (a : UnitAnswer). a.refused) bytes;
        };
        asks = ends.gives.spends;
      }

  -- a script that was answered, of which all pairs were judged by its start
  pub runs_asking : (setup : Result State RunFault) (start : State) (first states : States) (known : Option (List ℕ)) (is_refused : Bool) (status : Status)
      (asked asked' : ℕ) (old new : Streams) → setup ≡ Ok start → first ≡ from_start start → asked ≡ all_pairs start → has_refused status ≡ is_refused
      → IfSome known (λ script. Ends line_asks (counted.answered judge) script is_refused (moment first asked old) (moment states asked' new))
      → IfSome known (λ script. RunsAsking judge setup script status asked' old new)
  runs_asking setup start first states None is_refused status asked asked' old new e starts pairs same ends = tt
  runs_asking setup start first states (Some script) is_refused status asked asked' old new e starts pairs same ends =
      subst (λ s. RunsAsking judge s script status asked' old new) (sym e)
      (started start states script is_refused status asked' old new same
      (subst (λ w. Ends line_asks (counted.answered judge) script is_refused (moment w (all_pairs start) old) (moment states asked' new)) starts
      (subst (λ n. Ends line_asks (counted.answered judge) script is_refused (moment first n old) (moment states asked' new)) pairs ends)))

  -- a run that is known to ask for no more
  pub runs_to : (setup : Result State RunFault) (result : Result Status RunFault) (known : Option (List ℕ)) (asked : ℕ) (old new : Streams)
      → IfOk result (λ status. IfSome known (λ script. RunsAsking judge setup script status asked old new))
      → IfOk result (λ status. IfSome known (λ script. RunsTo judge setup script status old new))
  runs_to setup (Err fault) known asked old new h = tt
  runs_to setup (Ok status) None asked old new h = tt
  runs_to setup (Ok status) (Some script) asked old new h = h.runs
