-- What a run asks of the judge.
use Rattle.std.specs.Prelude.{◌≤◌, ◌+◌, ℕ, Bool, List, Result, Ok, Err}
use Rattle.acl_rights.specs.Costs.{all_pairs}
use Rattle.acl_rights.specs.Deciders.{Judging}
use Rattle.acl_rights.specs.States.{from_start}
use Rattle.acl_tree.specs.State.{State}
use Rattle.facl_output.specs.declared.fault.RunFault.{RunFault}
use Rattle.facl_script.specs.Play.{session}
use Rattle.facl_script.specs.Streams.{Streams}
use Rattle.facl_tools.specs.TextWords.{line_asks}
use Rattle.facl.specs.Counted.{answered}
use Rattle.facl.specs.Headline.{RunsTo}
use Rattle.facl.specs.declared.status.Status.{Status}

-- the most verdicts that the judge gives: on every user and every file at the start, and what each unit costs
abbrev pub most_asked : Judging → (setup : Result State RunFault) → (script : List ℕ) → (m : ℕ → Bool) → ℕ
most_asked judge (Ok start) script m = all_pairs start + (session line_asks (answered judge) m script (from_start start)).cost
most_asked judge (Err fault) script m = 0

-- the whole script was answered, and the judge gave no more verdicts
pub record RunsAsking (judge : Judging) (setup : Result State RunFault) (script : List ℕ) (status : Status) (asked : ℕ) (old new : Streams) : Type 0 where
  pub runs : RunsTo judge setup script status old new
  pub asks : asked ≤ most_asked judge setup script runs.m
