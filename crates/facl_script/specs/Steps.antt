-- What one character of a line does, wherever it is.
use Rattle.std.specs.Prelude.{ℕ, if◌then◌else◌}
use Rattle.facl_script.specs.declared.words.Place.{Place}
use Rattle.facl_script.specs.declared.words.Place.TheVariants.{Between, Within, Quoted}
use Rattle.facl_script.specs.declared.words.CharAction.{CharAction}
use Rattle.facl_script.specs.declared.words.CharAction.TheVariants.{Skips, Joins, Ends}
use Rattle.facl_script.specs.Words.{is_blank, is_quote}

abbrev pub action_of : Place → ℕ → CharAction
action_of Between c = if is_blank c then Skips else if is_quote c then Skips else Joins
action_of Within c = if is_blank c then Ends else if is_quote c then Skips else Joins
action_of Quoted c = if is_quote c then Skips else Joins

abbrev pub place_after : Place → ℕ → Place
place_after Between c = if is_blank c then Between else if is_quote c then Quoted else Within
place_after Within c = if is_blank c then Between else if is_quote c then Quoted else Within
place_after Quoted c = if is_quote c then Within else Quoted
