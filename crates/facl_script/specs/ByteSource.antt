-- What a source has read and returned.
use Rattle.std.specs.Prelude.{◌≡◌, ◌<◌, ◌+◌, ℕ, Bool, true, false, List, [], ◌++◌, length, slice_range, Option, None, Some, Result, MatchResult}
use Rattle.std.specs.Io.KnownBytes.{Keeps, Consumes, IsAtEnd, prepend_known}
use Rattle.facl_script.specs.declared.fault.ScriptFault.{ScriptFault}
use Rattle.facl_script.specs.declared.fault.ScriptFault.TheVariants.{Read, Write, TooLong, NoMemory}
use Rattle.facl_script.specs.declared.source.ByteSource.{ByteSource}
use Rattle.facl_script.specs.declared.source.LineRead.{LineRead}
use Rattle.facl_script.specs.Limits.{script_limit}
use Rattle.facl_script.specs.Lines.{HasNoLineFeed, Held, spelled}

-- what was read and not yet returned
abbrev pub pending : ByteSource → List ℕ
pending s = slice_range s.chunk s.start s.end

-- how many bytes were returned
abbrev pub taken_count : ByteSource → ℕ
taken_count s = s.taken

-- what is still to be returned, over what the reader has left
abbrev pub unread : ByteSource → Option (List ℕ) → Option (List ℕ)
unread s remaining = prepend_known (pending s) remaining

-- The source returned the text and then stopped with this fault.
abbrev pub StopsAfter : ScriptFault → Option (List ℕ) → ByteSource → Option (List ℕ) → Bool → List ℕ → Type 0
StopsAfter Read before s remaining failed text = Consumes before remaining text × (pending s ≡ []) × (failed ≡ true)
StopsAfter TooLong before s remaining failed text = ((more : List ℕ) × (length more ≡ 1) × Consumes before remaining (text ++ more)) × (pending s ≡ []) × (taken_count s ≡ script_limit)
StopsAfter NoMemory before s remaining failed text = Consumes before (unread s remaining) text
StopsAfter Write before s remaining failed text = ⊥

-- This text is the next line. It has an LF or is the last (for inner functions).
pub record IsNextLine (found : LineRead) (before after : Option (List ℕ)) (kept : List ℕ) (old new : ℕ) (text : List ℕ) : Type 0 where
  pub no_line_feed : HasNoLineFeed text
  pub consumes : Consumes before after (spelled text found.is_ended)
  pub last : found.is_ended ≡ false → (0 < length text) × IsAtEnd after
  pub held : Held found.is_too_long kept text
  pub count : new ≡ old + length (spelled text found.is_ended)

abbrev pub FindsLine : Option LineRead → Option (List ℕ) → Option (List ℕ) → List ℕ → ℕ → ℕ → Type 0
FindsLine None before after held old new = Keeps before after × IsAtEnd after × (new ≡ old)
FindsLine (Some found) before after held old new = (text : List ℕ) × IsNextLine found before after held old new text

-- The source returned a text that has no LF, or no unit to its end, and then stopped with this fault (for inner functions).
abbrev pub StopsReading : ScriptFault → (List ℕ → Type 0) → (old new : ByteSource) (before after : Option (List ℕ)) (failed : Bool) → Type 0
StopsReading fault HasNone old new before after failed =
    (text : List ℕ) × HasNone text × StopsAfter fault (unread old before) new after failed text × (taken_count new ≡ taken_count old + length text)

-- Some bytes are there to be returned, unless the reader is at its end. Or the source stopped.
abbrev pub Fills : {A : Type 0} → Result A ScriptFault → (old new : ByteSource) (before after : Option (List ℕ)) (failed : Bool) → Type 0
Fills result old new before after failed =
    MatchResult result
    (λ _. Keeps (unread old before) (unread new after) × (failed ≡ false) × (pending new ≡ [] → IsAtEnd after))
    (λ fault. StopsAfter fault (unread old before) new after failed [])

-- The next line was read, or the end was reached. Or the source stopped within a line.
abbrev pub ReadsLine : Result (Option LineRead) ScriptFault → (held : List ℕ) (old new : ByteSource) (before after : Option (List ℕ)) (failed : Bool) → Type 0
ReadsLine result held old new before after failed =
    MatchResult result
    (λ found. FindsLine found (unread old before) (unread new after) held (taken_count old) (taken_count new) × (failed ≡ false))
    (λ fault. StopsReading fault HasNoLineFeed old new before after failed)
