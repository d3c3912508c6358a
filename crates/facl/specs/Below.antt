-- below: the users who may do something with a file at or below some paths, or these files of one user, or how many there
-- are folder by folder. The state stays as it is.
use Rattle.std.specs.Prelude.{ℕ, [], ◌∷◌, List, Bool, true, false, codes, refl, Option, Some, None, Result, option_and_then, option_map, Ok}
use Rattle.acl_edit.specs.declared.node.Kind.{Kind}
use Rattle.acl_edit.specs.declared.node.Kind.TheVariants.{Plain, Directory}
use Rattle.facl_tools.specs.Asked.{has, operand, operands_from, value}
use Rattle.acl_names.specs.Paths.{PathOf}
use Rattle.acl_text.specs.Ids.{id_of}
use Rattle.facl_counts.specs.BelowText.{below_text, folders_text, listed_text}
use Rattle.acl_people.specs.KnownPeople.{KnownPeople}
use Rattle.acl_tree.specs.State.{State}
use Rattle.acl_rights.specs.Rows.{Verdict}
use Rattle.facl_script.specs.Forms.{Text, files_of}
use Rattle.facl_script.specs.Syntax.{Syntax, by_name, one, some}
use Rattle.facl_script.specs.declared.tool_words.Words.{Words}
use Rattle.facl_output.specs.declared.fault.LineFault.{LineFault}
use Rattle.facl_tools.specs.Operands.{paths_from, name_meant, user_at, not_recorded}
use Rattle.facl_tools.specs.Readers.{permissions_of}
use Rattle.facl_tools.specs.Replies.{Reply, printed}
use Rattle.facl.specs.declared.tools.below.BelowLine.{BelowLine}
use Rattle.facl.specs.declared.tools.below.Shown.{Shown}
use Rattle.facl.specs.declared.tools.below.Shown.TheVariants.{Counts, Folders, Listed}
use Rattle.acl_text.specs.Results.{◌>>=◌, unless}

abbrev pub syntax : Syntax
syntax = record {
  flags = by_name (codes "reach")
      ∷ by_name (codes "plain")
      ∷ by_name (codes "directories") ∷ [];
  options = by_name (codes "user") ∷ by_name (codes "list") ∷ by_name (codes "depth") ∷ [];
  operands = one (codes "perms") ∷ some (codes "file") ∷ [];
}

-- the kind of files that count, or none where all do; `--plain` and `--directories` exclude each other
abbrev pub kind_for : (plain directories : Bool) → Option (Option Kind)
kind_for true true = None
kind_for true false = Some (Some Plain)
kind_for false true = Some (Some Directory)
kind_for false false = Some None

-- what is printed: `--list` comes with `--user`, `--user` with `--list` or `--depth`, and these two exclude each other;
-- their values are digits alone, at most 4294967294
abbrev pub shown_for : (user list depth : Option Text) → Option Shown
shown_for None None None = Some Counts
shown_for None None (Some depth) = option_map (λ n. Folders None n) (id_of depth)
shown_for None (Some list) depth = None
shown_for (Some user) None None = None
shown_for (Some user) None (Some depth) = option_map (λ n. Folders (Some user) n) (id_of depth)
shown_for (Some user) (Some list) None = option_map (λ n. Listed user n) (id_of list)
shown_for (Some user) (Some list) (Some depth) = None

-- the line that words give, unless they are usage
abbrev pub read : Words → Option BelowLine
read w =
    option_and_then
    (λ kind. option_and_then
    (λ shown. option_and_then
    (λ request. option_map
    (λ files. record { reach = has syntax w (codes "reach") refl; asked = record { request = request; kind = kind }; shown = shown; files = files })
    (files_of (operands_from syntax w (codes "file") refl)))
    (permissions_of (operand syntax w (codes "perms") refl)))
    (shown_for (value syntax w (codes "user") refl) (value syntax w (codes "list") refl) (value syntax w (codes "depth") refl)))
    (kind_for (has syntax w (codes "plain") refl) (has syntax w (codes "directories") refl))

-- these users are printed, where each path is recorded
abbrev pub counts_answered : Verdict → State → BelowLine → Result Reply LineFault
counts_answered verdict s line = do
  paths ← paths_from 1 line.files
  unless (not_recorded paths s.tree.files) (Ok (printed s (below_text verdict line.reach s line.asked.request line.asked.kind paths)))

-- the first files of the user at a place
abbrev pub listed_at : Verdict → State → BelowLine → (most : ℕ) → List PathOf → (user : ℕ) → Result Text LineFault
listed_at verdict s line most paths user =
    unless (not_recorded paths s.tree.files) (Ok (listed_text verdict line.reach s line.asked.request line.asked.kind paths user most))

-- the first files of the user whom a word means are printed, where each path is recorded
abbrev pub listed_answered : Verdict → State → BelowLine → (user : Text) → (most : ℕ) → Result Reply LineFault
listed_answered verdict s line user most =
    (paths_from 1 line.files >>= λ paths. user_at s.people (name_meant user) >>= listed_at verdict s line most paths) >>= λ out. Ok (printed s out)

-- the place of the user whom a word means, if there is a word
abbrev pub place_of : KnownPeople → Option Text → Result (Option ℕ) LineFault
place_of known None = Ok None
place_of known (Some word) = user_at known (name_meant word) >>= λ user. Ok (Some user)

-- the counts of folders, of all users or of one
abbrev pub folders_at : Verdict → State → BelowLine → (depth : ℕ) → List PathOf → (user : Option ℕ) → Result Text LineFault
folders_at verdict s line depth paths user =
    unless (not_recorded paths s.tree.files) (Ok (folders_text verdict line.reach s line.asked.request line.asked.kind user depth paths))

abbrev pub folders_answered : Verdict → State → BelowLine → (user : Option Text) → (depth : ℕ) → Result Reply LineFault
folders_answered verdict s line user depth =
    (paths_from 1 line.files >>= λ paths. place_of s.people user >>= folders_at verdict s line depth paths) >>= λ out. Ok (printed s out)

-- what a line prints
abbrev pub shown_answered : Verdict → State → BelowLine → Shown → Result Reply LineFault
shown_answered verdict s line Counts = counts_answered verdict s line
shown_answered verdict s line (Listed user most) = listed_answered verdict s line user most
shown_answered verdict s line (Folders user depth) = folders_answered verdict s line user depth

abbrev pub answered : Verdict → State → BelowLine → Result Reply LineFault
answered verdict s line = shown_answered verdict s line line.shown
