-- Every line is refused for its first part at fault.
use Rattle.std.proofs.Common.{◌≡◌, ℕ, Bool, true, false, List, [], ◌∷◌, Option, Some, None, Result, Ok, Err, refl, sym, subst}
use Rattle.acl_edit.specs.declared.edit.Edit.{Edit}
use Rattle.acl_edit.specs.declared.edit.Edit.TheVariants.{Put, Flatten}
use Rattle.acl_text.specs.declared.fault.Which.TheVariants.{Access, Default}
use Rattle.acl_tree.specs.declared.command.Command.TheVariants as commands
use Rattle.acl_names.specs.Paths.{PathOf}
use Rattle.acl_tree.specs.Found.{files_found}
use Rattle.acl_tree.specs.State.{State}
use Rattle.facl_answers.specs.Answers.{index_text, user_line, file_line, all_files}
use Rattle.acl_rights.specs.Verdicts.{granted}
use Rattle.acl_entry.specs.Check.{has}
use Rattle.acl_entry.specs.Perms.{Perms}
use Rattle.acl_edit.specs.declared.node.Node.{Node}
use Rattle.acl_text.specs.declared.rows.PasswdRow.{PasswdRow}
use Rattle.acl_text.specs.Results.{◌>>=◌, unless}
use Rattle.std.specs.Prelude.{filter}
use Rattle.std.specs.List.{flat_map}
use Rattle.facl_output.specs.AttrListings.{attr_listing}
use Rattle.facl_counts.specs.BelowText.{below_text, folders_text, listed_text}
use Rattle.facl_answers.specs.ChangesText.{changes_text}
use Rattle.facl_counts.specs.GainsText.{gains_text}
use Rattle.facl_answers.specs.WhyText.{files_asked}
use Rattle.facl_script.specs.Forms.{Text}
use Rattle.facl_output.specs.declared.fault.LineFault.{LineFault}
use Rattle.facl_output.specs.declared.fault.Source.TheVariants.{Entry, DefaultEntry}
use Rattle.facl_tools.specs.Chacl as chacl
use Rattle.facl.specs.Can as can
use Rattle.facl_tools.specs.Creat as creat
use Rattle.facl.specs.Below.{shown_answered}
use Rattle.facl.specs.ToolParts.{rank, place, OfBelow, OfNothing, OfPaths, OfListing, OfUser, OfUserAndFiles, OfSetfacl, OfTask, IsAtFault, file_at}
use Rattle.facl.specs.FirstPart.{IsRefusedForFirst}
use Rattle.facl_tools.specs.Getfacl as getfacl
use Rattle.facl_tools.specs.Lists.{list_of_text}
use Rattle.facl_tools.specs.Load as load
use Rattle.facl.specs.May as may
use Rattle.facl_tools.specs.Operands.{path_at, paths_from, name_meant, not_recorded}
use Rattle.facl_tools.specs.Replies.{Reply, done, printed}
use Rattle.facl_tools.specs.Setattr as setattr
use Rattle.facl_tools.specs.Setfacl as setfacl_line
use Rattle.facl_tools.specs.Setfacl.{records_of, restored_or_tested}
use Rattle.acl_rights.specs.Deciders.{Decider, Judging}
use Rattle.acl_rights.specs.Rows.{Verdict}
use Rattle.facl.specs.ToolLines.{answered}
use Rattle.facl_tools.specs.Useradd.{new_user}
use Rattle.facl.specs.Who as who
use Rattle.facl.specs.Who.{who_at}
use Rattle.facl.specs.Why as why
use Rattle.facl.specs.Why.{named_why}
use Rattle.facl.specs.declared.tools.below.BelowLine.{BelowLine}
use Rattle.facl.specs.declared.tools.below.Shown.{Shown}
use Rattle.facl.specs.declared.tools.below.Shown.TheVariants.{Counts, Folders, Listed}
use Rattle.facl.specs.declared.tools.can.CanLine.{CanLine}
use Rattle.facl_tools.specs.declared.chacl.Task.{Task}
use Rattle.facl_tools.specs.declared.chacl.Task.TheVariants as tasks
use Rattle.facl_tools.specs.declared.creat.CreatLine.{CreatLine}
use Rattle.facl.specs.declared.tools.may.MayLine.{MayLine}
use Rattle.facl_tools.specs.declared.setfacl.SetfaclLine.{SetfaclLine}
use Rattle.facl_tools.specs.declared.setfacl.SetfaclLine.TheVariants as setfacl
use Rattle.facl.specs.declared.tools.ToolLine.{ToolLine}
use Rattle.facl.specs.declared.tools.ToolLine.TheVariants as lines
use Rattle.facl.specs.declared.tools.who.WhoLine.{WhoLine}
use Rattle.facl.specs.declared.tools.why.WhyLine.{WhyLine}
use Rattle.facl.proofs.FirstPart.{accepted}
use Rattle.facl.proofs.NoPaths.{reads_files, reads_file}
use Rattle.facl.proofs.Outcomes.{after_after}
use Rattle.facl.proofs.Parts.{Refused, named, is_named}
use Rattle.facl.proofs.PartsOfLines.{command_refused, paths_refused, text_refused, text_and_files_refused, two_texts_refused, change_refused}
use Rattle.facl.proofs.PartsOfQuestions.{listing_refused, one_file_refused, user_refused, user_and_file_refused, asked_and_files_refused, placed_and_files_refused, user_and_files_refused}

-- the files of a line, and what is done with them
files_refused : (files : List Text) (use_of : List PathOf → Result Reply LineFault) → Refused (OfPaths files (paths_from 1 files) use_of) (paths_from 1 files >>= use_of)
files_refused files use_of = paths_refused files (paths_from 1 files) (reads_files files) use_of

setfacl_refused : (s : State) (line : SetfaclLine) (text : List ℕ) → Refused (OfSetfacl s line text) (setfacl_line.answered s line text)
setfacl_refused s (setfacl.Change line) text = change_refused s line text
setfacl_refused s (setfacl.Restore test) text = text_refused (records_of s.people text) (restored_or_tested test s)

edit_refused : (s : State) (recursive : Bool) (edit : Edit) (files : List Text)
    → Refused (OfPaths files (paths_from 1 files) (λ paths. done s (commands.Edit paths edit recursive))) (paths_from 1 files >>= λ paths. done s (commands.Edit paths edit recursive))
edit_refused s recursive edit files = files_refused files (λ paths. done s (commands.Edit paths edit recursive))

task_refused : (s : State) (recursive : Bool) (task : Task) (files : List Text) → Refused (OfTask s recursive task files) (chacl.task_done s recursive task files)
task_refused s recursive (tasks.PutAccess text) files =
    text_and_files_refused (list_of_text s.people Entry Access text) files (λ access paths. done s (commands.Edit paths (Put (Some access) None) recursive))
task_refused s recursive (tasks.PutDefault text) files =
    text_and_files_refused (list_of_text s.people DefaultEntry Default text) files (λ dacl paths. done s (commands.Edit paths (Put None (Some dacl)) recursive))
task_refused s recursive (tasks.PutBoth text default_text) files =
    two_texts_refused (list_of_text s.people Entry Access text) (list_of_text s.people DefaultEntry Default default_text) files
    (λ access dacl paths. done s (commands.Edit paths (Put (Some access) (Some dacl)) recursive))
task_refused s recursive tasks.RemoveAccess files = edit_refused s recursive (Flatten true false) files
task_refused s recursive tasks.RemoveDefault files = edit_refused s recursive (Flatten false true) files
task_refused s recursive tasks.RemoveBoth files = edit_refused s recursive (Flatten true true) files
task_refused s recursive tasks.List files =
    listing_refused s.tree.files files (λ paths. printed s (chacl.chacl_text s.people (files_found recursive paths s.tree.files)))

creat_refused : (s : State) (line : CreatLine)
    → Refused (OfPaths (line.file ∷ []) (path_at 1 line.file) (λ path. done s (commands.Creat (file_at line path)))) (creat.answered s line)
creat_refused s line =
    subst (Refused (OfPaths (line.file ∷ []) (path_at 1 line.file) (λ path. done s (commands.Creat (file_at line path)))))
    (after_after (path_at 1 line.file) (λ path. Ok (file_at line path)) (λ new. done s (commands.Creat new)))
    (paths_refused (line.file ∷ []) (path_at 1 line.file) (reads_file line.file) (λ path. done s (commands.Creat (file_at line path))))

-- what `who` and `may` print
abbrev users_shown : Verdict → Bool → State → Perms → PathOf → Node → List ℕ
users_shown verdict along s q p n = flat_map user_line (filter (λ row. has (granted verdict along s row (p, n)) q) s.people.users)

abbrev files_shown : Verdict → Bool → State → Perms → PasswdRow → List ℕ
files_shown verdict along s q row = flat_map file_line (filter (λ file. has (granted verdict along s row (file.path, file.node)) q) (all_files s))

who_refused : (verdict : Verdict) (s : State) (line : WhoLine) → Refused (OfListing s.tree.files (line.file ∷ [])) (who.answered verdict s line)
who_refused verdict s line =
    subst (Refused (OfListing s.tree.files (line.file ∷ [])))
    (after_after (path_at 1 line.file) (who_at verdict line.reach s line.request) (λ out. Ok (printed s out)))
    (one_file_refused s.tree.files line.file (users_shown verdict line.reach s line.request) s)

can_refused : (verdict : Verdict) (s : State) (line : CanLine) → Refused (OfUserAndFiles s line.user (line.file ∷ [])) (can.answered verdict s line)
can_refused verdict s line = user_and_file_refused s line.user line.file (λ path n row. granted verdict line.reach s row (path, n))

may_refused : (verdict : Verdict) (s : State) (line : MayLine) → Refused (OfUser s.people line.user) (may.answered verdict s line)
may_refused verdict s line = user_refused s.people line.user (files_shown verdict line.reach s line.request) s

why_refused : (D : Decider) (s : State) (line : WhyLine) → Refused (OfUserAndFiles s line.user line.files) (why.answered D s line)
why_refused D s line = user_and_files_refused s line.user line.files (λ paths u. named_why D s.people u (files_asked line.reach paths s.tree.files))

-- what is printed of files that are looked at
printed_after : {A : Type 0} (read : Result A LineFault) (missing : A → Option LineFault) (text : A → Text) (s : State)
    → ((read >>= λ a. unless (missing a) (Ok (text a))) >>= λ out. Ok (printed s out)) ≡ (read >>= λ a. unless (missing a) (Ok (printed s (text a))))
printed_after (Err f) missing text s = refl
printed_after (Ok a) missing text s = by (missing a)
  where
    by : (o : Option LineFault) → (unless o (Ok (text a)) >>= λ out. Ok (printed s out)) ≡ unless o (Ok (printed s (text a)))
    by None = refl
    by (Some f) = refl

below_refused : (verdict : Verdict) (s : State) (line : BelowLine) (shown : Shown) → Refused (OfBelow s shown line.files) (shown_answered verdict s line shown)
below_refused verdict s line Counts = listing_refused s.tree.files line.files (λ paths. printed s (below_text verdict line.reach s line.asked.request line.asked.kind paths))
below_refused verdict s line (Listed word most) =
    placed_and_files_refused s word line.files (λ paths user. listed_text verdict line.reach s line.asked.request line.asked.kind paths user most)
below_refused verdict s line (Folders None depth) =
    subst (Refused (OfListing s.tree.files line.files))
    (sym (printed_after (paths_from 1 line.files) (λ paths. not_recorded paths s.tree.files) (λ paths. folders_text verdict line.reach s line.asked.request line.asked.kind None depth paths) s))
    (listing_refused s.tree.files line.files (λ paths. printed s (folders_text verdict line.reach s line.asked.request line.asked.kind None depth paths)))
below_refused verdict s line (Folders (Some word) depth) =
    asked_and_files_refused s word line.files (λ paths user. folders_text verdict line.reach s line.asked.request line.asked.kind user depth paths)

-- what looks at the whole state
nothing_refused : (reply : Reply) → Refused OfNothing (Ok reply)
nothing_refused reply = accepted rank place named is_named OfNothing (Ok reply) reply refl (λ part fault h. h)

pub first_fault_refuses : (judge : Judging) (loaded s : State) (line : ToolLine) (text : List ℕ) → IsRefusedForFirst rank place (IsAtFault s line text) (answered judge loaded s line text)
unfolding answered
first_fault_refuses judge loaded s (lines.Load line) text = command_refused (load.answered s line text)
first_fault_refuses judge loaded s (lines.Getfacl line) text =
    listing_refused s.tree.files line.files (λ paths. printed s (getfacl.getfacl_text s.people line.options (files_found line.recursive paths s.tree.files)))
first_fault_refuses judge loaded s (lines.Setfacl line) text = setfacl_refused s line text
first_fault_refuses judge loaded s (lines.Chacl line) text = task_refused s line.recursive line.task line.files
first_fault_refuses judge loaded s (lines.Chmod line) text = files_refused line.files (λ paths. done s (commands.Chmod paths line.mode line.recursive))
first_fault_refuses judge loaded s (lines.Creat line) text = creat_refused s line
first_fault_refuses judge loaded s (lines.Rm line) text = files_refused line.files (λ paths. done s (commands.Rm paths line.recursive))
first_fault_refuses judge loaded s (lines.Gpasswd line) text = command_refused (done s (commands.Gpasswd (name_meant line.user) (name_meant line.group) line.change))
first_fault_refuses judge loaded s (lines.Usermod line) text = command_refused (done s (commands.Usermod (name_meant line.user) (name_meant line.group)))
first_fault_refuses judge loaded s (lines.Attr line) text = listing_refused s.tree.files line.files (λ paths. printed s (attr_listing (files_found false paths s.tree.files)))
first_fault_refuses judge loaded s (lines.Setattr line) text =
    text_and_files_refused (setattr.list_of_digits line.attribute.digits) line.files (λ acl paths. done s (commands.Edit paths (setattr.put_of line.attribute.which acl) false))
first_fault_refuses judge loaded s (lines.Can line) text = can_refused judge.verdict s line
first_fault_refuses judge loaded s (lines.Who line) text = who_refused judge.verdict s line
first_fault_refuses judge loaded s (lines.May line) text = may_refused judge.verdict s line
first_fault_refuses judge loaded s (lines.Below line) text = below_refused judge.verdict s line line.shown
first_fault_refuses judge loaded s (lines.Why line) text = why_refused judge.decider s line
first_fault_refuses judge loaded s lines.Index text = nothing_refused (printed s (index_text judge.verdict s))
first_fault_refuses judge loaded s (lines.Changes line) text = nothing_refused (printed s (changes_text judge.verdict line.reach loaded s))
first_fault_refuses judge loaded s (lines.Gains line) text = nothing_refused (printed s (gains_text judge.verdict line.reach loaded s))
first_fault_refuses judge loaded s (lines.Useradd line) text = command_refused (done s (commands.Useradd (new_user line)))
first_fault_refuses judge loaded s (lines.Userdel line) text = command_refused (done s (commands.Userdel (name_meant line.user)))
