-- Lines of each form are refused for their first part at fault.
use Rattle.std.proofs.Common.{◌≡◌, ◌≤◌, ℕ, List, Option, Some, None, Result, Ok, Err, refl, sym, ap, ◌∙◌, arith}
use Rattle.std.specs.Prelude.{option_map}
use Rattle.acl_text.specs.declared.entries.Spec.{Spec}
use Rattle.acl_text.specs.declared.entries.Want.TheVariants.{WithPerms, WithoutPerms}
use Rattle.acl_text.specs.Results.{◌>>=◌, unless}
use Rattle.acl_names.specs.Paths.{PathOf}
use Rattle.acl_names.proofs.Basics.{ok_or_err, some_is_not_none}
use Rattle.acl_tree.specs.State.{State}
use Rattle.facl_output.specs.declared.fault.LineFault.{LineFault}
use Rattle.facl_output.specs.declared.fault.LineFault.TheVariants.{Both}
use Rattle.facl_script.specs.Forms.{Text}
use Rattle.facl.specs.ToolParts.{Part, in_first_text, in_second_text, in_third_text, in_two_texts, in_operand, in_user, in_file, in_command, rank, OfCommand}
use Rattle.facl.specs.ToolParts.{OfPaths, OfText, OfTextAndFiles, OfTwoTextsAndFiles, OfChange, both_of, entries_put}
use Rattle.facl_tools.specs.Operands.{paths_from}
use Rattle.facl_tools.specs.Replies.{Reply}
use Rattle.facl_tools.specs.Setfacl.{entries_given, entries_of_line, both_at, change_files, change_line, drops}
use Rattle.facl_tools.specs.declared.setfacl.ChangeLine.{ChangeLine}
use Rattle.facl_tools.specs.declared.setfacl_entries.ChangeEntries.{ChangeEntries}
use Rattle.facl.proofs.NoPaths.{Reads, reads_files}
use Rattle.facl.proofs.Outcomes.{ok_eq, err_eq, err_before, same_two, same_three, same_found}
use Rattle.facl.proofs.Parts.{Refused, from_zero, refused_in, step, operands, last}

-- ---- what the line does

module _ (reply : Result Reply LineFault) where
  from_command : (q : Part) (g : LineFault) → OfCommand reply q g → 7 ≤ rank q
  from_command in_command g h = omega arith
  from_command q g h = absurd h

  pub command_refused : Refused (OfCommand reply) reply
  command_refused = last (OfCommand reply) reply (λ f h. h) (λ f h. h) from_command

-- ---- operands

module _ {A : Type 0} (words : List Text) (paths : Result A LineFault) (reads : Reads words paths) (use_of : A → Result Reply LineFault) where
  from_operands : (q : Part) (g : LineFault) → OfPaths words paths use_of q g → 4 ≤ rank q
  from_operands (in_operand n) g h = omega arith
  from_operands in_command g h = omega arith
  from_operands q g h = absurd h

  after_operands : (a : A) → paths ≡ Ok a → (q : Part) (g : LineFault) → OfPaths words paths use_of q g → 7 ≤ rank q
  after_operands a is (in_operand n) g h = absurd (reads.good a is n h.1)
  after_operands a is in_command g h = omega arith
  after_operands a is q g h = absurd h

  pub paths_refused : Refused (OfPaths words paths use_of) (paths >>= use_of)
  paths_refused =
      operands (OfPaths words paths use_of) words paths use_of reads (λ n g h. h) (λ n g h. h) from_operands
      (λ a is. last (OfPaths words paths use_of) (use_of a)
      (λ f h. ap use_of (ok_eq paths a h.value is h.is_read) ∙ h.refused)
      (λ f e. record { value = a; is_read = is; refused = e })
      (after_operands a is))

-- ---- a text

module _ {A : Type 0} (text : Result A LineFault) (use_of : A → Result Reply LineFault) where
  after_text : (a : A) → text ≡ Ok a → (q : Part) (g : LineFault) → OfText text use_of q g → 7 ≤ rank q
  after_text a is in_first_text g h = absurd (ok_or_err text a g is h)
  after_text a is in_command g h = omega arith
  after_text a is q g h = absurd h

  pub text_refused : Refused (OfText text use_of) (text >>= use_of)
  text_refused =
      step (OfText text use_of) in_first_text text use_of refl (λ f h. h) (λ f h. h) (λ q g h. from_zero (rank q))
      (λ a is. last (OfText text use_of) (use_of a)
      (λ f h. ap use_of (ok_eq text a h.value is h.is_read) ∙ h.refused)
      (λ f e. record { value = a; is_read = is; refused = e })
      (after_text a is))

-- ---- a text, and files

module _ {A : Type 0} (text : Result A LineFault) (files : List Text) (use_of : A → List PathOf → Result Reply LineFault) where
  abbrev OfThem : Part → LineFault → Type 0
  OfThem = OfTextAndFiles text files use_of

  then_files : (a : A) → text ≡ Ok a → (q : Part) (g : LineFault) → OfTextAndFiles text files use_of q g → 4 ≤ rank q
  then_files a is in_first_text g h = absurd (ok_or_err text a g is h)
  then_files a is (in_operand n) g h = omega arith
  then_files a is in_command g h = omega arith
  then_files a is q g h = absurd h

  then_use : (a : A) → text ≡ Ok a → (ps : List PathOf) → paths_from 1 files ≡ Ok ps → (q : Part) (g : LineFault) → OfTextAndFiles text files use_of q g → 7 ≤ rank q
  then_use a is ps are in_first_text g h = absurd (ok_or_err text a g is h)
  then_use a is ps are (in_operand n) g h = let reads = reads_files files in absurd (reads.good ps are n h.1)
  then_use a is ps are in_command g h = omega arith
  then_use a is ps are q g h = absurd h

  pub text_and_files_refused : Refused (OfTextAndFiles text files use_of) (text >>= λ a. paths_from 1 files >>= use_of a)
  text_and_files_refused =
      step OfThem in_first_text text (λ a. paths_from 1 files >>= use_of a) refl (λ f h. h) (λ f h. h) (λ q g h. from_zero (rank q))
      (λ a is. operands OfThem files (paths_from 1 files) (use_of a) (reads_files files) (λ n g h. h) (λ n g h. h) (then_files a is)
      (λ ps are. last OfThem (use_of a ps)
      (λ f h. same_two use_of a h.value ps h.other_value (ok_eq text a h.value is h.is_read) (ok_eq (paths_from 1 files) ps h.other_value are h.is_other_read) ∙ h.refused)
      (λ f e. record { value = a; other_value = ps; is_read = is; is_other_read = are; refused = e })
      (then_use a is ps are)))

-- ---- two texts, and files

module _ {A B : Type 0} (text : Result A LineFault) (other : Result B LineFault) (files : List Text) (use_of : A → B → List PathOf → Result Reply LineFault) where
  abbrev OfBoth : Part → LineFault → Type 0
  OfBoth = OfTwoTextsAndFiles text other files use_of

  then_other : (a : A) → text ≡ Ok a → (q : Part) (g : LineFault) → OfTwoTextsAndFiles text other files use_of q g → 1 ≤ rank q
  then_other a is in_first_text g h = absurd (ok_or_err text a g is h)
  then_other a is in_second_text g h = omega arith
  then_other a is (in_operand n) g h = omega arith
  then_other a is in_command g h = omega arith
  then_other a is q g h = absurd h

  both_then_files : (a : A) → text ≡ Ok a → (b : B) → other ≡ Ok b → (q : Part) (g : LineFault) → OfTwoTextsAndFiles text other files use_of q g → 4 ≤ rank q
  both_then_files a is b also in_first_text g h = absurd (ok_or_err text a g is h)
  both_then_files a is b also in_second_text g h = absurd (ok_or_err other b g also h)
  both_then_files a is b also (in_operand n) g h = omega arith
  both_then_files a is b also in_command g h = omega arith
  both_then_files a is b also q g h = absurd h

  both_then_use : (a : A) → text ≡ Ok a → (b : B) → other ≡ Ok b → (ps : List PathOf) → paths_from 1 files ≡ Ok ps
      → (q : Part) (g : LineFault) → OfTwoTextsAndFiles text other files use_of q g → 7 ≤ rank q
  both_then_use a is b also ps are in_first_text g h = absurd (ok_or_err text a g is h)
  both_then_use a is b also ps are in_second_text g h = absurd (ok_or_err other b g also h)
  both_then_use a is b also ps are (in_operand n) g h = let reads = reads_files files in absurd (reads.good ps are n h.1)
  both_then_use a is b also ps are in_command g h = omega arith
  both_then_use a is b also ps are q g h = absurd h

  pub two_texts_refused : Refused (OfTwoTextsAndFiles text other files use_of) (text >>= λ a. other >>= λ b. paths_from 1 files >>= use_of a b)
  two_texts_refused =
      step OfBoth in_first_text text (λ a. other >>= λ b. paths_from 1 files >>= use_of a b) refl (λ f h. h) (λ f h. h) (λ q g h. from_zero (rank q))
      (λ a is. step OfBoth in_second_text other (λ b. paths_from 1 files >>= use_of a b) refl (λ f h. h) (λ f h. h) (then_other a is)
      (λ b also. operands OfBoth files (paths_from 1 files) (use_of a b) (reads_files files) (λ n g h. h) (λ n g h. h) (both_then_files a is b also)
      (λ ps are. last OfBoth (use_of a b ps)
      (λ f h. same_three use_of a h.value b h.other_value ps h.third_value
      (ok_eq text a h.value is h.is_read) (ok_eq other b h.other_value also h.is_other_read) (ok_eq (paths_from 1 files) ps h.third_value are h.is_third_read) ∙ h.refused)
      (λ f e. record { value = a; other_value = b; third_value = ps; is_read = is; is_other_read = also; is_third_read = are; refused = e })
      (both_then_use a is b also ps are))))

-- ---- entries that setfacl(1) removes, modifies and sets

module _ (s : State) (line : ChangeLine) (text : List ℕ) where
  abbrev OfLine : Part → LineFault → Type 0
  OfLine = OfChange s line text

  abbrev removed_text : Result (List Spec) LineFault
  removed_text = entries_given s.people WithoutPerms line.removed text

  abbrev modified_text : Result (List Spec) LineFault
  modified_text = entries_given s.people WithPerms line.modified text

  abbrev set_text : Result (List Spec) LineFault
  set_text = entries_given s.people WithPerms line.set text

  abbrev given_of : Result (List Spec) LineFault → Result (List Spec) LineFault → Result (List Spec) LineFault → Result ChangeEntries LineFault
  given_of r m t = r >>= λ removed. m >>= λ modified. t >>= λ set. Ok (record { remove = removed; modify = modified; set = set })

  abbrev changed : ChangeEntries → Result Reply LineFault
  changed entries = unless (option_map Both (both_at line.flags.as_default entries)) (change_files s line entries)

  modified_next : (r : List Spec) → entries_given s.people WithoutPerms line.removed text ≡ Ok r → (q : Part) (g : LineFault) → OfChange s line text q g → 1 ≤ rank q
  modified_next r is in_first_text g h = absurd (ok_or_err removed_text r g is h)
  modified_next r is q g h = omega arith

  set_next : (r m : List Spec) → entries_given s.people WithoutPerms line.removed text ≡ Ok r → entries_given s.people WithPerms line.modified text ≡ Ok m
      → (q : Part) (g : LineFault) → OfChange s line text q g → 2 ≤ rank q
  set_next r m is also in_first_text g h = absurd (ok_or_err removed_text r g is h)
  set_next r m is also in_second_text g h = absurd (ok_or_err modified_text m g also h)
  set_next r m is also q g h = omega arith

  module _ (r m t : List Spec) (is : entries_given s.people WithoutPerms line.removed text ≡ Ok r) (also : entries_given s.people WithPerms line.modified text ≡ Ok m)
      (and_set : entries_given s.people WithPerms line.set text ≡ Ok t) where
    abbrev entries : ChangeEntries
    entries = record { remove = r; modify = m; set = t }

    given_is : entries_of_line s.people line text ≡ Ok (record { remove = r; modify = m; set = t })
    given_is = λ i. given_of (is i) (also i) (and_set i)

    both_next : (q : Part) (g : LineFault) → OfChange s line text q g → 3 ≤ rank q
    both_next in_first_text g h = absurd (ok_or_err removed_text r g is h)
    both_next in_second_text g h = absurd (ok_or_err modified_text m g also h)
    both_next in_third_text g h = absurd (ok_or_err set_text t g and_set h)
    both_next q g h = omega arith

    not_in_both : both_of line r m ≡ None → (g : LineFault) → OfChange s line text in_two_texts g → ⊥
    not_in_both none g h =
        some_is_not_none (both_of line h.removed h.modified) h.at h.found
        (sym (same_two (both_of line) r h.removed m h.modified (ok_eq removed_text r h.removed is h.is_removed) (ok_eq modified_text m h.modified also h.is_modified)) ∙ none)

    one_both : (at : ℕ) → both_of line r m ≡ Some at → (g : LineFault) → OfChange s line text in_two_texts g → Both at ≡ g
    one_both at found g h =
        ap (λ n. Both n)
        (same_found (both_of line) r h.removed m h.modified at h.at (ok_eq removed_text r h.removed is h.is_removed) (ok_eq modified_text m h.modified also h.is_modified) found h.found)
        ∙ sym h.is

    files_next : both_of line r m ≡ None → (q : Part) (g : LineFault) → OfChange s line text q g → 4 ≤ rank q
    files_next none in_first_text g h = absurd (ok_or_err removed_text r g is h)
    files_next none in_second_text g h = absurd (ok_or_err modified_text m g also h)
    files_next none in_third_text g h = absurd (ok_or_err set_text t g and_set h)
    files_next none in_two_texts g h = absurd (not_in_both none g h)
    files_next none q g h = omega arith

    put_next : both_of line r m ≡ None → (ps : List PathOf) → paths_from 1 line.files ≡ Ok ps → (q : Part) (g : LineFault) → OfChange s line text q g → 7 ≤ rank q
    put_next none ps are in_first_text g h = absurd (ok_or_err removed_text r g is h)
    put_next none ps are in_second_text g h = absurd (ok_or_err modified_text m g also h)
    put_next none ps are in_third_text g h = absurd (ok_or_err set_text t g and_set h)
    put_next none ps are in_two_texts g h = absurd (not_in_both none g h)
    put_next none ps are (in_operand n) g h = let reads = reads_files line.files in absurd (reads.good ps are n h.1)
    put_next none ps are in_user g h = absurd h
    put_next none ps are (in_file n) g h = absurd h
    put_next none ps are in_command g h = omega arith

    abbrev with_warning : Reply → Reply
    with_warning reply = record reply { warns = drops line.flags.as_default entries }

    abbrev warned : Result Reply LineFault → Result Reply LineFault
    warned made = made >>= λ reply. Ok (with_warning reply)

    put_refused : both_of line r m ≡ None → (ps : List PathOf) → paths_from 1 line.files ≡ Ok ps → Refused OfLine (warned (entries_put s line entries ps))
    put_refused none ps are =
        last OfLine (warned (entries_put s line entries ps))
        (λ f h. ap warned (same_two (entries_put s line) entries h.value ps h.other_value
        (ok_eq (entries_of_line s.people line text) entries h.value given_is h.is_read) (ok_eq (paths_from 1 line.files) ps h.other_value are h.is_other_read) ∙ h.refused))
        (λ f e. record { value = entries; other_value = ps; is_read = given_is; is_other_read = are; refused = err_before with_warning (entries_put s line entries ps) f e })
        (put_next none ps are)

    both_refused : (o : Option ℕ) → both_of line r m ≡ o → Refused OfLine (unless (option_map Both o) (change_files s line entries))
    both_refused None none =
        operands OfLine line.files (paths_from 1 line.files) (λ paths. warned (entries_put s line entries paths)) (reads_files line.files) (λ n g h. h) (λ n g h. h)
        (files_next none) (put_refused none)
    both_refused (Some at) found =
        refused_in OfLine (Err (Both at)) in_two_texts (Both at) refl refl
        (record { removed = r; modified = m; at = at; is_removed = is; is_modified = also; found = found; is = refl })
        (one_both at found) both_next

    given_refused : Refused OfLine (changed entries)
    given_refused = both_refused (both_of line r m) refl

  pub change_refused : Refused (OfChange s line text) (change_line s line text)
  change_refused = by removed_text modified_text set_text refl refl refl
    where
      by : (r m t : Result (List Spec) LineFault) → entries_given s.people WithoutPerms line.removed text ≡ r → entries_given s.people WithPerms line.modified text ≡ m
          → entries_given s.people WithPerms line.set text ≡ t → Refused OfLine (given_of r m t >>= changed)
      by (Err f) m t is also and_set =
          refused_in OfLine (Err f) in_first_text f refl refl is (λ g h. err_eq removed_text f g is h) (λ q g h. from_zero (rank q))
      by (Ok r) (Err f) t is also and_set =
          refused_in OfLine (Err f) in_second_text f refl refl also (λ g h. err_eq modified_text f g also h) (modified_next r is)
      by (Ok r) (Ok m) (Err f) is also and_set =
          refused_in OfLine (Err f) in_third_text f refl refl and_set (λ g h. err_eq set_text f g and_set h) (set_next r m is also)
      by (Ok r) (Ok m) (Ok t) is also and_set = given_refused r m t is also and_set
