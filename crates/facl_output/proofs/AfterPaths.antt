-- Listings in two parts: what a file's path makes, and what its node makes.
use Rattle.std.proofs.Common.{◌≡◌, ℕ, Bool, true, false, cond, List, [], ◌++◌, Some, length, take, drop, sym, ap, ◌∙◌, refl, append_assoc}
use Rattle.std.proofs.Math.Seq.{take-append_seam, drop-append_seam}
use Rattle.acl_text.specs.Naming.{Naming}
use Rattle.acl_text.specs.DumpWriting as dump
use Rattle.acl_text.specs.DumpWriting.{owner_text, group_text, flags_text}
use Rattle.acl_tree.specs.Found.{FoundFile}
use Rattle.facl_output.specs.declared.listing.Options.{Options}
use Rattle.facl_output.specs.Listings.{entry_lines, has_slash, flags_shown, file_text}
use Rattle.facl_output.specs.AfterPaths.{path_line, after_path}

in_parts : (b : Bool) (first second third : List ℕ) → cond b [] (first ++ second) ++ third ≡ cond b [] first ++ (cond b [] second ++ third)
in_parts true first second third = refl
in_parts false first second third = append_assoc first second third

pub record_parts : (naming : Naming) (options : Options) (file : FoundFile) → file_text naming options file ≡ path_line options file ++ after_path naming options file.node
record_parts naming options file =
    let n = file.node in
    in_parts options.omit_header (dump.file_text file.path (has_slash file))
    (owner_text naming.user_name (Some n.label.owner) ++ (group_text naming.group_name (Some n.label.group) ++ flags_text (flags_shown n.flags)))
    (entry_lines naming options n)

-- what a text has after a part that was added, from the place where that ends
pub rest_added : (old path after text : List ℕ) (start : ℕ) → start ≡ length (old ++ path) → text ≡ old ++ (path ++ after) → drop start text ≡ after
rest_added old path after text start ends added =
    ap (λ (n : ℕ). drop n text) ends ∙ (ap (drop (length (old ++ path))) (added ∙ sym (append_assoc old path after)) ∙ drop-append_seam (old ++ path) after)

-- what a text began with before the place was found, it begins with after more is added
pub still_starts : (old same more new : List ℕ) → same ≡ old → new ≡ same ++ more → take (length old) new ≡ old
still_starts old same more new is added = ap (take (length old)) (added ∙ ap (λ (l : List ℕ). l ++ more) is) ∙ take-append_seam old more
