-- getfacl(1).
use Rattle.std.specs.Prelude.{ℕ, List, [], ◌∷◌, Bool, true, false, codes, refl, Option, None, Some, Result, option_and_then, option_map, Ok}
use Rattle.acl_text.specs.declared.effective.Effective.{Effective}
use Rattle.acl_text.specs.declared.effective.Effective.TheVariants.{WhereMasked, Always, Never}
use Rattle.acl_text.specs.Results.{◌>>=◌, unless}
use Rattle.acl_people.specs.KnownPeople.{KnownPeople, naming_of}
use Rattle.acl_tree.specs.Found.{FoundFile, files_found}
use Rattle.acl_tree.specs.State.{State}
use Rattle.facl_output.specs.Listings.{listing}
use Rattle.facl_output.specs.declared.listing.Options.{Options}
use Rattle.facl_script.specs.Forms.{files_of}
use Rattle.facl_script.specs.Syntax.{Syntax, both, some}
use Rattle.facl_script.specs.declared.tool_words.Words.{Words}
use Rattle.facl_output.specs.declared.fault.LineFault.{LineFault}
use Rattle.facl_tools.specs.Asked.{has, operands_from}
use Rattle.facl_tools.specs.Operands.{paths_from, not_recorded}
use Rattle.facl_tools.specs.Replies.{Reply, printed}
use Rattle.facl_tools.specs.declared.getfacl.GetfaclLine.{GetfaclLine}

abbrev pub syntax : Syntax
syntax = record {
  flags = both (codes "a") (codes "access")
      ∷ both (codes "c") (codes "omit-header")
      ∷ both (codes "e") (codes "all-effective")
      ∷ both (codes "E") (codes "no-effective")
      ∷ both (codes "s") (codes "skip-base")
      ∷ both (codes "R") (codes "recursive")
      ∷ both (codes "n") (codes "numeric") ∷ [];
  options = [];
  operands = some (codes "file") ∷ [];
}

-- `-e` and `-E` exclude each other
abbrev pub effective_for : Bool → Bool → Option Effective
effective_for true true = None
effective_for true false = Some Always
effective_for false true = Some Never
effective_for false false = Some WhereMasked

abbrev pub options_of : Words → Effective → Options
options_of w effective = record {
  access_only = has syntax w (codes "access") refl;
  omit_header = has syntax w (codes "omit-header") refl;
  effective = effective;
  skip_base = has syntax w (codes "skip-base") refl;
  numeric = has syntax w (codes "numeric") refl;
}

-- the line that words give, unless they are usage
abbrev pub read : Words → Option GetfaclLine
read w =
    option_and_then
    (λ effective. option_map
    (λ files. record { options = options_of w effective; recursive = has syntax w (codes "recursive") refl; files = files })
    (files_of (operands_from syntax w (codes "file") refl)))
    (effective_for (has syntax w (codes "all-effective") refl) (has syntax w (codes "no-effective") refl))

-- ids print as the names that these people have
abbrev pub getfacl_text : KnownPeople → Options → List FoundFile → List ℕ
getfacl_text known options files = listing (naming_of known) options files

-- the files are listed
abbrev pub answered : State → GetfaclLine → Result Reply LineFault
answered s line = do
  paths ← paths_from 1 line.files
  unless (not_recorded paths s.tree.files) (Ok (printed s (getfacl_text s.people line.options (files_found line.recursive paths s.tree.files))))
