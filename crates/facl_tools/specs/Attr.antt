-- attr: the lists of a file as the extended attributes of acl(5).
use Rattle.std.specs.Prelude.{[], ◌∷◌, false, codes, refl, Option, option_map, Result, Ok}
use Rattle.facl_output.specs.AttrListings.{attr_listing}
use Rattle.acl_tree.specs.Found.{files_found}
use Rattle.acl_tree.specs.State.{State}
use Rattle.facl_script.specs.Forms.{files_of}
use Rattle.facl_script.specs.Syntax.{Syntax, one}
use Rattle.facl_script.specs.declared.tool_words.Words.{Words}
use Rattle.facl_output.specs.declared.fault.LineFault.{LineFault}
use Rattle.facl_tools.specs.Asked.{operands_from}
use Rattle.facl_tools.specs.Operands.{paths_from, not_recorded}
use Rattle.facl_tools.specs.Replies.{Reply, printed}
use Rattle.facl_tools.specs.declared.attr.AttrLine.{AttrLine}
use Rattle.acl_text.specs.Results.{◌>>=◌, unless}

abbrev pub syntax : Syntax
syntax = record { flags = []; options = []; operands = one (codes "file") ∷ [] }

-- the line that words give, unless they are usage
abbrev pub read : Words → Option AttrLine
read w = option_map (λ files. record { files = files }) (files_of (operands_from syntax w (codes "file") refl))

-- the attributes of the file are printed
abbrev pub answered : State → AttrLine → Result Reply LineFault
answered s line = do
  paths ← paths_from 1 line.files
  unless (not_recorded paths s.tree.files) (Ok (printed s (attr_listing (files_found false paths s.tree.files))))
