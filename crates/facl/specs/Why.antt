-- why: the entries by which a judge decides on a user. The state stays as it is.
use Rattle.std.specs.Prelude.{List, [], ◌∷◌, Bool, codes, refl, Option, option_and_then, Result, ok_or, option_map, Ok}
use Rattle.facl_tools.specs.Asked.{has, operand, operands_from}
use Rattle.acl_rights.specs.Deciders.{Decider}
use Rattle.facl_answers.specs.WhyText.{files_asked, why_text}
use Rattle.acl_entry.specs.Person.{Person}
use Rattle.acl_tree.specs.declared.fault.TreeFault.TheVariants.{NoSuchUser}
use Rattle.acl_people.specs.KnownPeople.{KnownPeople, users_of, subject, naming_of}
use Rattle.acl_people.specs.NameTables.{place_of_word}
use Rattle.acl_names.specs.Paths.{PathOf}
use Rattle.acl_tree.specs.Found.{FoundFile}
use Rattle.acl_tree.specs.State.{State}
use Rattle.facl_script.specs.Forms.{Text, files_of}
use Rattle.facl_script.specs.Syntax.{Syntax, by_name, one, some}
use Rattle.facl_script.specs.declared.tool_words.Words.{Words}
use Rattle.facl_output.specs.declared.fault.LineFault.{LineFault}
use Rattle.facl_output.specs.declared.fault.LineFault.TheVariants.{Tree}
use Rattle.facl_tools.specs.Operands.{paths_from, name_meant, not_recorded}
use Rattle.facl_tools.specs.Replies.{Reply, printed}
use Rattle.facl.specs.declared.tools.why.WhyLine.{WhyLine}
use Rattle.acl_text.specs.Results.{◌>>=◌, unless}

abbrev pub syntax : Syntax
syntax = record { flags = by_name (codes "reach") ∷ []; options = []; operands = one (codes "user") ∷ some (codes "file") ∷ [] }

-- the line that words give, unless they are usage
abbrev pub read : Words → Option WhyLine
read w =
    option_map (λ files. record { reach = has syntax w (codes "reach") refl; user = operand syntax w (codes "user") refl; files = files })
    (files_of (operands_from syntax w (codes "file") refl))

-- the user of a name, as the check sees one, if there is one
abbrev pub person_named : KnownPeople → Text → Option Person
person_named known name = option_and_then (subject known) (place_of_word name (users_of known))

-- the entries that decide on a user are printed with the names that these people have
abbrev pub named_why : Decider → KnownPeople → Person → List FoundFile → Text
named_why D known u files = why_text (naming_of known) D u files

-- what decides on a user on the files of these paths, with `along` on the directories above them too
abbrev pub why_at : Decider → State → Bool → List PathOf → Person → Result Text LineFault
why_at D s along paths u = unless (not_recorded paths s.tree.files) (Ok (named_why D s.people u (files_asked along paths s.tree.files)))

-- what decides on the user that a word means
abbrev pub why_of : Decider → State → Bool → Text → List PathOf → Result Text LineFault
why_of D s along word paths = ok_or (person_named s.people (name_meant word)) (Tree (NoSuchUser (name_meant word))) >>= why_at D s along paths

-- it is printed
abbrev pub answered : Decider → State → WhyLine → Result Reply LineFault
answered D s line = paths_from 1 line.files >>= why_of D s line.reach line.user >>= λ out. Ok (printed s out)
