-- Lists as chacl(1) reads them: the entries of a text, which have to be a valid list.
use Rattle.std.specs.Prelude.{List, map, Result, Ok, Err}
use Rattle.std.specs.Option.{option_map_or}
use Rattle.acl_entry.specs.Lists.{KeyMap, fault, map_of}
use Rattle.acl_entry.specs.Perms.{none}
use Rattle.acl_entry.specs.declared.entry.Entry.{Entry}
use Rattle.acl_text.specs.Entries.{entries_of}
use Rattle.acl_text.specs.InTurn.{of_list}
use Rattle.acl_text.specs.Results.{◌>>=◌, map_err}
use Rattle.acl_text.specs.declared.entries.Sep.TheVariants.{Comma}
use Rattle.acl_text.specs.declared.entries.Spec.{Spec}
use Rattle.acl_text.specs.declared.entries.Want.TheVariants.{Plain}
use Rattle.acl_text.specs.declared.fault.Which.{Which}
use Rattle.acl_people.specs.KnownPeople.{KnownPeople, naming_of}
use Rattle.facl_script.specs.Forms.{Text}
use Rattle.facl_output.specs.Faults.{line_fault_of_text}
use Rattle.facl_output.specs.declared.fault.LineFault.{LineFault}
use Rattle.facl_output.specs.declared.fault.Source.{Source}

-- what a written entry gives
abbrev pub entry_of : Spec → Entry
entry_of spec = record { key = spec.key; perm = option_map_or (λ perm. perm.fixed) spec.perm none }

-- the list of some entries; its fault has no place in the text
abbrev pub list_from : Source → Which → List Entry → Result KeyMap LineFault
list_from source which es = option_map_or (λ f. Err (line_fault_of_text source (record { kind = of_list which f; at = 0 }))) (fault es) (Ok (map_of es))

abbrev pub specs_of : KnownPeople → Source → Text → Result (List Spec) LineFault
specs_of known source text = map_err (line_fault_of_text source) (entries_of (naming_of known) Comma Plain text)

-- the list that a text names: entries with permissions, with a comma between each two
unfoldable pub list_of_text : KnownPeople → Source → Which → Text → Result KeyMap LineFault
list_of_text known source which text = specs_of known source text >>= λ specs. list_from source which (map entry_of specs)
