-- What the faults of the layers below are for a line or a run: their running out of memory is its own.
use Rattle.acl_text.specs.declared.fault.FaultKind.TheVariants as kinds
use Rattle.acl_text.specs.declared.fault.TextFault.{TextFault}
use Rattle.acl_tree.specs.declared.fault.TreeFault.{TreeFault}
use Rattle.acl_tree.specs.declared.fault.TreeFault.TheVariants as trees
use Rattle.facl_script.specs.declared.words.SplitFault.{SplitFault}
use Rattle.facl_script.specs.declared.words.SplitFault.TheVariants as splits
use Rattle.facl_script.specs.declared.fault.ScriptFault.{ScriptFault}
use Rattle.facl_script.specs.declared.fault.ScriptFault.TheVariants as scripts
use Rattle.facl_script.specs.declared.tool_fault.WordsFault.{WordsFault}
use Rattle.facl_script.specs.declared.tool_fault.WordsFault.TheVariants as words
use Rattle.facl_output.specs.declared.fault.Source.{Source}
use Rattle.facl_output.specs.declared.fault.LineFault.{LineFault}
use Rattle.facl_output.specs.declared.fault.LineFault.TheVariants as line
use Rattle.facl_output.specs.declared.fault.RunFault.{RunFault}
use Rattle.facl_output.specs.declared.fault.RunFault.TheVariants as run
use Rattle.acl_text.specs.declared.fault.FaultKind.{FaultKind}

-- that memory ran out, or else another fault
abbrev pub unless_memory : FaultKind → LineFault → LineFault
unless_memory kinds.NoMemory fault = line.NoMemory
unless_memory _ fault = fault

abbrev pub line_fault_of_text : Source → TextFault → LineFault
line_fault_of_text source fault = unless_memory fault.kind (line.Text source fault)

abbrev pub line_fault_of_tree : TreeFault → LineFault
line_fault_of_tree trees.NoMemory = line.NoMemory
line_fault_of_tree fault = line.Tree fault

abbrev pub line_fault_of_split : SplitFault → LineFault
line_fault_of_split splits.NotUtf8 = line.NotUtf8
line_fault_of_split splits.OpenQuote = line.OpenQuote
line_fault_of_split splits.NoMemory = line.NoMemory

abbrev pub line_fault_of_words : WordsFault → LineFault
line_fault_of_words words.Usage = line.Usage
line_fault_of_words words.NoMemory = line.NoMemory

abbrev pub run_fault_of_script : ScriptFault → RunFault
run_fault_of_script scripts.Read = run.Read
run_fault_of_script scripts.Write = run.Write
run_fault_of_script scripts.TooLong = run.ScriptTooLong
run_fault_of_script scripts.NoMemory = run.NoMemory
