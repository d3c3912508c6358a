-- The tools: for each its name, the words that it takes, and what these do.
use Rattle.std.specs.Prelude.{ℕ, Bool, true, false, List, [], ◌∷◌, map, Option, ok_or, option_map, unwrap_or, codes, Result, Err}
use Rattle.std.specs.Option.{option_map_or}
use Rattle.std.specs.List.{find}
use Rattle.std.specs.Str.{bytes_eq}
use Rattle.acl_rights.specs.Deciders.{Judging}
use Rattle.acl_text.specs.Results.{◌>>=◌}
use Rattle.acl_tree.specs.State.{State}
use Rattle.facl_script.specs.Forms.{Text}
use Rattle.facl_script.specs.Rows.{syntax_view}
use Rattle.facl_script.specs.Syntax.{Syntax}
use Rattle.facl_tools.specs.TextWords.{words_by}
use Rattle.facl_script.specs.declared.tool_words.Words.{Words}
use Rattle.facl_output.specs.declared.fault.LineFault.{LineFault}
use Rattle.facl_output.specs.declared.fault.LineFault.TheVariants.{Usage}
use Rattle.facl_tools.specs.Replies.{Reply}
use Rattle.facl_tools.specs.Attr as attr
use Rattle.facl.specs.Below as below
use Rattle.facl.specs.Can as can
use Rattle.facl_tools.specs.Chacl as chacl
use Rattle.facl.specs.Changes as changes
use Rattle.facl_tools.specs.Chmod as chmod
use Rattle.facl_tools.specs.Creat as creat
use Rattle.facl.specs.Gains as gains
use Rattle.facl_tools.specs.Getfacl as getfacl
use Rattle.facl_tools.specs.Gpasswd as gpasswd
use Rattle.facl.specs.Index as index
use Rattle.facl_tools.specs.Load as load
use Rattle.facl.specs.May as may
use Rattle.facl_tools.specs.Rm as rm
use Rattle.facl_tools.specs.Setattr as setattr
use Rattle.facl_tools.specs.Setfacl as setfacl
use Rattle.facl_tools.specs.SetfaclLine as setfacl_line
use Rattle.facl_tools.specs.Useradd as useradd
use Rattle.facl_tools.specs.Userdel as userdel
use Rattle.facl_tools.specs.Usermod as usermod
use Rattle.facl.specs.Who as who
use Rattle.facl.specs.Why as why
use Rattle.facl.specs.declared.tools.Tool.{Tool}
use Rattle.facl.specs.declared.tools.Tool.TheVariants as tools
use Rattle.facl.specs.declared.tools.ToolRow.{ToolRow as DeclaredRow}
use Rattle.facl.specs.contracts.tools.ToolPartialEq.TheImpl.{ghosts as equality}

-- a row of the program's table of tools
pub record ToolRow : Type 0 where
  pub tool : Tool
  pub name : Text
  pub syntax : Syntax
  -- it loads a text: after a line of it, what a script has changed is counted from there
  pub loads : Bool

-- what words do at a state, with the text after the line; `changes` and `gains` alone look at the state after the texts were loaded
abbrev pub ToolReply : Type 0
ToolReply = Judging → (loaded now : State) → Words → (text : List ℕ) → Result Reply LineFault

-- all that is known of a tool
pub record ToolDefinition : Type 0 where
  pub row : ToolRow
  pub reply : ToolReply

-- a tool that loads no text
abbrev pub row : Tool → Text → Syntax → ToolReply → ToolDefinition
row tool name syntax reply = record { row = record { tool = tool; name = name; syntax = syntax; loads = false }; reply = reply }

-- a tool that loads one
abbrev pub loading : Tool → Text → Syntax → ToolReply → ToolDefinition
loading tool name syntax reply = record { row = record { tool = tool; name = name; syntax = syntax; loads = true }; reply = reply }

-- what is done with the line that words give, or usage
abbrev pub by_line : {L : Type 0} → Option L → (L → Result Reply LineFault) → Result Reply LineFault
by_line line answered = ok_or line Usage >>= answered

-- each tool, once
abbrev pub table : List ToolDefinition
table =
    loading tools.Load (codes "load") load.syntax (λ judge loaded s w text. by_line (load.read w) (λ line. load.answered s line text))
    ∷ row tools.Getfacl (codes "getfacl") getfacl.syntax (λ judge loaded s w text. by_line (getfacl.read w) (getfacl.answered s))
    ∷ row tools.Setfacl (codes "setfacl") setfacl_line.syntax (λ judge loaded s w text. by_line (setfacl_line.read w) (λ line. setfacl.answered s line text))
    ∷ row tools.Chacl (codes "chacl") chacl.syntax (λ judge loaded s w text. by_line (chacl.read w) (chacl.answered s))
    ∷ row tools.Chmod (codes "chmod") chmod.syntax (λ judge loaded s w text. by_line (chmod.read w) (chmod.answered s))
    ∷ row tools.Creat (codes "creat") creat.syntax (λ judge loaded s w text. by_line (creat.read w) (creat.answered s))
    ∷ row tools.Rm (codes "rm") rm.syntax (λ judge loaded s w text. by_line (rm.read w) (rm.answered s))
    ∷ row tools.Gpasswd (codes "gpasswd") gpasswd.syntax (λ judge loaded s w text. by_line (gpasswd.read w) (gpasswd.answered s))
    ∷ row tools.Usermod (codes "usermod") usermod.syntax (λ judge loaded s w text. by_line (usermod.read w) (usermod.answered s))
    ∷ row tools.Attr (codes "attr") attr.syntax (λ judge loaded s w text. by_line (attr.read w) (attr.answered s))
    ∷ row tools.Setattr (codes "setattr") setattr.syntax (λ judge loaded s w text. by_line (setattr.read w) (setattr.answered s))
    ∷ row tools.Can (codes "can") can.syntax (λ judge loaded s w text. by_line (can.read w) (can.answered judge.verdict s))
    ∷ row tools.Who (codes "who") who.syntax (λ judge loaded s w text. by_line (who.read w) (who.answered judge.verdict s))
    ∷ row tools.May (codes "may") may.syntax (λ judge loaded s w text. by_line (may.read w) (may.answered judge.verdict s))
    ∷ row tools.Below (codes "below") below.syntax (λ judge loaded s w text. by_line (below.read w) (below.answered judge.verdict s))
    ∷ row tools.Why (codes "why") why.syntax (λ judge loaded s w text. by_line (why.read w) (why.answered judge.decider s))
    ∷ row tools.Index (codes "index") index.syntax (λ judge loaded s w text. index.answered judge.verdict s)
    ∷ row tools.Changes (codes "changes") changes.syntax (λ judge loaded s w text. changes.answered judge.verdict loaded s (changes.read w))
    ∷ row tools.Gains (codes "gains") gains.syntax (λ judge loaded s w text. gains.answered judge.verdict loaded s (gains.read w))
    ∷ row tools.Useradd (codes "useradd") useradd.syntax (λ judge loaded s w text. by_line (useradd.read w) (useradd.answered s))
    ∷ row tools.Userdel (codes "userdel") userdel.syntax (λ judge loaded s w text. userdel.answered s (userdel.read w))
    ∷ []

-- their rows
abbrev pub rows : List ToolRow
rows = map (λ tool. tool.row) table

-- a row of the program's table
abbrev pub row_view : DeclaredRow → ToolRow
row_view row = record { tool = row.tool; name = row.name.now; syntax = syntax_view row.syntax; loads = row.loads }

-- the row of a tool; a law says that there is one
unfoldable pub row_for : Tool → Option ToolRow
row_for tool = find (λ row. equality.eq row.tool tool) rows

unfoldable pub row_of : Tool → ToolRow
row_of tool = unwrap_or (row_for tool) (record { tool = tool; name = []; syntax = record { flags = []; options = []; operands = [] }; loads = false })

abbrev pub tool_name : Tool → Text
tool_name tool = (row_of tool).name

-- the words that a tool takes
abbrev pub syntax_of : Tool → Syntax
syntax_of tool = (row_of tool).syntax

-- the tool loads a text
abbrev pub loads : Tool → Bool
loads tool = (row_of tool).loads

-- the tool of this name
unfoldable pub tool_named : Text → Option Tool
tool_named name = option_map (λ row. row.tool) (find (λ row. bytes_eq row.name name) rows)

-- the words after a tool's name by its syntax, or usage
unfoldable pub words_of : Tool → List Text → Result Words LineFault
words_of tool words = ok_or (words_by (syntax_of tool) words) Usage

-- what words do that are a tool's, or usage
unfoldable pub words_answered : Judging → (loaded now : State) → Tool → Words → (text : List ℕ) → Result Reply LineFault
words_answered judge loaded s tool w text =
    option_map_or (λ found. found.reply judge loaded s w text) (find (λ t. equality.eq t.row.tool tool) table) (Err Usage)

-- what a tool does at a state with the words after its name and the text after the line, or usage
abbrev pub tool_line : Judging → (loaded now : State) → Tool → List Text → (text : List ℕ) → Result Reply LineFault
tool_line judge loaded s tool words text = words_of tool words >>= λ w. words_answered judge loaded s tool w text
