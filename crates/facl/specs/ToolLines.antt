-- The line of a tool as one value, and what it does: for inner functions, `read_words`, and the laws of what is refused.
use Rattle.std.specs.Prelude.{ℕ, List, Option, Some, ok_or, option_map, Result, Ok}
use Rattle.acl_rights.specs.Deciders.{Judging}
use Rattle.acl_text.specs.Results.{◌>>=◌}
use Rattle.acl_tree.specs.State.{State}
use Rattle.facl_script.specs.Forms.{Text}
use Rattle.facl_script.specs.declared.tool_words.Words.{Words}
use Rattle.facl_output.specs.declared.fault.LineFault.{LineFault}
use Rattle.facl_output.specs.declared.fault.LineFault.TheVariants.{Usage}
use Rattle.facl_tools.specs.Replies.{Reply}
use Rattle.facl_tools.specs.Attr as attr
use Rattle.facl.specs.Below as below
use Rattle.facl.specs.Can as can
use Rattle.facl_tools.specs.Chacl as chacl
use Rattle.facl.specs.Changes as changes
use Rattle.facl_tools.specs.Chmod as chmod
use Rattle.facl_tools.specs.Creat as creat
use Rattle.facl.specs.Gains as gains
use Rattle.facl_tools.specs.Getfacl as getfacl
use Rattle.facl_tools.specs.Gpasswd as gpasswd
use Rattle.facl.specs.Index as index
use Rattle.facl_tools.specs.Load as load
use Rattle.facl.specs.May as may
use Rattle.facl_tools.specs.Rm as rm
use Rattle.facl_tools.specs.Setattr as setattr
use Rattle.facl_tools.specs.Setfacl as setfacl
use Rattle.facl_tools.specs.SetfaclLine as setfacl_line
use Rattle.facl_tools.specs.Useradd as useradd
use Rattle.facl_tools.specs.Userdel as userdel
use Rattle.facl_tools.specs.Usermod as usermod
use Rattle.facl.specs.Who as who
use Rattle.facl.specs.Why as why
use Rattle.facl.specs.Tools.{words_of}
use Rattle.facl.specs.declared.tools.Tool.{Tool}
use Rattle.facl.specs.declared.tools.Tool.TheVariants as tools
use Rattle.facl.specs.declared.tools.ToolLine.{ToolLine}
use Rattle.facl.specs.declared.tools.ToolLine.TheVariants as lines

-- the line of a tool that words give, unless they are usage
abbrev pub read_line : Tool → Words → Option ToolLine
read_line tools.Load w = option_map (λ line. lines.Load line) (load.read w)
read_line tools.Getfacl w = option_map (λ line. lines.Getfacl line) (getfacl.read w)
read_line tools.Setfacl w = option_map (λ line. lines.Setfacl line) (setfacl_line.read w)
read_line tools.Chacl w = option_map (λ line. lines.Chacl line) (chacl.read w)
read_line tools.Chmod w = option_map (λ line. lines.Chmod line) (chmod.read w)
read_line tools.Creat w = option_map (λ line. lines.Creat line) (creat.read w)
read_line tools.Rm w = option_map (λ line. lines.Rm line) (rm.read w)
read_line tools.Gpasswd w = option_map (λ line. lines.Gpasswd line) (gpasswd.read w)
read_line tools.Usermod w = option_map (λ line. lines.Usermod line) (usermod.read w)
read_line tools.Attr w = option_map (λ line. lines.Attr line) (attr.read w)
read_line tools.Setattr w = option_map (λ line. lines.Setattr line) (setattr.read w)
read_line tools.Can w = option_map (λ line. lines.Can line) (can.read w)
read_line tools.Who w = option_map (λ line. lines.Who line) (who.read w)
read_line tools.May w = option_map (λ line. lines.May line) (may.read w)
read_line tools.Below w = option_map (λ line. lines.Below line) (below.read w)
read_line tools.Why w = option_map (λ line. lines.Why line) (why.read w)
read_line tools.Index w = Some lines.Index
read_line tools.Changes w = Some (lines.Changes (changes.read w))
read_line tools.Gains w = Some (lines.Gains (gains.read w))
read_line tools.Useradd w = option_map (λ line. lines.Useradd line) (useradd.read w)
read_line tools.Userdel w = Some (lines.Userdel (userdel.read w))

-- the line of words, or usage
unfoldable pub line_of : Tool → Words → Result ToolLine LineFault
line_of tool w = ok_or (read_line tool w) Usage

-- the words after a tool's name, where they are a line of it
abbrev pub words_taken : Tool → List Text → Result Words LineFault
words_taken tool words = do
  w ← words_of tool words
  line ← line_of tool w
  Ok w

-- what a line does at a state; `changes` and `gains` alone look at the state after the texts were loaded
unfoldable pub answered : Judging → (loaded now : State) → ToolLine → List ℕ → Result Reply LineFault
answered judge loaded s (lines.Load line) text = load.answered s line text
answered judge loaded s (lines.Getfacl line) text = getfacl.answered s line
answered judge loaded s (lines.Setfacl line) text = setfacl.answered s line text
answered judge loaded s (lines.Chacl line) text = chacl.answered s line
answered judge loaded s (lines.Chmod line) text = chmod.answered s line
answered judge loaded s (lines.Creat line) text = creat.answered s line
answered judge loaded s (lines.Rm line) text = rm.answered s line
answered judge loaded s (lines.Gpasswd line) text = gpasswd.answered s line
answered judge loaded s (lines.Usermod line) text = usermod.answered s line
answered judge loaded s (lines.Attr line) text = attr.answered s line
answered judge loaded s (lines.Setattr line) text = setattr.answered s line
answered judge loaded s (lines.Can line) text = can.answered judge.verdict s line
answered judge loaded s (lines.Who line) text = who.answered judge.verdict s line
answered judge loaded s (lines.May line) text = may.answered judge.verdict s line
answered judge loaded s (lines.Below line) text = below.answered judge.verdict s line
answered judge loaded s (lines.Why line) text = why.answered judge.decider s line
answered judge loaded s lines.Index text = index.answered judge.verdict s
answered judge loaded s (lines.Changes line) text = changes.answered judge.verdict loaded s line
answered judge loaded s (lines.Gains line) text = gains.answered judge.verdict loaded s line
answered judge loaded s (lines.Useradd line) text = useradd.answered s line
answered judge loaded s (lines.Userdel line) text = userdel.answered s line

-- what the line does that words give, or usage
abbrev pub line_answered : Judging → (loaded now : State) → Tool → Words → List ℕ → Result Reply LineFault
line_answered judge loaded s tool w text = line_of tool w >>= λ line. answered judge loaded s line text
