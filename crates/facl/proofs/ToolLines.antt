-- What a tool does with its words: what the line does that they give, or usage.
use Rattle.std.proofs.Common.{◌≡◌, ℕ, List, Option, Some, None, option_map, option_and_then, Result, refl, sym}
use Rattle.std.specs.Prelude.{ok_or}
use Rattle.acl_text.specs.Results.{◌>>=◌}
use Rattle.acl_tree.specs.State.{State}
use Rattle.facl_output.specs.declared.fault.LineFault.{LineFault}
use Rattle.facl_output.specs.declared.fault.LineFault.TheVariants.{Usage}
use Rattle.facl_script.specs.Forms.{Text}
use Rattle.facl_tools.specs.TextWords.{words_by}
use Rattle.facl_script.specs.declared.tool_words.Words.{Words}
use Rattle.facl_tools.specs.Replies.{Reply}
use Rattle.facl_tools.specs.Attr as attr
use Rattle.facl.specs.Below as below
use Rattle.facl.specs.Can as can
use Rattle.facl_tools.specs.Chacl as chacl
use Rattle.facl_tools.specs.Chmod as chmod
use Rattle.facl_tools.specs.Creat as creat
use Rattle.facl_tools.specs.Getfacl as getfacl
use Rattle.facl_tools.specs.Gpasswd as gpasswd
use Rattle.facl_tools.specs.Load as load
use Rattle.facl.specs.May as may
use Rattle.facl_tools.specs.Rm as rm
use Rattle.facl_tools.specs.Setattr as setattr
use Rattle.facl_tools.specs.SetfaclLine as setfacl_line
use Rattle.facl_tools.specs.Useradd as useradd
use Rattle.facl_tools.specs.Usermod as usermod
use Rattle.facl.specs.Who as who
use Rattle.facl.specs.Why as why
use Rattle.acl_rights.specs.Deciders.{Judging}
use Rattle.facl.specs.Tools.{syntax_of, words_of, words_answered, tool_line}
use Rattle.facl.specs.ToolLines.{read_line, line_of, answered, line_answered}
use Rattle.facl.specs.declared.tools.Tool.{Tool}
use Rattle.facl.specs.declared.tools.Tool.TheVariants as tools
use Rattle.facl.specs.declared.tools.ToolLine.{ToolLine}
use Rattle.facl.specs.declared.tools.ToolLine.TheVariants as lines
use Rattle.facl.specs.LineParts.{line_read}

-- a line that is read, as one of all tools
read_first : {L : Type 0} (line : Option L) (as_line : L → ToolLine) (next : ToolLine → Result Reply LineFault)
    → (ok_or line Usage >>= λ l. next (as_line l)) ≡ (ok_or (option_map as_line line) Usage >>= next)
read_first None as_line next = refl
read_first (Some l) as_line next = refl

module _ (judge : Judging) (loaded s : State) (w : Words) (text : List ℕ) where
  abbrev does : ToolLine → Result Reply LineFault
  does line = answered judge loaded s line text

  -- the row of each tool has what its line does
  pub words_answered_is : (tool : Tool) → words_answered judge loaded s tool w text ≡ line_answered judge loaded s tool w text
  unfolding words_answered line_of answered
  words_answered_is tools.Load = read_first (load.read w) (λ line. lines.Load line) does
  words_answered_is tools.Getfacl = read_first (getfacl.read w) (λ line. lines.Getfacl line) does
  words_answered_is tools.Setfacl = read_first (setfacl_line.read w) (λ line. lines.Setfacl line) does
  words_answered_is tools.Chacl = read_first (chacl.read w) (λ line. lines.Chacl line) does
  words_answered_is tools.Chmod = read_first (chmod.read w) (λ line. lines.Chmod line) does
  words_answered_is tools.Creat = read_first (creat.read w) (λ line. lines.Creat line) does
  words_answered_is tools.Rm = read_first (rm.read w) (λ line. lines.Rm line) does
  words_answered_is tools.Gpasswd = read_first (gpasswd.read w) (λ line. lines.Gpasswd line) does
  words_answered_is tools.Usermod = read_first (usermod.read w) (λ line. lines.Usermod line) does
  words_answered_is tools.Attr = read_first (attr.read w) (λ line. lines.Attr line) does
  words_answered_is tools.Setattr = read_first (setattr.read w) (λ line. lines.Setattr line) does
  words_answered_is tools.Can = read_first (can.read w) (λ line. lines.Can line) does
  words_answered_is tools.Who = read_first (who.read w) (λ line. lines.Who line) does
  words_answered_is tools.May = read_first (may.read w) (λ line. lines.May line) does
  words_answered_is tools.Below = read_first (below.read w) (λ line. lines.Below line) does
  words_answered_is tools.Why = read_first (why.read w) (λ line. lines.Why line) does
  words_answered_is tools.Index = refl
  words_answered_is tools.Changes = refl
  words_answered_is tools.Gains = refl
  words_answered_is tools.Useradd = read_first (useradd.read w) (λ line. lines.Useradd line) does
  words_answered_is tools.Userdel = refl

pub tool_line_is : (judge : Judging) (loaded s : State) (tool : Tool) (words : List Text) (text : List ℕ)
    → (ok_or (line_read tool words) Usage >>= λ line. answered judge loaded s line text) ≡ tool_line judge loaded s tool words text
unfolding words_of line_of
tool_line_is judge loaded s tool words text = by (words_by (syntax_of tool) words)
  where
    by : (o : Option Words) → (ok_or (option_and_then (read_line tool) o) Usage >>= λ line. answered judge loaded s line text)
        ≡ (ok_or o Usage >>= λ w. words_answered judge loaded s tool w text)
    by None = refl
    by (Some w) = sym (words_answered_is judge loaded s w text tool)
