-- Lists and lines so small that they take no memory.
use Rattle.std.specs.Prelude.{◌≡◌, ℕ, true, ◌+◌, ◌≤◌, length, Option, unwrap_or, Result, MatchResult, IsOk}
use Rattle.std.specs.FinMap as maps
use Rattle.acl_entry.specs.Lists.{KeyMap, entries, inline_entries}
use Rattle.acl_text.specs.declared.fault.Which.{Which}
use Rattle.acl_text.specs.declared.fault.Which.TheVariants.{Access, Default}
use Rattle.acl_edit.specs.Parts.{Part, part, names}
use Rattle.acl_edit.specs.Edits.{access_before, default_before}
use Rattle.acl_edit.specs.Changes.{Change, options}
use Rattle.acl_edit.specs.declared.edit.Edit.{Edit}
use Rattle.acl_edit.specs.declared.edit.Edit.TheVariants as edits
use Rattle.acl_edit.specs.declared.node.Node.{Node}

-- how many entries a list has
abbrev pub size : KeyMap → ℕ
size m = length (entries m)

-- how many entries a line puts
abbrev pub puts_of : Part → ℕ
puts_of p = length p.set + length p.modify

-- a number of entries finds room with no allocation
abbrev pub Fits : ℕ → Type 0
Fits n = n ≤ inline_entries

-- a list, or no list
abbrev pub size_of : Option KeyMap → ℕ
size_of o = size (unwrap_or o maps.empty)

-- a list that the line names finds room, beside what the line puts into it and a number of further entries
abbrev pub FitsPart : Change → Which → ℕ → KeyMap → Type 0
FitsPart c which more m = names (part c which) ≡ true → Fits (size m + puts_of (part c which) + more)

-- a call makes this unless memory runs out, which it does not where there is this room
abbrev pub MakesIn : {X F : Type 0} → Type 0 → Result X F → X → Type 0
MakesIn Room result is = MatchResult result (λ x. x ≡ is) (λ _. Room → IsOk result)

-- a call leaves this list unless memory runs out, which it does not where there is this room
abbrev pub LeavesIn : {X F : Type 0} → Type 0 → Result X F → KeyMap → KeyMap → Type 0
LeavesIn Room result new is = MatchResult result (λ _. new ≡ is) (λ _. Room → IsOk result)

-- both lists of a file find room
pub record HasShortLists (n : Node) : Type 0 where
  pub access : Fits (size n.label.acl)
  pub dacl : Fits (size_of n.dacl)

-- the file's lists find room, and each list that the line names, beside what the line puts and a mask; a default list beside the base
-- entries too
pub record HasRoom (n : Node) (c : Change) : Type 0 where
  pub lists : HasShortLists n
  pub access : FitsPart c Access 1 (access_before c n.label.acl)
  pub dacl : FitsPart c Default 4 (default_before c n.dacl)

-- the file's lists and the edit's find room
abbrev pub IsSmall : Node → Edit → Type 0
IsSmall n (edits.Change strip drop_default as_default no_mask remask remove set modify) =
    HasRoom n (options strip drop_default as_default no_mask remask remove set modify)
IsSmall n (edits.Put access dacl) = HasShortLists n × Fits (size_of access) × Fits (size_of dacl)
IsSmall n (edits.Flatten access dacl) = HasShortLists n
IsSmall n (edits.Restore access dacl owner group flags) = Fits (size access) × Fits (size_of dacl)
