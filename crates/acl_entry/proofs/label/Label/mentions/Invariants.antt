use Rattle.std.proofs.Common.{◌≡◌, ◌∷◌, ◌++◌, drop}
use Rattle.acl_entry.specs.Mentions.{named_groups}
use Rattle.acl_entry.proofs.label.Label.mentions.Given as goal

-- what is found so far, and what the entries that are left name
abbrev pub invariant-loop-entry : goal.invariant-loop-entry
invariant-loop-entry l = l.ids.items ++ named_groups (drop l.entry-index l.entry-items) ≡ l.self.group ∷ named_groups l.entry-items
