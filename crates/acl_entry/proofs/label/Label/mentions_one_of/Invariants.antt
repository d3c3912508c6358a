use Rattle.std.proofs.Common.{◌≡◌, drop}
use Rattle.std.specs.List.{list_any}
use Rattle.acl_entry.specs.Mentions.{is_one_of, named_groups}
use Rattle.acl_entry.proofs.label.Label.mentions_one_of.Given as goal

-- whether one is mentioned rests on the entries that are left
abbrev pub invariant-loop-entry : goal.invariant-loop-entry
invariant-loop-entry l = list_any (λ g. is_one_of g l.groups) (named_groups l.entry-items) ≡ list_any (λ g. is_one_of g l.groups) (named_groups (drop l.entry-index l.entry-items))
