-- The files that mention a group.
use Rattle.std.specs.Prelude.{ℕ, Bool, List, filter, length}
use Rattle.std.specs.List.{sum_by}
use Rattle.acl_entry.specs.Mentions.{mentions, is_one_of, meets}
use Rattle.acl_edit.specs.declared.node.Node.{Node}
use Rattle.acl_names.specs.Paths.{PathOf}
use Rattle.acl_tree.specs.Files.{Files}

-- whether a file's label mentions a group
abbrev pub mentions_group : ℕ → PathOf × Node → Bool
mentions_group g e = is_one_of g (mentions e.1.label)

-- whether it mentions one of some groups
abbrev pub mentions_one : List ℕ → PathOf × Node → Bool
mentions_one groups e = meets (mentions e.1.label) groups

-- the files that mention a group, in path order
abbrev pub mentioning : ℕ → Files → Files
mentioning g fs = filter (mentions_group g) fs

-- over some groups, the sum of the numbers of files that mention one
abbrev pub sum_mentioning : List ℕ → Files → ℕ
sum_mentioning groups fs = sum_by (λ g. length (mentioning g fs)) groups
