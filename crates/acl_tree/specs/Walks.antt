-- The recorded files around a path: at it or below it, and above it.
use Rattle.std.specs.Prelude.{List, map, filter}
use Rattle.acl_names.specs.Paths.{PathOf}
use Rattle.acl_tree.specs.Files.{Files}
use Rattle.acl_names.specs.Below.{encloses, is_above}

-- the paths of the files at or below a path, in path order
abbrev pub within : PathOf → Files → List PathOf
within p t = map (λ e. e.0) (filter (λ e. encloses p e.0) t)

-- the paths of the files that a path is below, in path order: parents first
abbrev pub ancestors : {V : Type 0} → PathOf → List (PathOf × V) → List PathOf
ancestors p t = map (λ e. e.0) (filter (λ e. is_above e.0 p) t)
