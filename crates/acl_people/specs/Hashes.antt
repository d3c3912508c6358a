-- The key of the hashes of names. Only the clause of an inner function names it.
use Rattle.std.specs.Prelude.{ℕ, List, [], ◌∷◌, ◌++◌}
use Rattle.std.specs.List.{flat_map}
use Rattle.std.specs.Hash.DefaultHasher.{initial, write}
use Rattle.std.specs.declared.hash.DefaultHasher.{DefaultHasher}
use Rattle.sha2.specs.Sha256.{sha256}
use Rattle.acl_people.specs.NameTables.{Named}

-- all names, a colon after each
abbrev pub all_names : List Named → List ℕ
all_names es = flat_map (λ e. e.0 ++ 58 ∷ []) es

-- SipHash, once it was given the digest of all names
abbrev pub keyed : List Named → DefaultHasher
keyed es = write initial (sha256 (all_names es))
