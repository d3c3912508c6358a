-- The groups whose rows name a user, as they are looked up by the user's name.
use Rattle.std.specs.Prelude.{◌≡◌, ℕ, List, [], ◌∷◌, ◌++◌, map, filter, if◌then◌else◌}
use Rattle.std.specs.FinSet.{from_list}
use Rattle.std.specs.Option.{option_map_or}
use Rattle.std.specs.List.{flat_map}
use Rattle.std.specs.Ordering.{nat_cmp}
use Rattle.std.specs.Str.{bytes_eq}
use Rattle.std.specs.declared.vec.Vec.{Vec}
use Rattle.std.specs.BTreeMap.{BTreeMap, get_by}
use Rattle.std.specs.Cmp.Lexicographic.{slice_cmp}
use Rattle.std.specs.declared.alloc.Global.{Global}
use denote.Ref.{Bor}
use Rattle.acl_entry.specs.Person.{Person}
use Rattle.acl_text.specs.declared.rows.PasswdRow.{PasswdRow}
use Rattle.acl_text.specs.declared.rows.GroupRow.{GroupRow}

abbrev pub Members : Type 0
Members = BTreeMap (Bor (List ℕ)) (Vec ℕ Global)

abbrev pub gids_at : Members → List ℕ → List ℕ
gids_at members name = option_map_or (λ gids. gids.items) (get_by (λ k. slice_cmp nat_cmp name k.now) members) []

-- a row's group, once for each time that it names the user
abbrev pub row_gids : List ℕ → GroupRow → List ℕ
row_gids name row = map (λ _. row.gid) (filter (λ member. bytes_eq member name) row.names)

abbrev pub rows_gids : List ℕ → List GroupRow → List ℕ
rows_gids name rows = flat_map (row_gids name) rows

-- a group is listed for a name
abbrev pub Joins : Members → Members → List ℕ → ℕ → Type 0
Joins old new name gid = (q : List ℕ) → gids_at new q ≡ (if bytes_eq name q then gids_at old q ++ gid ∷ [] else gids_at old q)

-- a row's group is listed for each name in it
abbrev pub JoinsAll : Members → Members → GroupRow → Type 0
JoinsAll old new row = (name : List ℕ) → gids_at new name ≡ gids_at old name ++ row_gids name row

-- the groups of these rows are listed
abbrev pub AreMembers : List GroupRow → Members → Type 0
AreMembers rows members = (name : List ℕ) → gids_at members name ≡ rows_gids name rows

-- a user, whose groups are those that are listed for the name
abbrev pub person_among : Members → PasswdRow → Person
person_among members row = record { uid = row.uid; groups = from_list (row.gid ∷ gids_at members row.name) }
