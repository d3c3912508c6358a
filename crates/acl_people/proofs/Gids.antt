-- A user's groups, however often a row names the user.
use Rattle.std.proofs.Common.{◌≡◌, ℕ, Bool, true, false, ◌||◌, ◌&&◌, cond, nat_eq, nat_cmp, List, [], ◌∷◌, ◌++◌, map, filter, refl, sym, ap, ◌∙◌}
use Rattle.std.specs.List.{list_any}
use Rattle.std.specs.Str.{bytes_eq}
use Rattle.std.specs.FinSet as sets
use Rattle.std.specs.FinSet.{contains-from_list_nat, same_set, nat_cmp-IsAntisymmetric}
use Rattle.std.proofs.lemmas.Cmp.{nat_cmp_total}
use Rattle.std.proofs.lemmas.List.{map-append}
use Rattle.std.proofs.lemmas.List.Elements.{filter-append}
use Rattle.std.proofs.lemmas.List.Folds.{list_any-append}
use Rattle.acl_text.specs.declared.rows.GroupRow.{GroupRow}
use Rattle.acl_text.specs.declared.rows.PasswdRow.{PasswdRow}
use Rattle.acl_people.specs.Members.{row_gids, rows_gids}
use Rattle.acl_people.specs.KnownPeople.{names_user, gids_of, person}

absorbs : (b c : Bool) → (b || (c && b)) ≡ b
absorbs true c = refl
absorbs false true = refl
absorbs false false = refl

-- one value for each that passes
any-marked : (t : ℕ → Bool) (x : ℕ) (p : List ℕ → Bool) (ns : List (List ℕ)) → list_any t (map (λ _. x) (filter p ns)) ≡ (list_any p ns && t x)
any-marked t x p [] = refl
any-marked t x p (n ∷ ns) = elim (p n) as (λ b. list_any t (map (λ _. x) (cond b (n ∷ filter p ns) (filter p ns))) ≡ ((b || list_any p ns) && t x)) [
  | true ↦ ap (λ b. t x || b) (any-marked t x p ns) ∙ absorbs (t x) (list_any p ns)
  | false ↦ any-marked t x p ns
]

any-rows : (t : ℕ → Bool) (name : List ℕ) (groups : List GroupRow) → list_any t (rows_gids name groups) ≡ list_any t (map (λ group. group.gid) (filter (names_user name) groups))
any-rows t name [] = refl
any-rows t name (g ∷ gs) =
    list_any-append t (row_gids name g) (rows_gids name gs)
    ∙ ap (λ b. b || list_any t (rows_gids name gs)) (any-marked t g.gid (λ member. bytes_eq member name) g.names)
    ∙ ap (λ b. (names_user name g && t g.gid) || b) (any-rows t name gs)
    ∙ (elim (names_user name g) as (λ b. ((b && t g.gid) || list_any t (map (λ group. group.gid) (filter (names_user name) gs)))
    ≡ list_any t (map (λ group. group.gid) (cond b (g ∷ filter (names_user name) gs) (filter (names_user name) gs)))) [ true ↦ refl | false ↦ refl ])

-- the groups of a user, from the groups that are listed for the user's name
pub person_is : (groups : List GroupRow) (row : PasswdRow) → record { uid = row.uid; groups = sets.from_list {R = nat_cmp} (row.gid ∷ rows_gids row.name groups) } ≡ person groups row
person_is groups row =
    ap (λ (g : sets.FinSet nat_cmp). record { uid = row.uid; groups = g }) (same_set nat_cmp_total nat_cmp-IsAntisymmetric _ _ (λ q.
    contains-from_list_nat (row.gid ∷ rows_gids row.name groups) q
    ∙ ap (λ b. nat_eq row.gid q || b) (any-rows (λ y. nat_eq y q) row.name groups)
    ∙ sym (contains-from_list_nat (gids_of groups row) q)))

-- one row more
pub gids_more : (name : List ℕ) (gs : List GroupRow) (g : GroupRow)
    → map (λ row. row.gid) (filter (names_user name) (gs ++ g ∷ [])) ≡ map (λ row. row.gid) (filter (names_user name) gs) ++ cond (names_user name g) (g.gid ∷ []) []
gids_more name gs g =
    ap (λ rows. map (λ row. row.gid) rows) (filter-append (names_user name) gs (g ∷ []))
    ∙ map-append (λ row. row.gid) (filter (names_user name) gs) (filter (names_user name) (g ∷ []))
    ∙ ap (λ ids. map (λ row. row.gid) (filter (names_user name) gs) ++ ids)
    (elim (names_user name g) as (λ b. map (λ row. row.gid) (cond b (g ∷ []) []) ≡ cond b (g.gid ∷ []) []) [ true ↦ refl | false ↦ refl ])
