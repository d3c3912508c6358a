-- A group that is listed for a name.
use Rattle.std.proofs.Common.{◌≡◌, ℕ, nat_cmp, List, [], ◌∷◌, ◌++◌, Vec, Global, Option, Some, None, unwrap_or, if◌then◌else◌, refl, ap, ◌∙◌, inl, inr}
use Rattle.std.specs.Map.{update}
use Rattle.std.specs.Option.{option_map_or}
use Rattle.std.specs.BTreeMap.{get_by}
use Rattle.std.specs.Cmp.Lexicographic.{slice_cmp}
use Rattle.std.specs.Str.{bytes_eq}
use Rattle.std.proofs.lemmas.Bool.{cases_Bool}
use Rattle.std.proofs.lemmas.Slice.Eq.{bytes_eq-Decides}
use Rattle.acl_people.specs.Members.{Members, gids_at}

abbrev at : Members → List ℕ → Option (Vec ℕ Global)
at members name = get_by (λ k. slice_cmp nat_cmp name k.now) members

-- the groups listed so far, or none
pub items_or : (had : Option (Vec ℕ Global)) (empty : Vec ℕ Global) → empty.items ≡ [] → (unwrap_or had empty).items ≡ option_map_or (λ gids. gids.items) had []
items_or None empty is = is
items_or (Some gids) empty is = refl

-- the listed groups of the name are taken out and put back with one more
pub joined : (name : List ℕ) (gid : ℕ) (old mid new : Members) (gids : Vec ℕ Global)
    → ((q : List ℕ) → get_by (λ k. slice_cmp nat_cmp q k.now) mid ≡ update bytes_eq (λ ds. get_by (λ k. slice_cmp nat_cmp ds k.now) old) name None q)
    → ((q : List ℕ) → get_by (λ k. slice_cmp nat_cmp q k.now) new ≡ update bytes_eq (λ ds. get_by (λ k. slice_cmp nat_cmp ds k.now) mid) name (Some gids) q)
    → gids.items ≡ gids_at old name ++ gid ∷ []
    → (q : List ℕ) → gids_at new q ≡ (if bytes_eq name q then gids_at old q ++ gid ∷ [] else gids_at old q)
joined name gid old mid new gids taken put more q =
    elim (cases_Bool (bytes_eq name q)) [
      | inl same ↦
          let is : name ≡ q = (bytes_eq-Decides name q).0 same in
          rw (put q, same) (more ∙ ap (λ n. gids_at old n ++ gid ∷ []) is)
      | inr other ↦ rw (put q, other) (rw (taken q, other) refl)
    ]
