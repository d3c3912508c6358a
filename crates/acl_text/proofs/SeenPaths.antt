-- Paths among those that were seen.
use Rattle.std.proofs.Common.{◌≡◌, ℕ, Bool, true, false, List, [], ◌∷◌, ◌++◌, map, Less, Equal, Greater, Ordering, Some, refl, sym, ap, ◌∙◌}
use Rattle.std.specs.Prelude.{◌||◌}
use Rattle.std.specs.List.{list_any}
use Rattle.std.specs.Ordering.{nat_cmp}
use Rattle.std.specs.Cmp.Lexicographic.{slice_cmp}
use Rattle.std.specs.BTreeSet.{insert_key}
use Rattle.std.proofs.lemmas.List.Folds.{list_any-append}
use Rattle.acl_names.specs.Paths.{path_cmp}
use Rattle.acl_names.proofs.PathOrder.{slice_cmp_on}
use Rattle.acl_names.proofs.Basics.{or_swapped, or_false}
use Rattle.acl_text.specs.declared.record.DumpRecord.{DumpRecord}
use Rattle.acl_text.specs.declared.seen.Seen.{Seen}
use Rattle.acl_text.specs.Records.{same_path, is_repeated}
use Rattle.acl_text.specs.DumpSeen.{has_path, SeenPathsAre}

-- an order of components is path order of their bytes
pub by_bytes : {V : Type 0} (f : V → List ℕ) (a b : List V) → slice_cmp (λ x y. slice_cmp nat_cmp (f x) (f y)) a b ≡ path_cmp (map f a) (map f b)
unfolding path_cmp
by_bytes f a b = slice_cmp_on f (slice_cmp nat_cmp) a b

pub any_same : {X : Type 0} (p q : X → Bool) (xs : List X) → ((x : X) → p x ≡ q x) → list_any p xs ≡ list_any q xs
any_same p q [] same = refl
any_same p q (x ∷ xs) same = λ i. same x i || any_same p q xs same i

absorbed : (a b : Bool) → (a || b) ≡ (a || (a || b))
absorbed true b = refl
absorbed false b = refl

-- a test of keys after a key is inserted, where keys that tie pass alike
pub any-insert_key : {K : Type 0} (cmp : K → K → Ordering) (p : K → Bool) (k : K) (ks : List K) → ((x : K) → cmp k x ≡ Equal → p x ≡ p k) → list_any p (insert_key cmp ks k) ≡ (p k || list_any p ks)
any-insert_key cmp p k [] alike = refl
any-insert_key cmp p k (x ∷ xs) alike =
    elim (cmp k x) as (λ o. cmp k x ≡ o → list_any p (Rattle.std.specs.Ordering.match_ordering o (k ∷ x ∷ xs) (x ∷ xs) (x ∷ insert_key cmp xs k)) ≡ (p k || (p x || list_any p xs))) [
      | Less ↦ λ e. refl
      | Equal ↦ λ e. ap (λ b. b || list_any p xs) (alike x e) ∙ (absorbed (p k) (list_any p xs) ∙ ap (λ b. p k || (b || list_any p xs)) (sym (alike x e)))
      | Greater ↦ λ e. ap (λ b. p x || b) (any-insert_key cmp p k xs alike) ∙ or_swapped (p x) (p k) (list_any p xs)
    ] refl

turned : (a b : Bool) → (a || b) ≡ (b || a)
turned true true = refl
turned true false = refl
turned false true = refl
turned false false = refl

-- the paths of the records with one more
pub seen_more : (old new : Seen) (records : List DumpRecord) (r : DumpRecord) → SeenPathsAre (Some old) records
    → ((other : List (List ℕ)) → has_path new other ≡ (same_path other r.path || has_path old other)) → SeenPathsAre (Some new) (records ++ r ∷ [])
seen_more old new records r are more path =
    more path
    ∙ ap (λ b. same_path path r.path || b) (are path)
    ∙ turned (same_path path r.path) (is_repeated records path)
    ∙ ap (λ b. is_repeated records path || b) (sym (or_false (same_path path r.path)))
    ∙ sym (list_any-append (λ (s : DumpRecord). same_path path s.path) records (r ∷ []))
