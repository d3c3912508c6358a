-- The files of a dump's records, as a map from paths.
use Rattle.std.proofs.Common.{◌≡◌, Bool, true, false, cond, ◌||◌, List, [], ◌∷◌, Option, Some, None, Ordering, Less, Equal, Greater, refl, ap, ◌∙◌}
use Rattle.std.specs.Prelude.{fold, option_map}
use Rattle.std.specs.Option.{option_or}
use Rattle.std.specs.Ordering.{eq_by_cmp}
use Rattle.std.specs.FinMap.{find}
use Rattle.std.specs.FinMap.Entries.{by_order, find-put}
use Rattle.acl_names.specs.Paths.{path_cmp, PathOf}
use Rattle.acl_names.proofs.PathOrder.{path_total, exact_paths}
use Rattle.acl_text.specs.declared.record.DumpRecord.{DumpRecord}
use Rattle.acl_names.specs.Below.{is_above}
use Rattle.acl_names.proofs.Basics.{or_none}
use Rattle.acl_tree.specs.Loading.{insert_record, in_path_order, node_of, has_below, files_of, record_at, loaded_at}
use Rattle.acl_tree.proofs.Loaded.{seen, put_insert}

module _ {V : Type 0} (h : DumpRecord → V) (p : PathOf) where
  one : (later : Option DumpRecord) (b : Bool) (r : DumpRecord) (old : Option V)
      → option_or (option_map h later) (cond b (Some (h r)) old) ≡ option_or (option_map h (option_or later (cond b (Some r) None))) old
  one (Some s) b r old = refl
  one None true r old = refl
  one None false r old = refl

  -- records put among others, in turn
  found_among : (rs done : List DumpRecord) → find path_cmp p (seen h (fold (λ sorted r. insert_record r sorted) done rs)) ≡ option_or (option_map h (record_at p rs)) (find path_cmp p (seen h done))
  found_among [] done = refl
  found_among (r ∷ rs) done =
      found_among rs (insert_record r done)
      ∙ ap (λ o. option_or (option_map h (record_at p rs)) o) (ap (λ es. find path_cmp p es) (put_insert h r done) ∙ find-put path_cmp path_total p r.path (h r) (seen h done))
      ∙ one (record_at p rs) (eq_by_cmp path_cmp p r.path) r (find path_cmp p (seen h done))

  pub found : (rs : List DumpRecord) → find path_cmp p (seen h (in_path_order rs)) ≡ option_map h (record_at p rs)
  found rs = found_among rs [] ∙ or_none (option_map h (record_at p rs))

module _ (q : PathOf) where
  twice : (a c : Bool) → (a || c) ≡ (a || (a || c))
  twice true c = refl
  twice false c = refl

  swapped : (a b c : Bool) → (a || (b || c)) ≡ (b || (a || c))
  swapped true true c = refl
  swapped true false c = refl
  swapped false b c = refl

  moved : (a b c : Bool) → (a || (b || c)) ≡ ((b || a) || c)
  moved true true c = refl
  moved true false c = refl
  moved false true c = refl
  moved false false c = refl

  below_one : (r : DumpRecord) (rs : List DumpRecord) → has_below (insert_record r rs) q ≡ (is_above q r.path || has_below rs q)
  below_one r [] = refl
  below_one r (s ∷ rs) = by (path_cmp r.path s.path) refl (below_one r rs)
    where
      by : (o : Ordering) → path_cmp r.path s.path ≡ o → has_below (insert_record r rs) q ≡ (is_above q r.path || has_below rs q)
          → has_below (by_order o (r ∷ s ∷ rs) (r ∷ rs) (s ∷ insert_record r rs)) q ≡ (is_above q r.path || (is_above q s.path || has_below rs q))
      by Less is rest = refl
      by Equal is rest = twice (is_above q r.path) (has_below rs q) ∙ ap (λ x. is_above q r.path || (is_above q x || has_below rs q)) (exact_paths r.path s.path is)
      by Greater is rest = ap (λ b. is_above q s.path || b) rest ∙ swapped (is_above q s.path) (is_above q r.path) (has_below rs q)

  below_among : (rs done : List DumpRecord) → has_below (fold (λ sorted r. insert_record r sorted) done rs) q ≡ (has_below rs q || has_below done q)
  below_among [] done = refl
  below_among (r ∷ rs) done = below_among rs (insert_record r done) ∙ ap (λ b. has_below rs q || b) (below_one r done) ∙ moved (has_below rs q) (is_above q r.path) (has_below done q)

  or_false : (a : Bool) → (a || false) ≡ a
  or_false true = refl
  or_false false = refl

  -- the order of records doesn't matter
  pub below_same : (rs : List DumpRecord) → has_below (in_path_order rs) q ≡ has_below rs q
  below_same rs = below_among rs [] ∙ or_false (has_below rs q)

pub loaded_found : (records : List DumpRecord) (p : PathOf) → find path_cmp p (files_of records) ≡ loaded_at p records
loaded_found records p = found (λ r. node_of (has_below (in_path_order records) r.path) r) p records ∙ alike (record_at p records)
  where
    alike : (o : Option DumpRecord) → option_map (λ r. node_of (has_below (in_path_order records) r.path) r) o ≡ option_map (λ r. node_of (has_below records r.path) r) o
    alike None = refl
    alike (Some r) = ap (λ b. Some (node_of b r)) (below_same r.path records)
