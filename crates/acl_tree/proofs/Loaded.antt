-- Records of a dump in path order, and which lie below which.
use Rattle.std.proofs.Common.{◌≡◌, List, [], ◌∷◌, ◌++◌, map, Ordering, Less, Equal, Greater, refl, sym, ap, subst, ◌∙◌, append_assoc}
use Rattle.std.specs.Prelude.{fold, reverse}
use Rattle.std.specs.FinMap.{put}
use Rattle.std.specs.FinMap.Entries.{by_order}
use Rattle.std.proofs.lemmas.List.{map-append, reverse-append}
use Rattle.acl_names.specs.Paths.{path_cmp, PathOf}
use Rattle.acl_names.proofs.PathOrder.{exact_paths}
use Rattle.acl_text.specs.declared.record.DumpRecord.{DumpRecord}
use Rattle.acl_edit.specs.declared.node.Node.{Node}
use Rattle.path_map.specs.Entries.{IsInOrder}
use Rattle.path_map.specs.Below.{holds_below}
use Rattle.acl_names.specs.Below.{is_above}
use Rattle.acl_names.proofs.Basics.{any-map}
use Rattle.acl_tree.specs.Loading.{insert_record, in_path_order, node_of, has_below, as_files, files_of}
use Rattle.acl_tree.specs.Inner.{next_below, files_from, next_file_below}
use Rattle.acl_tree.proofs.PutFile.{in_order-put}
use Rattle.acl_tree.proofs.Follows.{known_by_next}

-- ---- path order

-- what the records become, by their paths
abbrev pub seen : {V : Type 0} → (DumpRecord → V) → List DumpRecord → List (PathOf × V)
seen h rs = map (λ s. (s.path, h s)) rs

pub put_insert : {V : Type 0} (h : DumpRecord → V) (r : DumpRecord) (rs : List DumpRecord) → seen h (insert_record r rs) ≡ put path_cmp r.path (h r) (seen h rs)
put_insert h r [] = refl
put_insert {V = V} h r (s ∷ rs) = by (path_cmp r.path s.path) refl (put_insert h r rs)
  where
    by : (o : Ordering) → path_cmp r.path s.path ≡ o → seen h (insert_record r rs) ≡ put path_cmp r.path (h r) (seen h rs)
        → seen h (by_order o (r ∷ s ∷ rs) (r ∷ rs) (s ∷ insert_record r rs))
        ≡ by_order o ((r.path, h r) ∷ seen h (s ∷ rs)) ((s.path, h r) ∷ seen h rs) ((s.path, h s) ∷ put path_cmp r.path (h r) (seen h rs))
    by Less is rest = refl
    by Equal is rest = ap (λ p. (p, h r) ∷ seen h rs) (exact_paths r.path s.path is)
    by Greater is rest = ap (λ l. (s.path, h s) ∷ l) rest

in_order-fold : {V : Type 0} (h : DumpRecord → V) (rs done : List DumpRecord) → IsInOrder (seen h done) → IsInOrder (seen h (fold (λ sorted r. insert_record r sorted) done rs))
in_order-fold h [] done order = order
in_order-fold {V = V} h (r ∷ rs) done order = in_order-fold h rs (insert_record r done)
    (subst (λ (es : List (PathOf × V)). IsInOrder es) (sym (put_insert h r done)) (in_order-put r.path (h r) (seen h done) order))

-- the records are in path order, whatever they become
pub in_order-records : {V : Type 0} (h : DumpRecord → V) (rs : List DumpRecord) → IsInOrder (seen h (in_path_order rs))
in_order-records h rs = in_order-fold h rs [] refl

-- ---- below

below_seen : (h : DumpRecord → Node) (rs : List DumpRecord) (p : PathOf) → holds_below (seen h rs) p ≡ has_below rs p
below_seen h rs p = any-map (λ (e : PathOf × Node). is_above p e.0) (λ (r : DumpRecord). (r.path, h r)) rs

next_seen : (h : DumpRecord → Node) (rs : List DumpRecord) (p : PathOf) → next_file_below p (seen h rs) ≡ next_below p rs
next_seen h [] p = refl
next_seen h (r ∷ rs) p = refl

module _ (h : DumpRecord → Node) where
  -- another record lies below a record exactly if the next one in path order does
  next_shows : (pre : List DumpRecord) (r : DumpRecord) (rs : List DumpRecord) → IsInOrder (seen h (pre ++ r ∷ rs)) → next_below r.path rs ≡ has_below (pre ++ r ∷ rs) r.path
  next_shows pre r rs order =
      let parts : seen h (pre ++ r ∷ rs) ≡ seen h pre ++ (r.path, h r) ∷ seen h rs = map-append (λ (s : DumpRecord). (s.path, h s)) pre (r ∷ rs) in
      sym (next_seen h rs r.path)
      ∙ known_by_next (seen h pre) (r.path, h r) (seen h rs) (subst (λ (es : List (PathOf × Node)). IsInOrder es) parts order)
      ∙ ap (λ (es : List (PathOf × Node)). holds_below es r.path) (sym parts)
      ∙ below_seen h (pre ++ r ∷ rs) r.path

  by_next : (pre rs : List DumpRecord) → IsInOrder (seen h (pre ++ rs)) → files_from rs ≡ as_files (pre ++ rs) rs
  by_next pre [] order = refl
  by_next pre (r ∷ rs) order =
      let moved : pre ++ r ∷ rs ≡ (pre ++ r ∷ []) ++ rs = sym (append_assoc pre (r ∷ []) rs) in
      ap (λ b. (r.path, node_of b r) ∷ files_from rs) (next_shows pre r rs order)
      ∙ ap (λ l. (r.path, node_of (has_below (pre ++ r ∷ rs) r.path) r) ∷ l) (by_next (pre ++ r ∷ []) rs (subst (λ l. IsInOrder (seen h l)) moved order) ∙ ap (λ l. as_files l rs) (sym moved))

-- the files by what follows each, in path order
pub files_are : (rs : List DumpRecord) → files_from (in_path_order rs) ≡ files_of rs
files_are rs = by_next (λ r. node_of (has_below (in_path_order rs) r.path) r) [] (in_path_order rs) (in_order-records (λ r. node_of (has_below (in_path_order rs) r.path) r) rs)

pub files_in_order : (rs : List DumpRecord) → IsInOrder (files_of rs)
files_in_order rs = in_order-records (λ r. node_of (has_below (in_path_order rs) r.path) r) rs

-- ---- the records from the last one on

pub reverse-end : {A : Type 0} (xs : List A) (x : A) → reverse (xs ++ x ∷ []) ≡ x ∷ reverse xs
reverse-end xs x = reverse-append xs (x ∷ [])
