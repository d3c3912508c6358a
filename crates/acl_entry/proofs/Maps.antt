-- Entries in list order, as the map that they make.
use Rattle.std.proofs.Common.{◌≡◌, ℕ, cond, T, List, [], ◌∷◌, map, Some, refl, sym, ap, subst, ◌∙◌, ◌≤◌, ◌++◌, length, take, drop, arith}
use Rattle.std.specs.Ordering.{eq_by_cmp}
use Rattle.std.specs.FinMap as maps
use Rattle.std.specs.FinMap.Entries.{find-put, is_sorted-put}
use Rattle.std.specs.List.{insert, refill}
use Rattle.std.proofs.lemmas.List.{length-map, take-append-le}
use Rattle.std.proofs.Math.Seq.{take-length}
use Rattle.acl_entry.proofs.Placed.{put_gap}
use Rattle.acl_entry.specs.declared.entry.Key.{Key}
use Rattle.acl_entry.specs.declared.entry.Entry.{Entry}
use Rattle.acl_entry.specs.Perms.{Perms}
use Rattle.acl_entry.specs.Keys.{key_cmp, same_key}
use Rattle.acl_entry.specs.Lists.{KeyMap, pairs, map_of, entries, IsInOrder, IsGapFor, keys}
use Rattle.acl_entry.proofs.KeyLaws.{key_total, exact_keys}
use Rattle.acl_entry.proofs.Basics.{from_T}

-- what the map has at a key
pub get-map_of : (es : List Entry) (k : Key) → maps.get (map_of es) k ≡ maps.find key_cmp k (pairs es)
get-map_of es k = maps.get-from_entries key_total (pairs es) k

-- maps that answer alike are equal
pub same : (m n : KeyMap) → ((k : Key) → maps.get m k ≡ maps.get n k) → m ≡ n
same = maps.same_map key_total exact_keys

pub map_of-from_finds : (es fs : List Entry) → ((k : Key) → maps.find key_cmp k (pairs es) ≡ maps.find key_cmp k (pairs fs)) → map_of es ≡ map_of fs
map_of-from_finds es fs h = same _ _ (λ k. get-map_of es k ∙ h k ∙ sym (get-map_of fs k))

-- another set at one key
pub map_of-put : (es fs : List Entry) (k : Key) (v : Perms) → pairs fs ≡ maps.put key_cmp k v (pairs es) → map_of fs ≡ maps.insert (map_of es) k v
map_of-put es fs k v h = same _ _ (λ q.
    get-map_of fs q ∙ ap (maps.find key_cmp q) h ∙ find-put key_cmp key_total q k v (pairs es)
    ∙ sym (maps.get-insert key_total (map_of es) k v q ∙ ap (cond (eq_by_cmp key_cmp q k) (Some v)) (get-map_of es q)))

pub is_T : (es : List Entry) → IsInOrder es → T (maps.is_sorted key_cmp (pairs es))
is_T es h = subst T (sym h) tt

map_of-from_sorted : (es : List Entry) → IsInOrder es → map_of es ≡ maps.from_sorted (pairs es)
map_of-from_sorted es h = same _ _ (λ k. get-map_of es k ∙ sym (maps.get-from_sorted key_cmp (pairs es) k (is_T es h)))

unpaired : (es : List Entry) → map (λ p. record { key = p.0; perm = p.1 }) (pairs es) ≡ es
unpaired [] = refl
unpaired (e ∷ es) = ap (λ z. e ∷ z) (unpaired es)

pub pairs-map_of : (es : List Entry) → IsInOrder es → maps.entries (map_of es) ≡ pairs es
pairs-map_of es h = ap maps.entries (map_of-from_sorted es h) ∙ maps.entries-from_sorted key_cmp (pairs es) (is_T es h)

unpaired_pairs : (ps : List (Key × Perms)) → pairs (map (λ p. record { key = p.0; perm = p.1 }) ps) ≡ ps
unpaired_pairs [] = refl
unpaired_pairs (p ∷ ps) = ap (λ z. p ∷ z) (unpaired_pairs ps)

-- the map of the entries of a map
pub map_of-entries : (m : KeyMap) → map_of (entries m) ≡ m
map_of-entries m = same _ _ (λ k.
    get-map_of (entries m) k ∙ ap (maps.find key_cmp k) (unpaired_pairs (maps.entries m)) ∙ sym (maps.get-entries m k))

pub in_order-entries : (m : KeyMap) → IsInOrder (entries m)
in_order-entries m = ap (maps.is_sorted key_cmp) (unpaired_pairs (maps.entries m)) ∙ from_T _ (maps.entries_sorted m)

-- the entries of the map are those that made it
pub entries-map_of : (es : List Entry) → IsInOrder es → entries (map_of es) ≡ es
entries-map_of es h = ap (map (λ p. record { key = p.0; perm = p.1 })) (pairs-map_of es h) ∙ unpaired es

-- a new entry in its gap keeps the order
pub in_order-insert : (es : List Entry) → IsInOrder es → (e : Entry) (i : ℕ) → IsGapFor es e.key i → IsInOrder (insert es i e)
in_order-insert es h e i gap =
    ap (maps.is_sorted key_cmp) (sym (put_gap es e.key e.perm i gap))
    ∙ from_T _ (is_sorted-put key_cmp key_total e.key e.perm (pairs es) (is_T es h))

-- another set at an old key keeps it too
pub in_order-put : (es fs : List Entry) → IsInOrder es → (k : Key) (v : Perms) → pairs fs ≡ maps.put key_cmp k v (pairs es) → IsInOrder fs
in_order-put es fs h k v is = ap (maps.is_sorted key_cmp) is ∙ from_T _ (is_sorted-put key_cmp key_total k v (pairs es) (is_T es h))

-- what is found after the insert
pub find-insert : (es : List Entry) (e : Entry) (i : ℕ) → IsGapFor es e.key i → (k : Key)
    → maps.find key_cmp k (pairs (insert es i e)) ≡ cond (same_key k e.key) (Some e.perm) (maps.find key_cmp k (pairs es))
find-insert es e i gap k = ap (maps.find key_cmp k) (sym (put_gap es e.key e.perm i gap)) ∙ find-put key_cmp key_total k e.key e.perm (pairs es)

-- what a write of all entries as a slice leaves
pub refill-keys : (xs ws : List Entry) → keys ws ≡ keys xs → refill (length xs) xs ws ≡ ws
refill-keys xs ws same =
    let h : length ws ≡ length xs = sym (length-map ws (λ (e : Entry). e.key)) ∙ ap length same ∙ length-map xs (λ (e : Entry). e.key) in
    let le : length ws ≤ length ws = omega arith in
    ap (λ n. take n (ws ++ drop (length ws) xs)) (sym h) ∙ take-append-le (length ws) ws (drop (length ws) xs) le ∙ take-length ws
