-- Entries in list order without one key.
use Rattle.std.proofs.Common.{◌≡◌, ℕ, zero, suc, Bool, true, false, cond, not, IsTrue, List, [], ◌∷◌, Option, None, Equal, refl, sym, ap, subst, ◌∙◌, arith}
use Rattle.std.specs.List.{remove}
use Rattle.std.specs.Ordering.{is_eq}
use Rattle.std.specs.FinMap as maps
use Rattle.std.specs.FinMap.Entries.{below_all, where_key, find-where_key, is_sorted-where_key}
use Rattle.std.proofs.lemmas.Bool.{and_parts}
use Rattle.std.proofs.lemmas.Cmp.{tied_itself, eq_by_cmp_equiv}
use Rattle.acl_entry.specs.declared.entry.Key.{Key}
use Rattle.acl_entry.specs.declared.entry.Entry.{Entry}
use Rattle.acl_entry.specs.Perms.{Perms}
use Rattle.acl_entry.specs.Keys.{key_cmp, same_key}
use Rattle.acl_entry.specs.Lists.{pairs, map_of, IsInOrder, IsAt, IsGapFor}
use Rattle.acl_entry.proofs.KeyLaws.{key_total, exact_keys}
use Rattle.acl_entry.proofs.Placed.{tail_at, tail_gap, before_at}
use Rattle.acl_entry.proofs.Maps.{same, get-map_of, is_T}
use Rattle.acl_entry.proofs.Basics.{from_T, is_less}

-- the entries of other keys
abbrev pub without : Key → List (Key × Perms) → List (Key × Perms)
without k = where_key key_cmp (λ x. not (same_key k x))

-- a higher key stays, and so does a lower one
stays : (k : Key) (e : Entry) (es : List Entry) (same : same_key k e.key ≡ false) → without k (pairs (e ∷ es)) ≡ (e.key, e.perm) ∷ without k (pairs es)
stays k e es same = ap (λ b. cond (not b) ((e.key, e.perm) ∷ without k (pairs es)) (without k (pairs es))) same

without_above : (k : Key) (es : List Entry) → IsTrue (below_all key_cmp k (pairs es)) → without k (pairs es) ≡ pairs es
without_above k [] h = refl
without_above k (e ∷ es) h =
    stays k e es (ap is_eq (is_less _ (and_parts _ _ h).0)) ∙ ap (λ z. (e.key, e.perm) ∷ z) (without_above k es (and_parts _ _ h).1)

pub without_at : (es : List Entry) → IsInOrder es → (k : Key) (i : ℕ) → IsAt es k i → pairs (remove es i) ≡ without k (pairs es)
without_at [] h k i at = absurd (omega (arith, at.in_range))
without_at (e ∷ es) h k zero at =
    sym (
    ap (λ o. cond (not (is_eq o)) ((e.key, e.perm) ∷ without k (pairs es)) (without k (pairs es))) (subst (λ q. key_cmp k q ≡ Equal) (sym (at.has_key e)) (tied_itself key_total k))
    ∙ without_above k es (subst (λ q. IsTrue (below_all key_cmp q (pairs es))) (at.has_key e) (and_parts _ _ h).0))
without_at (e ∷ es) h k (suc i) at =
    ap (λ z. (e.key, e.perm) ∷ z) (without_at es (and_parts _ _ h).1 k i (tail_at e es k i at))
    ∙ sym (stays k e es (ap is_eq (before_at e es k i h at)))

pub without_gap : (es : List Entry) (k : Key) (i : ℕ) → IsGapFor es k i → pairs es ≡ without k (pairs es)
without_gap [] k i gap = refl
without_gap (e ∷ es) k zero gap =
    ap (λ z. (e.key, e.perm) ∷ z) (without_gap es k zero (record {
      in_range = omega arith;
      lower_before = λ j d lt. absurd (omega arith);
      higher_after = λ j d le lt. gap.higher_after (suc j) d (omega arith) (omega arith);
    }))
    ∙ sym (stays k e es (ap is_eq (gap.higher_after 0 e (omega arith) (omega arith))))
without_gap (e ∷ es) k (suc i) gap =
    ap (λ z. (e.key, e.perm) ∷ z) (without_gap es k i (tail_gap e es k i gap)) ∙ sym (stays k e es (ap is_eq (gap.lower_before 0 e (omega arith))))

turned : (b : Bool) (o : Option Perms) → cond (not b) o None ≡ cond b None o
turned true o = refl
turned false o = refl

pub map_of-without : (es fs : List Entry) (k : Key) → pairs fs ≡ without k (pairs es) → map_of fs ≡ maps.remove (map_of es) k
map_of-without es fs k h = same _ _ (λ q.
    get-map_of fs q ∙ ap (maps.find key_cmp q) h
    ∙ find-where_key key_cmp (λ x. not (same_key k x)) q (λ x tied. ap (λ y. not (same_key k y)) (sym (exact_keys q x tied))) (pairs es)
    ∙ turned (same_key k q) (maps.find key_cmp q (pairs es))
    ∙ ap (λ b. cond b None (maps.find key_cmp q (pairs es))) ((eq_by_cmp_equiv key_total).symm k q)
    ∙ sym (maps.get-remove key_total (map_of es) k q ∙ ap (cond (same_key q k) None) (get-map_of es q)))

pub in_order-without : (es fs : List Entry) → IsInOrder es → (k : Key) → pairs fs ≡ without k (pairs es) → IsInOrder fs
in_order-without es fs h k is = ap (maps.is_sorted key_cmp) is ∙ from_T _ (is_sorted-where_key key_cmp (λ x. not (same_key k x)) (pairs es) (is_T es h))
