-- Ids in the keys of entries.
use Rattle.std.proofs.Common.{◌≡◌, ℕ, ◌<◌, suc, List, ◌∷◌, length, get_or, take, drop, sym, ap, subst, ◌∙◌, arith}
use Rattle.std.specs.List.{insert, remove}
use Rattle.std.proofs.lemmas.List.{length-map}
use Rattle.std.proofs.Math.ListN.{get_or-map}
use Rattle.std.proofs.lemmas.List.Elements.{All-cons, All-append, All-take, All-drop}
use Rattle.std.proofs.lemmas.List.Sorted.{All-permutation, IsPermutation-insert}
use Rattle.acl_entry.specs.declared.entry.Entry.{Entry}
use Rattle.acl_entry.specs.Keys.{id_of}
use Rattle.acl_entry.specs.Lists.{keys, HasIds}

-- entries with the same keys
pub HasIds-keys : (es fs : List Entry) → keys fs ≡ keys es → HasIds es → HasIds fs
HasIds-keys es fs same h k d lt =
    let in_range : k < length es = omega (arith, length-map fs (λ (e : Entry). e.key), length-map es (λ (e : Entry). e.key), ap length same) in
    let is : (get_or es k d).key ≡ (get_or fs k d).key =
    sym (get_or-map (λ (e : Entry). e.key) es k d) ∙ ap (λ ks. get_or ks k d.key) (sym same) ∙ get_or-map (λ (e : Entry). e.key) fs k d in
    subst (λ q. id_of q < 4294967295) is (h k d in_range)

pub HasIds-insert : (es : List Entry) (e : Entry) (i : ℕ) → HasIds es → id_of e.key < 4294967295 → HasIds (insert es i e)
HasIds-insert es e i h bound =
    All-permutation (λ (x : Entry). id_of x.key < 4294967295) (e ∷ es) (insert es i e) (IsPermutation-insert es i e) (All-cons (λ (x : Entry). id_of x.key < 4294967295) e es bound h)

pub HasIds-remove : (es : List Entry) (i : ℕ) → HasIds es → HasIds (remove es i)
HasIds-remove es i h =
    let P = λ (x : Entry). id_of x.key < 4294967295 in
    All-append P (take i es) (drop (suc i) es) (All-take P i es h) (All-drop P (suc i) es h)
