-- A key is among those that are removed from a list exactly where an entry of that list has it.
use Rattle.std.proofs.Common.{◌≡◌, Bool, true, false, not, ◌&&◌, ◌||◌, cond, List, [], ◌∷◌, Option, Some, refl, sym, ap, ◌∙◌}
use Rattle.std.specs.Prelude.{fold, is_some}
use Rattle.std.specs.Bool.{beq}
use Rattle.std.specs.FinMap as maps
use Rattle.std.specs.List.{find, list_any}
use Rattle.acl_names.proofs.Basics.{or_turned, or_false}
use Rattle.acl_entry.proofs.KeyLaws.{key_total}
use Rattle.acl_entry.specs.Keys.{key_cmp, same_key}
use Rattle.acl_entry.specs.Lists.{KeyMap}
use Rattle.acl_entry.specs.Perms.{Perms, none}
use Rattle.acl_entry.specs.declared.entry.Key.{Key}
use Rattle.acl_text.specs.declared.entries.Spec.{Spec}
use Rattle.facl_tools.specs.RemovedKeys.{keys_of, removes, with_key}
use Rattle.facl_tools.specs.Setfacl.{is_same_entry}
use Rattle.facl_tools.specs.declared.setfacl_entries.RemovedKeys.{RemovedKeys}

-- the entry is of this list and has this key
abbrev has_key : Bool → Key → Spec → Bool
has_key dflt k s = beq dflt s.dflt && same_key k s.key

some_or : (b : Bool) (v : Perms) (o : Option Perms) → is_some (cond b (Some v) o) ≡ (b || is_some o)
some_or true v o = refl
some_or false v o = refl

one_more : (dflt : Bool) (keys : KeyMap) (s : Spec) (k : Key) → is_some (maps.get (with_key dflt keys s) k) ≡ (has_key dflt k s || is_some (maps.get keys k))
one_more dflt keys s k = by (beq dflt s.dflt)
  where
    by : (b : Bool) → is_some (maps.get (cond b (maps.insert keys s.key none) keys) k) ≡ ((b && same_key k s.key) || is_some (maps.get keys k))
    by true = ap is_some (maps.get-insert key_total keys s.key none k) ∙ some_or (same_key k s.key) none (maps.get keys k)
    by false = refl

gathered : (dflt : Bool) (k : Key) (keys : KeyMap) (specs : List Spec) → is_some (maps.get (fold (with_key dflt) keys specs) k) ≡ (list_any (has_key dflt k) specs || is_some (maps.get keys k))
gathered dflt k keys [] = refl
gathered dflt k keys (s ∷ specs) =
    gathered dflt k (with_key dflt keys s) specs
    ∙ (ap (λ b. list_any (has_key dflt k) specs || b) (one_more dflt keys s k)
    ∙ or_turned (list_any (has_key dflt k) specs) (has_key dflt k s) (is_some (maps.get keys k)))

is_key_of : (dflt : Bool) (k : Key) (specs : List Spec) → is_some (maps.get (keys_of dflt specs) k) ≡ list_any (has_key dflt k) specs
is_key_of dflt k specs =
    gathered dflt k maps.empty specs
    ∙ (ap (λ (o : Option Perms). list_any (has_key dflt k) specs || is_some o) (maps.get-empty key_cmp k) ∙ or_false (list_any (has_key dflt k) specs))

none_of : (specs : List Spec) → list_any (λ (r : Spec). false) specs ≡ false
none_of [] = refl
none_of (s ∷ specs) = none_of specs

and_any : (b : Bool) (f : Spec → Bool) (specs : List Spec) → (b && list_any f specs) ≡ list_any (λ r. b && f r) specs
and_any true f specs = refl
and_any false f specs = sym (none_of specs)

-- an entry is removed where one of the removed entries is the same
pub removed_entry : (as_default : Bool) (keys : RemovedKeys) (removed : List Spec) (m : Spec) → keys.access ≡ keys_of false removed → keys.dflt ≡ keys_of true removed
    → removes as_default keys m ≡ list_any (λ r. is_same_entry as_default m r) removed
removed_entry as_default keys removed m access dflt =
    ap (λ b. not (as_default && m.dflt) && b) (by m.dflt) ∙ and_any (not (as_default && m.dflt)) (has_key m.dflt m.key) removed
  where
    by : (b : Bool) → is_some (maps.get (cond b keys.dflt keys.access) m.key) ≡ list_any (has_key b m.key) removed
    by true = ap (λ ks. is_some (maps.get ks m.key)) dflt ∙ is_key_of true m.key removed
    by false = ap (λ ks. is_some (maps.get ks m.key)) access ∙ is_key_of false m.key removed

pub find_same : (f g : Spec → Bool) → ((m : Spec) → f m ≡ g m) → (ms : List Spec) → find f ms ≡ find g ms
find_same f g same [] = refl
find_same f g same (m ∷ ms) = ap (λ b. cond b (Some m) (find f ms)) (same m) ∙ ap (λ o. cond (g m) (Some m) o) (find_same f g same ms)
