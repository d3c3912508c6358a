-- Lists that a line leaves alone.
use Rattle.std.proofs.Common.{◌≡◌, Bool, true, false, List, [], ◌∷◌, length, Option, Some, None, Result, Ok, Err, refl, sym, ap, ◌∙◌, cond, eqb, arith}
use Rattle.std.proofs.lemmas.Bool.{eqb-true}
use Rattle.std.specs.Option.{option_map_or}
use Rattle.acl_entry.specs.Lists.{KeyMap, entries, fault, IsValid}
use Rattle.acl_entry.specs.declared.entry.Entry.{Entry}
use Rattle.acl_entry.specs.declared.entry.ListFault.{ListFault}
use Rattle.acl_text.specs.declared.fault.Which.{Which}
use Rattle.acl_text.specs.declared.fault.Which.TheVariants.{Access, Default}
use Rattle.acl_text.specs.Results.{◌>>=◌}
use Rattle.acl_edit.specs.Parts.{part, names}
use Rattle.acl_edit.specs.Edits.{checked, checked_default, access_after, default_after}
use Rattle.acl_edit.specs.Changes.{Change}
use Rattle.acl_edit.specs.declared.edit.EditFault.{EditFault}
use Rattle.acl_edit.specs.declared.edit.EditFault.TheVariants.{List as ListIs}

-- a checked list is the one that was checked
pub checked_is : (which : Which) (m acl : KeyMap) → checked which m ≡ Ok acl → acl ≡ m
checked_is which m acl h = by_fault (fault (entries m)) h
  where
    by_fault : (f : Option ListFault) → ◌≡◌ {A = Result KeyMap EditFault} (option_map_or (λ f. Err (ListIs which f)) f (Ok m)) (Ok acl) → acl ≡ m
    by_fault None h = cc
    by_fault (Some f) h = cc

-- a list of which the line names no entry stays
pub access_unnamed : (c : Change) (x : Bool) (m : KeyMap) → names (part c Access) ≡ false → access_after c x m ≡ m
unfolding access_after
access_unnamed c x m h = rw h

pub default_unnamed : (c : Change) (x : Bool) (acl m : KeyMap) → names (part c Default) ≡ false → default_after c x acl m ≡ m
unfolding default_after
default_unnamed c x acl m h = rw h

pub is_empty : (es : List Entry) → eqb (length es) 0 ≡ true → es ≡ []
is_empty [] h = refl
is_empty (e ∷ es) h = let none = eqb-true (length (e ∷ es)) 0 h in absurd (omega arith)

-- a valid list has entries
valid_has : (m : KeyMap) → IsValid m → eqb (length (entries m)) 0 ≡ false
valid_has m valid = by_test (eqb (length (entries m)) 0) refl
  where
    by_test : (b : Bool) → eqb (length (entries m)) 0 ≡ b → b ≡ false
    by_test true e = let gone : fault [] ≡ None = ap fault (sym (is_empty (entries m) e)) ∙ valid in cc
    by_test false e = refl

-- a valid list that is checked is a default list
pub checked_valid : (m : KeyMap) → IsValid m → checked_default m ≡ Ok (Some m)
checked_valid m valid =
    ap (λ b. cond b (Ok None) (checked Default m >>= λ d. Ok (Some d))) (valid_has m valid)
    ∙ ap (λ f. option_map_or (λ f. Err (ListIs Default f)) f (Ok m) >>= λ d. Ok (Some d)) valid
