-- Results whose fault, if there is one, is one of some: how steps after one another keep that.
use Rattle.std.proofs.Common.{◌≡◌, Bool, true, false, if◌then◌else◌, Option, Some, None, option_map, Result, Ok, Err, refl}
use Rattle.std.specs.Prelude.{IfErr, ok_or}
use Rattle.acl_text.specs.Results.{◌>>=◌, map_err, unless}

module _ {F : Type 0} (P : F → Type 0) where
  pub both : {A B : Type 0} (r : Result A F) (next : A → Result B F) → IfErr r P → ((a : A) → IfErr (next a) P) → IfErr (r >>= next) P
  both (Ok a) next h each = each a
  both (Err fault) next h each = h

  pub either : {A : Type 0} (b : Bool) (r s : Result A F) → IfErr r P → IfErr s P → IfErr (if b then r else s) P
  either true r s h g = h
  either false r s h g = g

  pub found : {A : Type 0} (o : Option A) (fault : F) → P fault → IfErr (ok_or o fault) P
  found None fault h = h
  found (Some a) fault h = tt

  pub there : {A B : Type 0} (o : Option A) (fault : F) (next : A → Result B F) → P fault → ((a : A) → IfErr (next a) P) → IfErr (ok_or o fault >>= next) P
  there None fault next h each = h
  there (Some a) fault next h each = each a

  pub checked : {A X : Type 0} (view : X → F) (o : Option X) (r : Result A F) → ((x : X) → P (view x)) → IfErr r P → IfErr (unless (option_map view o) r) P
  checked view None r each h = h
  checked view (Some x) r each h = each x

  pub seen : {A G : Type 0} (view : G → F) (r : Result A G) → ((fault : G) → r ≡ Err fault → P (view fault)) → IfErr (map_err view r) P
  seen view (Ok a) each = tt
  seen view (Err fault) each = each fault refl
