-- Refusals that are found whatever memory there is are passed on.
use Rattle.std.proofs.Common.{◌≡◌, ℕ, Bool, true, false, Option, Some, None, Result, Ok, Err, if◌then◌else◌, refl, sym, ap, ◌∙◌}
use Rattle.std.specs.Prelude.{IfSome, IfErr}
use Rattle.acl_people.specs.KnownPeople.{KnownPeople}
use Rattle.acl_tree.specs.declared.fault.TreeFault.{TreeFault}
use Rattle.acl_tree.specs.declared.fault.TreeFault.TheVariants.{AlreadyLoaded}
use Rattle.acl_text.specs.Results.{◌>>=◌}
use Rattle.acl_tree.specs.Memberships.{ChangedUser}
use Rattle.acl_tree.specs.Step.{is_nameless, nameless}

abbrev fault_or : {A : Type 0} → TreeFault → Result A TreeFault → TreeFault
fault_or f (Ok x) = f
fault_or f (Err g) = g

same_fault : {A : Type 0} (found : Result A TreeFault) (f g : TreeFault) → found ≡ Err f → found ≡ Err g → f ≡ g
same_fault found f g is also = ap (fault_or f) (sym is ∙ also)

-- the change of a user
abbrev pub of_user : ℕ → KnownPeople → Result ChangedUser TreeFault
of_user user people = Ok (record { user = user; people = people })

-- a load of a text that was loaded already
pub loaded_at_once : {A : Type 0} (b : Bool) (result : Result A TreeFault) → (b ≡ true → result ≡ Err AlreadyLoaded) → IfSome (if b then Some AlreadyLoaded else None) (λ f. result ≡ Err f)
loaded_at_once true result h = h refl
loaded_at_once false result h = tt

module _ {A B : Type 0} (found : Result A TreeFault) (fault : TreeFault) (result : Result B TreeFault) (is : found ≡ Err fault) (passed : result ≡ Err fault) where
  passed_fault : (f : TreeFault) → found ≡ Err f → result ≡ Err f
  passed_fault f h = passed ∙ ap (λ g. Err g) (same_fault found fault f is h)

  -- the fault of a call, if it is such a one
  pub passed_on : (o : Option TreeFault) → IfSome o (λ f. found ≡ Err f) → IfSome o (λ f. result ≡ Err f)
  passed_on None h = tt
  passed_on (Some f) h = passed_fault f h

  -- the fault of a change of a user who was found
  pub change_passed_on : (user : ℕ) (r : Result KnownPeople TreeFault) → IfErr r (λ f. found ≡ Err f) → IfSome (nameless (r >>= of_user user)) (λ f. result ≡ Err f)
  change_passed_on user (Ok people) h = tt
  change_passed_on user (Err f) h = by (is_nameless f) (passed_fault f h)
    where
      by : (b : Bool) → result ≡ Err f → IfSome (if b then Some f else None) (λ g. result ≡ Err g)
      by true e = e
      by false e = tt
