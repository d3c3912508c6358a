-- What is asked of the verdicts on files alone or along their paths, as a part of the state.
use Rattle.std.proofs.Common.{◌≡◌, ℕ, suc, Bool, true, false, cond, List, [], ◌∷◌, map, Option, Some, None, refl, ap, ◌∙◌}
use Rattle.std.specs.Prelude.{option_map, option_and_then, slice_get}
use Rattle.std.specs.FinMap.{find}
use Rattle.acl_entry.specs.Check.{has}
use Rattle.acl_entry.specs.Perms.{Perms}
use Rattle.acl_entry.specs.Person.{Person}
use Rattle.acl_names.specs.Paths.{path_cmp, PathOf}
use Rattle.acl_text.specs.declared.rows.PasswdRow.{PasswdRow}
use Rattle.acl_edit.specs.declared.node.Node.{Node}
use Rattle.acl_people.specs.KnownPeople.{person, persons}
use Rattle.acl_tree.specs.State.{State}
use Rattle.path_classes.specs.Rows.{places_from}
use Rattle.acl_rights.specs.Rows.{Verdict}
use Rattle.acl_rights.specs.Tables.{verdict_at}
use Rattle.acl_rights.specs.Tables as tables
use Rattle.acl_rights.specs.Reach.{reach, reach_at, users_reaching}
use Rattle.acl_rights.proofs.Asked.{got-map}
use Rattle.acl_rights.specs.Verdicts.{granted, can_requests, users_granted}

places-map : {A B : Type 0} (test : B → Bool) (f : A → B) (n : ℕ) (xs : List A) → places_from test n (map f xs) ≡ places_from (λ x. test (f x)) n xs
places-map test f n [] = refl
places-map test f n (x ∷ xs) = λ i. cond (test (f x)) (n ∷ places-map test f (suc n) xs i) (places-map test f (suc n) xs i)

module _ (V : Verdict) (s : State) where
  abbrev us : List PasswdRow
  us = s.people.users

  abbrev as_person : PasswdRow → Person
  as_person = person s.people.groups

  -- ---- of a user and a file

  -- of the user's row as of the person
  one_user : (f : Person → ℕ) (user : ℕ) → option_map f (slice_get (persons s.people) user) ≡ option_map (λ row. f (as_person row)) (slice_get us user)
  one_user f user = ap (option_map f) (got-map as_person us user) ∙ by (slice_get us user)
    where
      by : (o : Option PasswdRow) → option_map f (option_map as_person o) ≡ option_map (λ row. f (as_person row)) o
      by None = refl
      by (Some row) = refl

  pub can_alone : (user : ℕ) (p : PathOf) → verdict_at V s user p ≡ can_requests V false s user p
  can_alone user p = by (find path_cmp p s.tree.files)
    where
      by : (o : Option Node) → option_and_then (λ n. option_map (λ u. V u n.label) (slice_get (persons s.people) user)) o
          ≡ option_and_then (λ n. option_map (λ row. granted V false s row (p, n)) (slice_get us user)) o
      by None = refl
      by (Some n) = one_user (λ u. V u n.label) user

  pub can_along : (user : ℕ) (p : PathOf) → reach_at V s user p ≡ can_requests V true s user p
  can_along user p = by (find path_cmp p s.tree.files)
    where
      by : (o : Option Node) → option_and_then (λ n. option_map (λ u. reach V s.tree.files u (p, n)) (slice_get (persons s.people) user)) o
          ≡ option_and_then (λ n. option_map (λ row. granted V true s row (p, n)) (slice_get us user)) o
      by None = refl
      by (Some n) = one_user (λ u. reach V s.tree.files u (p, n)) user

  -- ---- of a file

  pub who_alone : (p : PathOf) (q : Perms) → tables.users_granted_alone V s p q ≡ users_granted V false s p q
  who_alone p q = by (find path_cmp p s.tree.files)
    where
      by : (o : Option Node) → option_map (λ n. places_from (λ u. has (V u n.label) q) 0 (persons s.people)) o ≡ option_map (λ n. places_from (λ row. has (granted V false s row (p, n)) q) 0 us) o
      by None = refl
      by (Some n) = ap Some (places-map (λ u. has (V u n.label) q) as_person 0 us)

  pub who_along : (p : PathOf) (q : Perms) → users_reaching V s p q ≡ users_granted V true s p q
  who_along p q = by (find path_cmp p s.tree.files)
    where
      by : (o : Option Node) → option_map (λ n. places_from (λ u. has (reach V s.tree.files u (p, n)) q) 0 (persons s.people)) o
          ≡ option_map (λ n. places_from (λ row. has (granted V true s row (p, n)) q) 0 us) o
      by None = refl
      by (Some n) = ap Some (places-map (λ u. has (reach V s.tree.files u (p, n)) q) as_person 0 us)
