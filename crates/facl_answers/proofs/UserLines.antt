-- The lines of users, by their places.
use Rattle.std.proofs.Common.{◌≡◌, ℕ, suc, ◌+◌, ◌++◌, Bool, true, false, cond, List, [], ◌∷◌, filter, Option, Some, None, refl, ap, ◌∙◌, arith}
use Rattle.std.specs.Prelude.{option_map, slice_get}
use Rattle.std.specs.List.{flat_map}
use Rattle.std.specs.Option.{option_map_or}
use Rattle.std.specs.FinMap.{find}
use Rattle.acl_entry.specs.Check.{has}
use Rattle.acl_entry.specs.Perms.{Perms}
use Rattle.acl_names.specs.Paths.{path_cmp, PathOf}
use Rattle.acl_edit.specs.declared.node.Node.{Node}
use Rattle.acl_tree.specs.State.{State}
use Rattle.path_classes.specs.Rows.{places_from}
use Rattle.acl_rights.specs.Rows.{Verdict}
use Rattle.facl_answers.specs.Answers.{user_line, who_text}
use Rattle.acl_rights.specs.Verdicts.{granted, users_granted}
use Rattle.facl_answers.specs.Inner.{line_at}

-- the lines of those that pass a test, by their places, the first place being n
module _ {A : Type 0} (test : A → Bool) (line_of : A → List ℕ) (look : ℕ → List ℕ) where
  lines_of_places : (n : ℕ) (rows : List A) → ((i : ℕ) → look (n + i) ≡ option_map_or line_of (slice_get rows i) []) → flat_map look (places_from test n rows) ≡ flat_map line_of (filter test rows)
  lines_of_places n [] h = refl
  lines_of_places n (row ∷ rows) h =
      let same : n ≡ n + 0 = omega arith in
      by (test row) (ap look same ∙ h 0) (lines_of_places (suc n) rows (λ i. let on : suc n + i ≡ n + suc i = omega arith in ap look on ∙ h (suc i)))
    where
      by : (b : Bool) → look n ≡ line_of row → flat_map look (places_from test (suc n) rows) ≡ flat_map line_of (filter test rows)
          → flat_map look (cond b (n ∷ places_from test (suc n) rows) (places_from test (suc n) rows)) ≡ flat_map line_of (cond b (row ∷ filter test rows) (filter test rows))
      by true here more = λ i. here i ++ more i
      by false here more = more

module _ (V : Verdict) (along : Bool) (s : State) (p : PathOf) (q : Perms) where
  -- the lines of the users who are granted the request
  pub who_lines : (found : Option (List ℕ)) → found ≡ users_granted V along s p q → option_map (flat_map (line_at s.people)) found ≡ who_text V along s q p
  who_lines found is = ap (option_map (flat_map (line_at s.people))) is ∙ by (find path_cmp p s.tree.files)
    where
      by : (o : Option Node) → option_map (flat_map (line_at s.people)) (option_map (λ n. places_from (λ row. has (granted V along s row (p, n)) q) 0 s.people.users) o)
          ≡ option_map (λ n. flat_map user_line (filter (λ row. has (granted V along s row (p, n)) q) s.people.users)) o
      by None = refl
      by (Some n) = ap Some
          (lines_of_places (λ row. has (granted V along s row (p, n)) q) user_line (line_at s.people) 0 s.people.users (λ i. let same : 0 + i ≡ i = omega arith in ap (line_at s.people) same))
