-- Operands that are not recorded.
use Rattle.std.proofs.Common.{◌≡◌, ◌≤◌, ℕ, Bool, true, false, List, [], ◌∷◌, Option, Some, None, is_some, if◌then◌else◌, refl, sym, ap, subst, ◌∙◌, arith}
use Rattle.std.specs.Option.{option_or}
use Rattle.std.specs.FinMap.{find}
use Rattle.std.specs.Prelude.{option_map, Ok}
use Rattle.acl_names.specs.Paths.{path_cmp, PathOf}
use Rattle.acl_names.proofs.Basics.{none_is_not_some, some_eq}
use Rattle.acl_edit.specs.declared.node.Node.{Node}
use Rattle.acl_tree.specs.declared.fault.TreeFault.{TreeFault}
use Rattle.acl_tree.specs.declared.fault.TreeFault.TheVariants.{NoSuchFile}
use Rattle.acl_tree.specs.Files.{Files}
use Rattle.acl_tree.specs.Operands.{first_missing}
use Rattle.acl_tree.specs.declared.command.Command.{Command}
use Rattle.acl_tree.specs.declared.command.Command.TheVariants.{Chmod}
use Rattle.acl_tree.specs.State.{State}
use Rattle.acl_tree.specs.Chmod.{chmod_all}
use Rattle.acl_tree.specs.Refusals.{rank, place, place_of, IsNotAfter, IsRefusedForFirst}
use Rattle.acl_tree.specs.Causes.{IsAmong, IsMissing}
use Rattle.acl_tree.specs.Step.{Applies}
use Rattle.acl_tree.proofs.Refused.{Decides, decides_err, decides_ok, AreApart, refused_for_first}
use Rattle.acl_tree.proofs.FirstAmong.{first_of, none_among, first_among, one_place}
use Rattle.acl_text.specs.Results.{unless}

module _ (t : Files) where
  abbrev check : PathOf → Option PathOf
  check p = if is_some (find path_cmp p t) then None else Some p

  first_is : (paths : List PathOf) → first_of check paths ≡ first_missing paths t
  first_is [] = refl
  first_is (p ∷ paths) = by (is_some (find path_cmp p t)) (first_is paths)
    where
      by : (b : Bool) → first_of check paths ≡ first_missing paths t → option_or (if b then None else Some p) (first_of check paths) ≡ (if b then first_missing paths t else Some p)
      by true h = h
      by false h = refl

  -- one that is not recorded fails the check, and no other one does
  fails : (p : PathOf) → IsMissing t p → check p ≡ Some p
  fails p h = ap (λ o. if is_some o then None else Some p) h

  only_missing : (p q : PathOf) → check p ≡ Some q → (p ≡ q) × IsMissing t p
  only_missing p q h = by (find path_cmp p t) h
    where
      by : (o : Option Node) → (if is_some o then None else Some p) ≡ Some q → (p ≡ q) × (o ≡ None)
      by None h = (some_eq p q h, refl)
      by (Some n) h = absurd (none_is_not_some q h)

  -- the first operand that is not recorded
  pub record IsFirstMissing (paths : List PathOf) (p : PathOf) : Type 0 where
    pub among : IsAmong paths p
    pub missing : IsMissing t p
    pub first : (q : PathOf) → IsAmong paths q → IsMissing t q → place p paths ≤ place q paths

  pub is_first_missing : (paths : List PathOf) (p : PathOf) → first_missing paths t ≡ Some p → IsFirstMissing paths p
  is_first_missing paths p h =
      let f = first_among check paths p (first_is paths ∙ h) in
      let only = only_missing f.path p f.fails in
      record {
        among = subst (IsAmong paths) only.0 f.among;
        missing = subst (IsMissing t) only.0 only.1;
        first = λ q among missing. subst (λ p. place p paths ≤ place q paths) only.0 (f.first q q among (fails q missing));
      }

  pub none_is_missing : (paths : List PathOf) → first_missing paths t ≡ None → (q : PathOf) → IsAmong paths q → IsMissing t q → ⊥
  none_is_missing paths h q among missing = none_is_not_some q (sym (none_among check paths (first_is paths ∙ h) q among) ∙ fails q missing)

-- ---- chmod

module _ (s : State) (paths : List PathOf) (mode : ℕ) (recursive : Bool) where
  abbrev puts : Command
  puts = Chmod paths mode recursive

  chmod_cases : (Q : TreeFault → Type 0) → ((p : PathOf) → IsAmong paths p → IsMissing s.tree.files p → Q (NoSuchFile p)) → (g : TreeFault) → Applies s (Chmod paths mode recursive) g → Q g
  chmod_cases Q missing (NoSuchFile p) h = missing p h.0 h.1
  chmod_cases Q missing g h = absurd h

  decides : (o : Option PathOf) → first_missing paths s.tree.files ≡ o → Decides s puts (unless (option_map NoSuchFile o) (Ok (record s { tree = chmod_all recursive paths mode s.tree })))
  decides None is = decides_ok s puts _ (chmod_cases (λ g. ⊥) (λ q among missing. none_is_missing s.tree.files paths is q among missing))
  decides (Some p) is =
      let f = is_first_missing s.tree.files paths p is in
      decides_err s puts (NoSuchFile p) (f.among, f.missing)
      (chmod_cases (λ g. IsNotAfter s puts (NoSuchFile p) g) (λ q among missing. record { by_rank = omega arith; by_place = λ _. f.first q among missing }))

  apart : AreApart s puts
  apart f g fa ga =
      chmod_cases (λ f. (g : TreeFault) → Applies s puts g → rank f ≡ rank g → place_of s puts f ≡ place_of s puts g → f ≡ g)
      (λ p among _ g ga. chmod_cases (λ g. 9 ≡ rank g → place p paths ≡ place_of s puts g → NoSuchFile p ≡ g)
      (λ q also _ _ same. ap (λ p. NoSuchFile p) (one_place paths p q among also same)) g ga)
      f fa g ga

  pub chmod_refused : IsRefusedForFirst s (Chmod paths mode recursive)
  chmod_refused = refused_for_first s puts apart (decides (first_missing paths s.tree.files) refl)
