-- What a staged state reports of its changes.
use Rattle.std.proofs.Common.{◌≡◌, ◌≢◌, ℕ, List, [], ◌∷◌, false, refl, sym, ap, subst, ◌∙◌}
use Rattle.std.specs.List.{AllByRecursion}
use Rattle.acl_people.specs.KnownPeople.{KnownPeople, persons}
use Rattle.acl_people.specs.Moves.{MovesUser}
use Rattle.acl_tree.specs.declared.user_change.UserChange.{UserChange}
use Rattle.acl_tree.specs.declared.user_change.UserChange.TheVariants.{Unchanged}
use Rattle.acl_tree.specs.Files.{Files, Recorded}
use Rattle.path_map.specs.Entries.{IsInOrder}
use Rattle.acl_tree.specs.Changed.{gone_between}
use Rattle.path_map.specs.Below.{holds_below}
use Rattle.acl_tree.specs.State.{State, state_from}
use Rattle.acl_tree.specs.Reports.{StagedState, UsersMoved, Reports, staged_from}
use Rattle.acl_tree.specs.UserMoves.{move_of}
use Rattle.acl_tree.proofs.Changes.{none_gone}

module _ (old new : State) (change : UserChange) (s : StagedState) (is : s ≡ staged_from old.tree.files new change) where
  -- after files are removed
  pub reported_removal : AllByRecursion (λ e. holds_below new.tree.files e.0 ≡ false) (gone_between old.tree.files new.tree.files) → UsersMoved old new change → Reports old s
  reported_removal apart users = subst (λ s. Reports old s) (sym is) (record { changed = refl; gone = refl; apart = apart; users = users })

  -- after a change of which none is gone
  pub reported_change : gone_between old.tree.files new.tree.files ≡ [] → UsersMoved old new change → Reports old s
  reported_change kept users = reported_removal (subst (λ (es : Files). AllByRecursion (λ e. holds_below new.tree.files e.0 ≡ false) es) (sym kept) tt) users

-- after a command on files
module _ (old new : State) (s : StagedState) (is : s ≡ staged_from old.tree.files new Unchanged) (people : new.people ≡ old.people) where
  pub reported_files : gone_between old.tree.files new.tree.files ≡ [] → Reports old s
  reported_files kept = reported_change old new Unchanged s is kept (ap persons people)

-- after a change of people
pub reported_people : (old new : State) (change : UserChange) (s : StagedState) → s ≡ staged_from old.tree.files new change → IsInOrder old.tree.files
    → new.tree ≡ old.tree → UsersMoved old new change → Reports old s
reported_people old new change s is order same users =
    reported_change old new change s is
    (ap (λ (t : Recorded). gone_between old.tree.files t.files) same ∙ none_gone old.tree.files old.tree.files order (λ p h. h))
    users

-- a user who joined or left no group did not move
pub user_moved : (tree : Recorded) (known next : KnownPeople) (user : ℕ) (ids : List ℕ) → MovesUser (persons known) (persons next) user ids → (ids ≡ [] → persons next ≡ persons known)
    → UsersMoved (state_from tree known) (state_from tree next) (move_of user ids)
user_moved tree known next user [] moves none = none refl
user_moved tree known next user (g ∷ gs) moves none = (refl, moves, λ empty. some g gs empty)
  where
    some : (g : ℕ) (gs : List ℕ) → g ∷ gs ≢ []
    some g gs e = cc
