-- Rows that are those of a state from which a line goes.
use Rattle.std.proofs.Common.{◌≡◌, ℕ, ◌<◌, List, length, map, sym, ap, subst, ◌∙◌}
use Rattle.acl_edit.specs.declared.node.Node.{Node}
use Rattle.acl_names.specs.Paths.{PathOf}
use Rattle.acl_people.specs.KnownPeople.{persons}
use Rattle.acl_people.specs.Moves.{MovesUser, JoinsUser, LeavesUser}
use Rattle.acl_tree.specs.Reports.{StagedState, UsersMoved}
use Rattle.acl_tree.specs.declared.user_change.UserChange.TheVariants.{Memberships, Added, Removed}
use Rattle.path_map.specs.Entries.{IsInOrder}
use Rattle.path_classes.specs.Rows.{Rows}
use Rattle.acl_rights.specs.Rows.{Verdict}
use Rattle.acl_rights.specs.Kept.{GoesFrom}
use Rattle.acl_rights.proofs.Orders.{same_order}
use Rattle.acl_rights.proofs.Lines.{row_paths, moved_in, moved_long}

module _ (V : Verdict) (rows : Rows) (t : StagedState) (goes : GoesFrom V rows t) where
  old_paths : map (λ (r : PathOf × List ℕ). r.0) rows ≡ map (λ (e : PathOf × Node). e.0) goes.state.tree.files
  old_paths = ap (λ (rs : Rows). map (λ (r : PathOf × List ℕ). r.0) rs) goes.rows_are ∙ row_paths V (persons goes.state.people) goes.state.tree.files

  pub old_order : IsInOrder rows → IsInOrder goes.state.tree.files
  old_order = same_order goes.state.tree.files rows (sym old_paths)

  module _ (at : ℕ) (groups : List ℕ) (is : t.user_change ≡ Memberships at groups) where
    pub moves : (t.state.tree ≡ goes.state.tree) × MovesUser (persons goes.state.people) (persons t.state.people) at groups
    moves = let u = subst (λ m. UsersMoved goes.state t.state m) is goes.reports.users in (u.0, u.1)

    pub moved_user_in : at < length (persons t.state.people)
    moved_user_in = subst (λ n. at < n) (sym (moved_long V (persons goes.state.people) (persons t.state.people) at groups moves.1))
        (moved_in V (persons goes.state.people) (persons t.state.people) at groups moves.1)

  module _ (is : t.user_change ≡ Added) where
    pub joins : (t.state.tree ≡ goes.state.tree) × JoinsUser (persons goes.state.people) (persons t.state.people)
    joins = subst (λ m. UsersMoved goes.state t.state m) is goes.reports.users

  module _ (at : ℕ) (is : t.user_change ≡ Removed at) where
    pub leaves : (t.state.tree ≡ goes.state.tree) × LeavesUser (persons goes.state.people) (persons t.state.people) at
    leaves = subst (λ m. UsersMoved goes.state t.state m) is goes.reports.users
