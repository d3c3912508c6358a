-- What a line costs.
use Rattle.std.proofs.Common.{◌≡◌, not, Option, Some, None, length-append, ℕ, zero, suc, ◌+◌, ◌*◌, ◌<◌, ◌≤◌, true, cond, List, [], ◌∷◌, length, refl, sym, ap, subst, ◌∙◌, arith}
use Rattle.std.specs.Prelude.{count_by, option_and_then, if◌then◌else◌}
use Rattle.std.specs.Option.{option_map_or}
use Rattle.std.specs.FinMap.{find}
use Rattle.acl_names.specs.Paths.{path_cmp}
use Rattle.acl_names.proofs.Basics.{none_times}
use Rattle.std.proofs.lemmas.List.{length-map}
use Rattle.std.proofs.lemmas.List.Sums.{length-filter}
use Rattle.acl_edit.specs.declared.node.Node.{Node}
use Rattle.acl_people.specs.KnownPeople.{KnownPeople, persons}
use Rattle.acl_tree.specs.Files.{Files, Recorded}
use Rattle.acl_tree.specs.Changed.{same_label, is_changed, changed_between}
use Rattle.acl_tree.proofs.Changes.{label_itself}
use Rattle.acl_tree.specs.Reports.{StagedState}
use Rattle.acl_tree.specs.declared.user_change.UserChange.{UserChange}
use Rattle.acl_tree.specs.declared.user_change.UserChange.TheVariants.{Unchanged, Loaded, Memberships, Added, Removed}
use Rattle.path_map.specs.Entries.{IsInOrder}
use Rattle.path_classes.specs.Rows.{Rows}
use Rattle.acl_rights.specs.Rows.{Verdict}
use Rattle.acl_rights.specs.Kept.{GoesFrom}
use Rattle.acl_rights.proofs.Counted.{few_pass}
use Rattle.path_classes.proofs.Maps.{map_filter, find-filter, same_found, one_more, times_le}
use Rattle.acl_rights.proofs.Goes.{moves, moved_user_in, joins}
use Rattle.acl_rights.specs.Groups.{mentions_one}
use Rattle.acl_rights.specs.Stages.{moves_asked, most_asked}

right_le : (a b c d : ℕ) → d ≡ a + b → b ≡ c → c ≤ d
right_le a b c d e f = omega (arith, e, f)

left_le : (a b c d : ℕ) → d ≡ a + b → a ≡ c → c ≤ d
left_le a b c d e f = omega (arith, e, f)

pub all_users : (known : KnownPeople) → length (persons known) ≡ length known.users
all_users known = length-map known.users _

pub within : (t : StagedState) → length t.changed * length t.state.people.users ≤ most_asked t
within t = left_le (length t.changed * length t.state.people.users) (moves_asked t.user_change t.state.tree.files) _ (most_asked t) refl refl

-- the files that mention a group that the user joined or left
pub moved_cost : (t : StagedState) (at : ℕ) (groups : List ℕ) → t.user_change ≡ Memberships at groups → count_by (mentions_one groups) t.state.tree.files ≤ most_asked t
moved_cost t at groups is =
    right_le (length t.changed * length t.state.people.users) (moves_asked t.user_change t.state.tree.files) _ (most_asked t) refl (ap (λ m. moves_asked m t.state.tree.files) is)

-- ---- a line costs no more than every user at every file

some_times : (n u : ℕ) → 0 < u → n ≤ n * u
some_times zero u h = omega arith
some_times (suc n) u h = omega (arith, one_more n u, some_times n u h)

unchanged_at : (o : Option Node) → option_and_then (λ n. if option_map_or (λ m. not (same_label m.label n.label)) o true then Some n else None) o ≡ None
unchanged_at None = refl
unchanged_at (Some n) = ap (λ b. cond (not b) (Some n) None) (label_itself n.label)

-- what stays changes nothing
pub none_changed : (fs : Files) → IsInOrder fs → changed_between fs fs ≡ []
none_changed fs h = same_found (changed_between fs fs) [] (map_filter (is_changed fs) fs h) refl (λ p. find-filter (is_changed fs) p fs h ∙ unchanged_at (find path_cmp p fs))

module _ (V : Verdict) (rows : Rows) (t : StagedState) (goes : GoesFrom V rows t) (order : IsInOrder t.state.tree.files) where
  few_changed : length t.changed ≤ length t.state.tree.files
  few_changed = subst (λ (es : Files). length es ≤ length t.state.tree.files) (sym goes.reports.changed) (few_pass (is_changed goes.state.tree.files) t.state.tree.files)

  pub nothing_changed : t.state.tree ≡ goes.state.tree → t.changed ≡ []
  nothing_changed same = goes.reports.changed ∙ ap (λ (r : Recorded). changed_between r.files t.state.tree.files) (sym same) ∙ none_changed t.state.tree.files order

  no_change : t.state.tree ≡ goes.state.tree → length t.changed ≡ 0
  no_change same = ap length (nothing_changed same)

  with_user : (n : ℕ) → n ≤ length t.state.tree.files → 0 < length t.state.people.users → length t.changed ≡ 0
      → length t.changed * length t.state.people.users + n ≤ length t.state.tree.files * length t.state.people.users
  with_user n le some none =
      let zero_times : length t.changed * length t.state.people.users ≡ 0 = ap (λ k. k * length t.state.people.users) none ∙ none_times (length t.state.people.users) in
      omega (arith, zero_times, le, some_times (length t.state.tree.files) (length t.state.people.users) some)

  by_move : (m : UserChange) → t.user_change ≡ m → length t.changed * length t.state.people.users + moves_asked m t.state.tree.files ≤ length t.state.tree.files * length t.state.people.users
  by_move Unchanged is = omega (arith, times_le (length t.changed) (length t.state.tree.files) (length t.state.people.users) few_changed)
  by_move Loaded is = omega (arith, times_le (length t.changed) (length t.state.tree.files) (length t.state.people.users) few_changed)
  by_move (Memberships user groups) is =
      let m = moves V rows t goes user groups is in
      let some : 0 < length t.state.people.users = omega (arith, moved_user_in V rows t goes user groups is, all_users t.state.people) in
      with_user (count_by (mentions_one groups) t.state.tree.files)
      (subst (λ n. n ≤ length t.state.tree.files) (length-filter (mentions_one groups) t.state.tree.files) (few_pass (mentions_one groups) t.state.tree.files)) some (no_change m.0)
  by_move Added is =
      let j = joins V rows t goes is in
      let some : 0 < length t.state.people.users = omega (arith, ap length j.1.becomes ∙ length-append (persons goes.state.people) (j.1.next ∷ []), all_users t.state.people) in
      with_user (length t.state.tree.files) (omega arith) some (no_change j.0)
  by_move (Removed user) is = omega (arith, times_le (length t.changed) (length t.state.tree.files) (length t.state.people.users) few_changed)

  pub most_le : most_asked t ≤ length t.state.tree.files * length t.state.people.users
  most_le = by_move t.user_change refl
