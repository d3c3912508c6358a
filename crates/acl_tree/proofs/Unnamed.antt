-- What a command does not name stays as it is.
use Rattle.std.proofs.Common.{◌≡◌, ℕ, Bool, true, false, not, cond, nat_lt, length, List, Option, Some, None, Result, Ok, Err, if◌then◌else◌, refl, sym, ap, ◌∙◌}
use Rattle.std.specs.Prelude.{option_map}
use Rattle.std.specs.FinMap.{find, put}
use Rattle.std.specs.FinMap.Entries.{find-put, find-where_key}
use Rattle.acl_names.specs.Paths.{path_cmp, PathOf}
use Rattle.acl_names.proofs.PathOrder.{path_total, exact_paths}
use Rattle.acl_text.specs.declared.rows.PasswdRow.{PasswdRow}
use Rattle.acl_text.specs.Results.{◌>>=◌, unless}
use Rattle.acl_edit.specs.Creation.{inherit}
use Rattle.acl_edit.specs.Nodes as nodes
use Rattle.acl_edit.specs.declared.node.Node.{Node}
use Rattle.acl_people.specs.KnownPeople.{KnownPeople, load_passwd, load_group}
use Rattle.acl_people.specs.declared.fault.LoadFault.{LoadFault}
use Rattle.acl_tree.specs.declared.command.Command.{Command}
use Rattle.acl_tree.specs.declared.command.Command.TheVariants.{Load, Chmod, Edit, Restore, Creat, Rm, Gpasswd, Usermod, Useradd, Userdel}
use Rattle.acl_tree.specs.declared.command.NewFile.{NewFile}
use Rattle.acl_tree.specs.declared.command.Table.TheVariants.{Passwd, Group, Dump}
use Rattle.acl_tree.specs.declared.fault.TreeFault.{TreeFault}
use Rattle.acl_tree.specs.declared.fault.TreeFault.TheVariants.{Exists, TooMany, AlreadyLoaded, NoSuchFile}
use Rattle.acl_tree.specs.Files.{Files, Recorded, max_files}
use Rattle.path_map.specs.Entries.{IsInOrder}
use Rattle.acl_names.specs.Below.{parent}
use Rattle.acl_names.proofs.Basics.{err_is_not_ok}
use Rattle.acl_tree.specs.Creat.{row_of, exists, directory_at, creat_in, creat_by, creat}
use Rattle.acl_tree.specs.EditCommand.{edited_tree}
use Rattle.acl_tree.specs.Useradd.{useradd}
use Rattle.acl_tree.specs.Userdel.{userdel}
use Rattle.acl_tree.specs.Laws.{LeavesUnnamed}
use Rattle.acl_tree.specs.Memberships.{ChangedUser}
use Rattle.acl_tree.specs.Gpasswd.{gpasswd}
use Rattle.acl_tree.specs.Usermod.{usermod}
use Rattle.acl_tree.specs.Operands.{is_file, first_missing}
use Rattle.acl_tree.specs.Restoring.{restored_tree}
use Rattle.acl_tree.specs.Rm.{first_refused, without_files, rm}
use Rattle.acl_tree.specs.State.{State, with_tree, with_change}
use Rattle.acl_tree.specs.Step.{step}
use Rattle.acl_tree.specs.Loads.{with_people}
use Rattle.acl_tree.specs.Chmod.{chmod_all}
use Rattle.acl_tree.proofs.Each.{same, find-edited, edit_each_file, restore_each_file}

true_is_not_false : true ≡ false → ⊥
true_is_not_false h = cc

abbrev pub state_or : State → Result State TreeFault → State
state_or s (Ok t) = t
state_or s (Err fault) = s

abbrev pub tree_or : Recorded → Result Recorded TreeFault → Recorded
tree_or t (Ok u) = u
tree_or t (Err fault) = t

-- ---- commands on the tree alone

-- they leave the people as they were
pub record ChangesTree (s new : State) (r : Result Recorded TreeFault) : Type 0 where
  pub tree : r ≡ Ok new.tree
  pub people : new.people ≡ s.people

pub only_tree : (s new : State) (r : Result Recorded TreeFault) → (r >>= with_tree s) ≡ Ok new → ChangesTree s new r
only_tree s new (Ok t) h = record { tree = ap (λ (r : Result State TreeFault). Ok (state_or s r).tree) h; people = ap (λ r. (state_or s r).people) (sym h) }
only_tree s new (Err fault) h = absurd (err_is_not_ok _ _ h)

tree_after : (s new : State) (r : Result Recorded TreeFault) → (r >>= with_tree s) ≡ Ok new → r ≡ Ok new.tree
tree_after s new r h = (only_tree s new r h).tree

-- ---- commands on the people alone

same_tree : (s new : State) (r : Result KnownPeople LoadFault) → with_people s r ≡ Ok new → new.tree ≡ s.tree
same_tree s new (Ok people) h = ap (λ r. (state_or s r).tree) (sym h)
same_tree s new (Err fault) h = absurd (err_is_not_ok _ _ h)

unless_loaded : (s new : State) (b : Bool) (r : Result KnownPeople LoadFault) → (if b then Err AlreadyLoaded else with_people s r) ≡ Ok new → new.tree ≡ s.tree
unless_loaded s new true r h = absurd (err_is_not_ok _ _ h)
unless_loaded s new false r h = same_tree s new r h

same_tree_by : (s new : State) (r : Result ChangedUser TreeFault) → (r >>= with_change s) ≡ Ok new → new.tree ≡ s.tree
same_tree_by s new (Ok change) h = ap (λ r. (state_or s r).tree) (sym h)
same_tree_by s new (Err fault) h = absurd (err_is_not_ok _ _ h)

-- ---- chmod

module _ (p : PathOf) (s new : State) where
  chmod_stays : (missing : Option PathOf) (recursive : Bool) (paths : List PathOf) (mode : ℕ) → is_file recursive paths p ≡ false
      → unless (option_map NoSuchFile missing) (Ok (record s { tree = chmod_all recursive paths mode s.tree })) ≡ Ok new → find path_cmp p new.tree.files ≡ find path_cmp p s.tree.files
  chmod_stays (Some q) recursive paths mode out h = absurd (err_is_not_ok _ _ h)
  chmod_stays None recursive paths mode out h =
      ap (λ r. find path_cmp p (state_or s r).tree.files) (sym h)
      ∙ find-edited p (is_file recursive paths) (λ _ n. nodes.chmod n mode) s.tree.files
      ∙ ap (λ b. option_map (λ n. if b then nodes.chmod n mode else n) (find path_cmp p s.tree.files)) out
      ∙ same (find path_cmp p s.tree.files)

-- ---- a new file

module _ (new : NewFile) (t made : Recorded) where
  -- the new file is put among those that are there, none of which is at its path or below it
  pub record Puts : Type 0 where
    pub node : Node
    pub kind : node.kind ≡ new.kind
    pub absent : exists new.path t.files ≡ false
    pub is : made ≡ record t { files = put path_cmp new.path node t.files }

  puts_in : (row : PasswdRow) → exists new.path t.files ≡ false → (d : Result Node TreeFault) → (d >>= creat_in new row t) ≡ Ok made → Puts
  puts_in row absent (Err fault) h = absurd (err_is_not_ok _ _ h)
  puts_in row absent (Ok d) h = by (nat_lt (length t.files) max_files) h
    where
      by : (b : Bool) → (if b then Ok (record t { files = put path_cmp new.path (inherit d new.kind new.mode new.umask row.uid row.gid) t.files }) else Err TooMany) ≡ Ok made → Puts
      by true h = record { node = inherit d new.kind new.mode new.umask row.uid row.gid; kind = refl; absent = absent; is = sym (ap (tree_or t) h) }
      by false h = absurd (err_is_not_ok _ _ h)

  pub puts_by : (row : Option PasswdRow) → creat_by new t row ≡ Ok made → Puts
  puts_by None h = absurd (err_is_not_ok _ _ h)
  puts_by (Some row) h = by (exists new.path t.files) refl h
    where
      by : (b : Bool) → exists new.path t.files ≡ b → (if b then Err (Exists new.path) else (directory_at (parent new.path) t.files >>= creat_in new row t)) ≡ Ok made → Puts
      by true is h = absurd (err_is_not_ok _ _ h)
      by false is h = puts_in row is (directory_at (parent new.path) t.files) h

-- ---- rm

pub not_removed : (p : PathOf) (recursive : Bool) (paths : List PathOf) (t : Files) → is_file recursive paths p ≡ false → find path_cmp p (without_files recursive paths t) ≡ find path_cmp p t
not_removed p recursive paths t out =
    find-where_key path_cmp (λ q. not (is_file recursive paths q)) p (λ q tied. ap (λ q. not (is_file recursive paths q)) (sym (exact_paths p q tied))) t
    ∙ ap (λ b. cond (not b) (find path_cmp p t) None) out

removed : (missing : Option TreeFault) (t u : Recorded) → unless missing (Ok t) ≡ Ok u → u ≡ t
removed None t u h = sym (ap (tree_or t) h)
removed (Some fault) t u h = absurd (err_is_not_ok _ _ h)

-- ---- every command

pub unnamed_stays : (command : Command) (old new : State) → IsInOrder old.tree.files → step old command ≡ Ok new → LeavesUnnamed command old new
unnamed_stays (Load Passwd bytes) old new order h p out = ap (λ t. find path_cmp p t.files) (unless_loaded old new old.tree.loaded (load_passwd old.people bytes.now) h)
unnamed_stays (Load Group bytes) old new order h p out = ap (λ t. find path_cmp p t.files) (unless_loaded old new old.tree.loaded (load_group old.people bytes.now) h)
unnamed_stays (Load Dump bytes) old new order h p out = absurd (true_is_not_false out)
unnamed_stays (Chmod paths mode recursive) old new order h p out = chmod_stays p old new (first_missing paths old.tree.files) recursive paths mode out h
unnamed_stays (Edit paths e recursive) old new order h p out = (edit_each_file recursive paths e old.tree new.tree order (tree_after old new (edited_tree recursive paths e old.tree) h)).others p out
unnamed_stays (Restore records) old new order h p out = (restore_each_file records old.tree new.tree order (tree_after old new (restored_tree records old.tree) h)).others p out
unnamed_stays (Creat file) old new order h p out =
    let puts = puts_by file old.tree new.tree (row_of old.people file.user) (tree_after old new (creat file old.people old.tree) h) in
    ap (λ t. find path_cmp p t.files) puts.is
    ∙ find-put path_cmp path_total p file.path puts.node old.tree.files
    ∙ ap (λ b. cond b (Some puts.node) (find path_cmp p old.tree.files)) out
unnamed_stays (Rm paths recursive) old new order h p out =
    let t : Recorded = record old.tree { files = without_files recursive paths old.tree.files } in
    ap (λ t. find path_cmp p t.files) (removed (first_refused recursive paths old.tree.files) t new.tree (tree_after old new (rm recursive paths old.tree) h))
    ∙ not_removed p recursive paths old.tree.files out
unnamed_stays (Gpasswd user group change) old new order h p out = ap (λ t. find path_cmp p t.files) (same_tree_by old new (gpasswd user group change old.people) h)
unnamed_stays (Usermod user group) old new order h p out = ap (λ t. find path_cmp p t.files) (same_tree_by old new (usermod user group old.people) h)
unnamed_stays (Useradd user) old new order h p out = ap (λ t. find path_cmp p t.files) (same_tree_by old new (useradd user old.people) h)
unnamed_stays (Userdel user) old new order h p out = ap (λ t. find path_cmp p t.files) (same_tree_by old new (userdel user old.people) h)
