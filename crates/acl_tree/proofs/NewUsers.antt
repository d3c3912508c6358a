-- A user that is added and removed again.
use Rattle.std.proofs.Common.{◌≡◌, ℕ, Bool, true, false, not, ◌&&◌, eqb, nat_le, length, List, [], ◌∷◌, Some, None, Result, Ok, Err, if◌then◌else◌, refl, sym, ap, ◌∙◌}
use Rattle.std.specs.Prelude.{position, option_and_then}
use Rattle.std.specs.Option.{option_or, ok_or}
use Rattle.std.specs.List.{list_any}
use Rattle.std.proofs.lemmas.List.{map-append, length-map}
use Rattle.std.proofs.lemmas.Slice.Eq.{bytes_eq-Decides}
use Rattle.acl_names.proofs.Basics.{err_is_not_ok, is_none}
use Rattle.acl_text.specs.Ids.{is_number, id_of}
use Rattle.acl_text.specs.declared.rows.PasswdRow.{PasswdRow}
use Rattle.acl_people.specs.Changes.{gid_of, with_user}
use Rattle.acl_people.specs.Entries.{user_entry}
use Rattle.acl_people.specs.KnownPeople.{KnownPeople, users_of, names_user}
use Rattle.acl_people.specs.NameTables.{Named, is_name, is_id, has_name, has_id}
use Rattle.acl_text.specs.UserNames.{cuts_row, is_user_name}
use Rattle.acl_text.specs.Results.{◌>>=◌}
use Rattle.acl_people.proofs.Places.{position-push}
use Rattle.acl_people.proofs.Undone.{user_again}
use Rattle.acl_tree.specs.declared.command.Command.TheVariants.{Useradd, Userdel}
use Rattle.acl_tree.specs.declared.command.NewUser.{NewUser}
use Rattle.acl_tree.specs.declared.fault.TreeFault.{TreeFault}
use Rattle.acl_tree.specs.declared.fault.TreeFault.TheVariants.{UserExists, UidExists, TooManyUsers, NoSuchUser}
use Rattle.acl_tree.specs.Useradd.{add_to}
use Rattle.acl_tree.specs.Userdel.{remove_at}
use Rattle.acl_tree.specs.Laws.{with_users_loaded}
use Rattle.acl_tree.specs.Memberships.{user_at, group_at}
use Rattle.acl_tree.specs.State.{State, with_change}
use Rattle.acl_tree.specs.Step.{step}

not_number : (a b c : Bool) → (not a && not b && not c) ≡ true → b ≡ false
not_number true b c h = cc
not_number false true c h = cc
not_number false false c h = refl

abbrev state_or : State → Result State TreeFault → State
state_or s (Ok t) = t
state_or s (Err fault) = s

module _ (new : NewUser) (old made : State) (allowed : is_user_name new.name ≡ true) (unnamed : list_any (names_user new.name) old.people.groups ≡ false) where
  -- the name is a word for the new user
  found : (group : ℕ) → has_name new.name (users_of old.people) ≡ false → user_at (with_user new.name new.uid group old.people) new.name ≡ Ok (length old.people.users)
  found group fresh =
      let all : List Named = users_of (with_user new.name new.uid group old.people) in
      let r : PasswdRow = record { name = new.name; uid = new.uid; gid = gid_of group old.people } in
      let number = not_number (eqb (length new.name) 0) (is_number new.name) (list_any cuts_row new.name) allowed in
      let none : position (is_name new.name) (users_of old.people) ≡ None = is_none (position (is_name new.name) (users_of old.people)) fresh in
      let same : is_name new.name (user_entry r) ≡ true = (bytes_eq-Decides new.name new.name).1 refl in
      let many : length (users_of old.people) ≡ length old.people.users = length-map old.people.users user_entry in
      ap (λ b. ok_or (if b then option_and_then (λ id. position (is_id id) all) (id_of new.name) else position (is_name new.name) all) (NoSuchUser new.name)) number
      ∙ ap (λ es. ok_or (position (is_name new.name) es) (NoSuchUser new.name)) (map-append user_entry old.people.users (r ∷ []))
      ∙ ap (λ o. ok_or o (NoSuchUser new.name)) (position-push (is_name new.name) (users_of old.people) (user_entry r))
      ∙ (λ i. ok_or (option_or (none i) (if same i then Some (many i) else None)) (NoSuchUser new.name))

  removed : (group : ℕ) → has_name new.name (users_of old.people) ≡ false
      → step (record old { people = with_user new.name new.uid group old.people }) (Userdel new.name) ≡ Ok (with_users_loaded old)
  removed group fresh =
      let known : KnownPeople = with_user new.name new.uid group old.people in
      let again = user_again new.name new.uid group old.people unnamed in
      ap (λ o. (o >>= remove_at known) >>= with_change (record old { people = known })) (found group fresh)
      ∙ (λ i.
      let people : KnownPeople = record { users = again.0 i; groups = again.1 i; passwd_loaded = true; group_loaded = old.people.group_loaded } in
      let s : State = record { tree = old.tree; people = people } in
      Ok s)

  pub user_removed : step old (Useradd new) ≡ Ok made → step made (Userdel new.name) ≡ Ok (with_users_loaded old)
  user_removed h = by (has_name new.name (users_of old.people)) refl (has_id new.uid (users_of old.people)) (group_at old.people new.group) h
    where
      at : (group : ℕ) → has_name new.name (users_of old.people) ≡ false → (d : Bool)
          → ((if d then Err TooManyUsers
          else Ok (record { user = length old.people.users; people = with_user new.name new.uid group old.people })) >>= with_change old) ≡ Ok made
          → step made (Userdel new.name) ≡ Ok (with_users_loaded old)
      at group fresh true h = absurd (err_is_not_ok _ _ h)
      at group fresh false h = ap (λ s. step s (Userdel new.name)) (sym (ap (λ r. state_or old r) h)) ∙ removed group fresh

      by : (b : Bool) → has_name new.name (users_of old.people) ≡ b → (c : Bool) (g : Result ℕ TreeFault)
          → ((if b then Err (UserExists new.name) else (if c then Err (UidExists new.uid) else (g >>= add_to new old.people))) >>= with_change old) ≡ Ok made
          → step made (Userdel new.name) ≡ Ok (with_users_loaded old)
      by true is c g h = absurd (err_is_not_ok _ _ h)
      by false is true g h = absurd (err_is_not_ok _ _ h)
      by false is false (Err fault) h = absurd (err_is_not_ok _ _ h)
      by false is false (Ok group) h = at group is (nat_le 65536 (length old.people.users)) h

  pub user_removed_where_loaded : old.people.passwd_loaded ≡ true → step old (Useradd new) ≡ Ok made → step made (Userdel new.name) ≡ Ok old
  user_removed_where_loaded loaded h =
      user_removed h
      ∙ (λ i.
      let people : KnownPeople = record old.people { passwd_loaded = sym loaded i } in
      let s : State = record old { people = people } in
      Ok s)
