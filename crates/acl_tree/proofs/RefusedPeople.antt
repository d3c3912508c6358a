-- Why commands on users and groups are refused.
use Rattle.std.proofs.Common.{◌≡◌, ◌≤◌, ℕ, Bool, true, false, List, length, Option, Some, None, Result, Ok, Err, if◌then◌else◌, nat_le, refl, sym, subst, ◌∙◌, true≢false, arith}
use Rattle.std.specs.Prelude.{◌==◌}
use Rattle.std.proofs.lemmas.Bool.{leb-true, le-leb}
use Rattle.std.specs.Option.{ok_or}
use Rattle.acl_names.proofs.Basics.{some_is_not_none, not_both}
use Rattle.acl_text.specs.Rows.{most_rows}
use Rattle.acl_text.specs.Results.{◌>>=◌}
use Rattle.acl_tree.specs.declared.fault.TreeFault.{TreeFault}
use Rattle.acl_tree.specs.declared.fault.TreeFault.TheVariants.{NoSuchUser, NoSuchGroup, NotMember, UserExists, UidExists, TooManyUsers}
use Rattle.acl_people.specs.Changes.{is_member, without_member, with_primary_group, with_user}
use Rattle.acl_people.specs.KnownPeople.{users_of, groups_of}
use Rattle.acl_people.specs.NameTables.{place_of_word, has_name, has_id}
use Rattle.acl_tree.specs.declared.command.Command.{Command}
use Rattle.acl_tree.specs.declared.command.Command.TheVariants.{Gpasswd, Usermod, Useradd, Userdel}
use Rattle.acl_tree.specs.declared.command.Membership.{Membership}
use Rattle.acl_tree.specs.declared.command.Membership.TheVariants.{Add, Remove}
use Rattle.acl_tree.specs.declared.command.NewUser.{NewUser}
use Rattle.acl_tree.specs.Useradd.{add_to}
use Rattle.acl_tree.specs.Userdel.{remove_at}
use Rattle.acl_tree.specs.Memberships.{ChangedUser}
use Rattle.acl_tree.specs.Gpasswd.{membership_changed, MeanNoMember}
use Rattle.acl_tree.specs.State.{State, with_change}
use Rattle.acl_tree.specs.Refusals.{rank, IsNotAfter, IsRefusedForFirst}
use Rattle.acl_tree.specs.Causes.{MeansNoUser, MeansNoGroup}
use Rattle.acl_tree.specs.Step.{Applies}
use Rattle.acl_tree.proofs.AtOnce.{of_user}
use Rattle.acl_tree.proofs.Refused.{Decides, decides_err, decides_ok, refused_for_first, ranked, apart_by}

add_is_not_remove : Add ≡ Remove → ⊥
add_is_not_remove h = cc

-- there is room
not_full : (a b : ℕ) → nat_le a b ≡ false → a ≤ b → ⊥
not_full a b h le = true≢false (sym (le-leb a b le) ∙ h)

module _ (s : State) where
  -- ---- userdel

  module _ (user : List ℕ) where
    abbrev deletes : Command
    deletes = Userdel user

    userdel_cases : (Q : TreeFault → Type 0) → (MeansNoUser s.people user → Q (NoSuchUser user)) → (g : TreeFault) → Applies s (Userdel user) g → Q g
    userdel_cases Q none (NoSuchUser word) h = subst (λ w. Q (NoSuchUser w)) (sym h.0) (none h.1)
    userdel_cases Q none g h = absurd h

    userdel_decides : (o : Option ℕ) → place_of_word user (users_of s.people) ≡ o → Decides s deletes ((ok_or o (NoSuchUser user) >>= remove_at s.people) >>= with_change s)
    userdel_decides None is = decides_err s deletes (NoSuchUser user) (refl, is) (userdel_cases (λ g. IsNotAfter s deletes (NoSuchUser user) g) (λ h. ranked s deletes _ _ refl (omega arith)))
    userdel_decides (Some at) is = decides_ok s deletes _ (userdel_cases (λ g. ⊥) (λ h. some_is_not_none _ at is h))

    pub userdel_refused : IsRefusedForFirst s (Userdel user)
    userdel_refused =
        refused_for_first s deletes (apart_by s deletes (λ _. NoSuchUser user) (userdel_cases (λ g. g ≡ NoSuchUser user) (λ _. refl)))
        (userdel_decides (place_of_word user (users_of s.people)) refl)

  -- ---- usermod

  module _ (user group : List ℕ) where
    abbrev moves : Command
    moves = Usermod user group

    usermod_cases : (Q : TreeFault → Type 0) → (MeansNoUser s.people user → Q (NoSuchUser user)) → (MeansNoGroup s.people group → Q (NoSuchGroup group))
        → (g : TreeFault) → Applies s (Usermod user group) g → Q g
    usermod_cases Q no_user no_group (NoSuchUser word) h = subst (λ w. Q (NoSuchUser w)) (sym h.0) (no_user h.1)
    usermod_cases Q no_user no_group (NoSuchGroup word) h = subst (λ w. Q (NoSuchGroup w)) (sym h.0) (no_group h.1)
    usermod_cases Q no_user no_group g h = absurd h

    usermod_decides : (u g : Option ℕ) → place_of_word user (users_of s.people) ≡ u → place_of_word group (groups_of s.people) ≡ g
        → Decides s moves ((ok_or u (NoSuchUser user) >>= λ u. ok_or g (NoSuchGroup group) >>= λ g. of_user u (with_primary_group u g s.people)) >>= with_change s)
    usermod_decides None g no_user is =
        decides_err s moves (NoSuchUser user) (refl, no_user) (usermod_cases (λ g. IsNotAfter s moves (NoSuchUser user) g)
        (λ h. ranked s moves _ _ refl (omega arith)) (λ h. ranked s moves _ _ refl (omega arith)))
    usermod_decides (Some u) None user_is no_group =
        decides_err s moves (NoSuchGroup group) (refl, no_group) (usermod_cases (λ g. IsNotAfter s moves (NoSuchGroup group) g)
        (λ h. absurd (some_is_not_none _ u user_is h)) (λ h. ranked s moves _ _ refl (omega arith)))
    usermod_decides (Some u) (Some g) user_is group_is =
        decides_ok s moves _ (usermod_cases (λ g. ⊥) (λ h. some_is_not_none _ u user_is h) (λ h. some_is_not_none _ g group_is h))

    pub usermod_refused : IsRefusedForFirst s (Usermod user group)
    usermod_refused =
        refused_for_first s moves
        (apart_by s moves (λ r. if r == 2 then NoSuchUser user else NoSuchGroup group) (usermod_cases (λ g. g ≡ (if rank g == 2 then NoSuchUser user else NoSuchGroup group)) (λ _. refl) (λ _. refl)))
        (usermod_decides (place_of_word user (users_of s.people)) (place_of_word group (groups_of s.people)) refl refl)

  -- ---- gpasswd

  -- a row names a user, and does not
  not_named : (user group : List ℕ) (u g : ℕ) → place_of_word user (users_of s.people) ≡ Some u → place_of_word group (groups_of s.people) ≡ Some g
      → is_member u g s.people ≡ true → MeanNoMember s.people user group → ⊥
  not_named user group u g user_is group_is named h = let a = h.means_user in let b = h.means_group in let d = h.unnamed in cc

  module _ (user group : List ℕ) where
    abbrev changes : Membership → Command
    changes change = Gpasswd user group change

    gpasswd_cases : (change : Membership) (Q : TreeFault → Type 0) → (MeansNoUser s.people user → Q (NoSuchUser user)) → (MeansNoGroup s.people group → Q (NoSuchGroup group))
        → (change ≡ Remove → MeanNoMember s.people user group → Q NotMember) → (g : TreeFault) → Applies s (Gpasswd user group change) g → Q g
    gpasswd_cases change Q no_user no_group no_member (NoSuchUser word) h = subst (λ w. Q (NoSuchUser w)) (sym h.0) (no_user h.1)
    gpasswd_cases change Q no_user no_group no_member (NoSuchGroup word) h = subst (λ w. Q (NoSuchGroup w)) (sym h.0) (no_group h.1)
    gpasswd_cases change Q no_user no_group no_member NotMember h = no_member h.0 h.1
    gpasswd_cases change Q no_user no_group no_member g h = absurd h

    abbrev of_rank : ℕ → TreeFault
    of_rank r = if r == 2 then NoSuchUser user else (if r == 5 then NoSuchGroup group else NotMember)

    -- of a user and a group that are found
    member_decides : (change : Membership) (u g : ℕ) → place_of_word user (users_of s.people) ≡ Some u → place_of_word group (groups_of s.people) ≡ Some g
        → Decides s (changes change) (membership_changed u g change s.people >>= of_user u >>= with_change s)
    member_decides Add u g user_is group_is =
        decides_ok s (changes Add) _ (gpasswd_cases Add (λ g. ⊥) (λ h. some_is_not_none _ u user_is h) (λ h. some_is_not_none _ g group_is h) (λ h _. add_is_not_remove h))
    member_decides Remove u g user_is group_is = by (is_member u g s.people) refl
      where
        by : (b : Bool) → is_member u g s.people ≡ b → Decides s (changes Remove) ((if b then Ok (without_member u g s.people) else Err NotMember) >>= of_user u >>= with_change s)
        by true named =
            decides_ok s (changes Remove) _
            (gpasswd_cases Remove (λ g. ⊥) (λ h. some_is_not_none _ u user_is h) (λ h. some_is_not_none _ g group_is h) (λ _ h. not_named user group u g user_is group_is named h))
        by false unnamed =
            decides_err s (changes Remove) NotMember
            (refl, record { user_place = u; group_place = g; means_user = user_is; means_group = group_is; unnamed = unnamed })
            (gpasswd_cases Remove (λ g. IsNotAfter s (changes Remove) NotMember g)
            (λ h. absurd (some_is_not_none _ u user_is h)) (λ h. absurd (some_is_not_none _ g group_is h)) (λ _ h. ranked s (changes Remove) _ _ refl (omega arith)))

    gpasswd_decides : (change : Membership) (u g : Option ℕ) → place_of_word user (users_of s.people) ≡ u → place_of_word group (groups_of s.people) ≡ g
        → Decides s (changes change) ((ok_or u (NoSuchUser user) >>= λ u. ok_or g (NoSuchGroup group) >>= λ g. membership_changed u g change s.people >>= of_user u) >>= with_change s)
    gpasswd_decides change None g no_user is =
        decides_err s (changes change) (NoSuchUser user) (refl, no_user) (gpasswd_cases change (λ g. IsNotAfter s (changes change) (NoSuchUser user) g)
        (λ h. ranked s (changes change) _ _ refl (omega arith)) (λ h. ranked s (changes change) _ _ refl (omega arith)) (λ _ h. ranked s (changes change) _ _ refl (omega arith)))
    gpasswd_decides change (Some u) None user_is no_group =
        decides_err s (changes change) (NoSuchGroup group) (refl, no_group) (gpasswd_cases change (λ g. IsNotAfter s (changes change) (NoSuchGroup group) g)
        (λ h. absurd (some_is_not_none _ u user_is h)) (λ h. ranked s (changes change) _ _ refl (omega arith)) (λ _ h. ranked s (changes change) _ _ refl (omega arith)))
    gpasswd_decides change (Some u) (Some g) user_is group_is = member_decides change u g user_is group_is

    pub gpasswd_refused : (change : Membership) → IsRefusedForFirst s (Gpasswd user group change)
    gpasswd_refused change =
        refused_for_first s (changes change)
        (apart_by s (changes change) of_rank (gpasswd_cases change (λ g. g ≡ of_rank (rank g)) (λ _. refl) (λ _. refl) (λ _ _. refl)))
        (gpasswd_decides change (place_of_word user (users_of s.people)) (place_of_word group (groups_of s.people)) refl refl)

  -- ---- useradd

  module _ (new : NewUser) where
    abbrev adds : Command
    adds = Useradd new

    useradd_cases : (Q : TreeFault → Type 0) → (has_name new.name (users_of s.people) ≡ true → Q (UserExists new.name)) → (has_id new.uid (users_of s.people) ≡ true → Q (UidExists new.uid))
        → (MeansNoGroup s.people new.group → Q (NoSuchGroup new.group)) → (most_rows ≤ length s.people.users → Q TooManyUsers) → (g : TreeFault) → Applies s (Useradd new) g → Q g
    useradd_cases Q named numbered no_group many (UserExists name) h = subst (λ w. Q (UserExists w)) (sym h.0) (named h.1)
    useradd_cases Q named numbered no_group many (UidExists id) h = subst (λ n. Q (UidExists n)) (sym h.0) (numbered h.1)
    useradd_cases Q named numbered no_group many (NoSuchGroup word) h = subst (λ w. Q (NoSuchGroup w)) (sym h.0) (no_group h.1)
    useradd_cases Q named numbered no_group many TooManyUsers h = many h
    useradd_cases Q named numbered no_group many g h = absurd h

    abbrev added_of_rank : ℕ → TreeFault
    added_of_rank r = if r == 3 then UserExists new.name else (if r == 4 then UidExists new.uid else (if r == 5 then NoSuchGroup new.group else TooManyUsers))

    -- what is added to a group, if it is found and there is room
    abbrev added : Option ℕ → Bool → Result ChangedUser TreeFault
    added None d = Err (NoSuchGroup new.group)
    added (Some g) d = if d then Err TooManyUsers else Ok (record { user = length s.people.users; people = with_user new.name new.uid g s.people })

    added_is : (o : Option ℕ) → added o (nat_le most_rows (length s.people.users)) ≡ (ok_or o (NoSuchGroup new.group) >>= add_to new s.people)
    added_is None = refl
    added_is (Some g) = refl

    useradd_decides : (b c : Bool) (o : Option ℕ) (d : Bool) → has_name new.name (users_of s.people) ≡ b → has_id new.uid (users_of s.people) ≡ c
        → place_of_word new.group (groups_of s.people) ≡ o → nat_le most_rows (length s.people.users) ≡ d
        → Decides s adds ((if b then Err (UserExists new.name) else (if c then Err (UidExists new.uid) else added o d)) >>= with_change s)
    useradd_decides true c o d named _ _ _ =
        decides_err s adds (UserExists new.name) (refl, named) (useradd_cases (λ g. IsNotAfter s adds (UserExists new.name) g)
        (λ h. ranked s adds _ _ refl (omega arith)) (λ h. ranked s adds _ _ refl (omega arith)) (λ h. ranked s adds _ _ refl (omega arith)) (λ h. ranked s adds _ _ refl (omega arith)))
    useradd_decides false true o d unnamed numbered _ _ =
        decides_err s adds (UidExists new.uid) (refl, numbered) (useradd_cases (λ g. IsNotAfter s adds (UidExists new.uid) g)
        (λ h. absurd (not_both _ h unnamed)) (λ h. ranked s adds _ _ refl (omega arith)) (λ h. ranked s adds _ _ refl (omega arith)) (λ h. ranked s adds _ _ refl (omega arith)))
    useradd_decides false false None d unnamed free no_group _ =
        decides_err s adds (NoSuchGroup new.group) (refl, no_group) (useradd_cases (λ g. IsNotAfter s adds (NoSuchGroup new.group) g)
        (λ h. absurd (not_both _ h unnamed)) (λ h. absurd (not_both _ h free)) (λ h. ranked s adds _ _ refl (omega arith)) (λ h. ranked s adds _ _ refl (omega arith)))
    useradd_decides false false (Some g) true unnamed free group_is many =
        decides_err s adds TooManyUsers (leb-true _ _ many) (useradd_cases (λ g. IsNotAfter s adds TooManyUsers g)
        (λ h. absurd (not_both _ h unnamed)) (λ h. absurd (not_both _ h free)) (λ h. absurd (some_is_not_none _ g group_is h)) (λ h. ranked s adds _ _ refl (omega arith)))
    useradd_decides false false (Some g) false unnamed free group_is room =
        decides_ok s adds _ (useradd_cases (λ g. ⊥)
        (λ h. not_both _ h unnamed) (λ h. not_both _ h free) (λ h. some_is_not_none _ g group_is h) (λ h. not_full _ _ room h))

    pub useradd_refused : IsRefusedForFirst s (Useradd new)
    useradd_refused =
        let o : Option ℕ = place_of_word new.group (groups_of s.people) in
        let b : Bool = has_name new.name (users_of s.people) in
        let c : Bool = has_id new.uid (users_of s.people) in
        refused_for_first s adds
        (apart_by s adds added_of_rank (useradd_cases (λ g. g ≡ added_of_rank (rank g)) (λ _. refl) (λ _. refl) (λ _. refl) (λ _. refl)))
        (subst (λ r. Decides s adds ((if b then Err (UserExists new.name) else (if c then Err (UidExists new.uid) else r)) >>= with_change s)) (added_is o)
        (useradd_decides b c o (nat_le most_rows (length s.people.users)) refl refl refl refl))
