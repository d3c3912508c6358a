-- Why loads are refused.
use Rattle.std.proofs.Common.{◌≡◌, ℕ, Bool, true, false, ◌||◌, List, length, Result, Ok, Err, if◌then◌else◌, nat_lt, refl, sym, ap, ◌∙◌, arith}
use Rattle.std.specs.Prelude.{◌==◌}
use Rattle.std.proofs.lemmas.Bool.{ltb-true, lt-ltb}
use Rattle.acl_names.proofs.Basics.{not_both, ok_or_err}
use Rattle.acl_text.specs.declared.record.DumpRecord.{DumpRecord}
use Rattle.acl_text.specs.Rows.{passwd_of, group_of}
use Rattle.acl_text.specs.declared.fault.TextFault.{TextFault}
use Rattle.acl_tree.specs.declared.fault.TreeFault.{TreeFault}
use Rattle.acl_tree.specs.declared.fault.TreeFault.TheVariants.{AlreadyLoaded, Text, TooMany, NoMemory}
use Rattle.acl_tree.specs.Files.{max_files}
use Rattle.acl_tree.specs.Loading.{files_of}
use Rattle.acl_people.specs.KnownPeople.{KnownPeople, loaded}
use Rattle.acl_people.specs.declared.fault.LoadFault.TheVariants as loads
use Rattle.acl_tree.specs.declared.command.Command.{Command}
use Rattle.acl_tree.specs.declared.command.Command.TheVariants.{Load}
use Rattle.acl_tree.specs.declared.command.Table.{Table}
use Rattle.acl_tree.specs.declared.command.Table.TheVariants.{Passwd, Group, Dump}
use Rattle.acl_tree.specs.State.{State}
use Rattle.acl_tree.specs.Loads.{with_people, with_records, dump_records, is_loaded, IsTooLong}
use Rattle.acl_tree.specs.Refusals.{rank, IsNotAfter, IsRefusedForFirst}
use Rattle.acl_tree.specs.Step.{Applies}
use Rattle.acl_tree.proofs.Refused.{Decides, decides_err, decides_ok, AreApart, refused_for_first, ranked, apart_by}

-- ---- a load of a text, which is read as something or has a fault

module _ (s : State) (c : Command) {A : Type 0} (r : Result A TextFault) (again : Bool) (Many : Type 0) where
  pub record IsLoad : Type 0 where
    pub is_again : again ≡ true → Applies s c AlreadyLoaded
    pub has_text : (f : TextFault) → r ≡ Err f → Applies s c (Text f)
    pub has_many : Many → Applies s c TooMany

  abbrev Cases : (TreeFault → Type 0) → Type 0
  Cases Q = (again ≡ true → Q AlreadyLoaded) → ((f : TextFault) → r ≡ Err f → Q (Text f)) → (Many → Q TooMany) → (g : TreeFault) → Applies s c g → Q g

  abbrev text_of : Result A TextFault → TreeFault
  text_of (Ok a) = NoMemory
  text_of (Err f) = Text f

  module _ (law : IsLoad) (cases : (Q : TreeFault → Type 0) → Cases Q) where
    abbrev of_rank : ℕ → TreeFault
    of_rank n = if n == 0 then AlreadyLoaded else (if n == 1 then text_of r else TooMany)

    pub load_apart : AreApart s c
    load_apart = apart_by s c of_rank (cases (λ g. g ≡ of_rank (rank g)) (λ _. refl) (λ f h. sym (ap text_of h)) (λ _. refl))

    pub decides_again : again ≡ true → Decides s c (Err AlreadyLoaded)
    decides_again is =
        decides_err s c AlreadyLoaded (law.is_again is)
        (cases (λ g. IsNotAfter s c AlreadyLoaded g) (λ _. ranked s c _ _ refl (omega arith)) (λ f _. ranked s c _ _ refl (omega arith)) (λ _. ranked s c _ _ refl (omega arith)))

    pub decides_text : again ≡ false → (f : TextFault) → r ≡ Err f → Decides s c (Err (Text f))
    decides_text first f is =
        decides_err s c (Text f) (law.has_text f is)
        (cases (λ g. IsNotAfter s c (Text f) g) (λ h. absurd (not_both again h first)) (λ g _. ranked s c _ _ refl (omega arith)) (λ _. ranked s c _ _ refl (omega arith)))

    pub decides_many : again ≡ false → (a : A) → r ≡ Ok a → Many → Decides s c (Err TooMany)
    decides_many first a is many =
        decides_err s c TooMany (law.has_many many)
        (cases (λ g. IsNotAfter s c TooMany g) (λ h. absurd (not_both again h first)) (λ g h. absurd (ok_or_err r a g is h)) (λ _. ranked s c _ _ refl (omega arith)))

    pub decides_loaded : again ≡ false → (a : A) → r ≡ Ok a → (Many → ⊥) → (t : State) → Decides s c (Ok t)
    decides_loaded first a is few t = decides_ok s c t (cases (λ g. ⊥) (λ h. not_both again h first) (λ g h. ok_or_err r a g is h) few)

    -- of users or groups
    pub decides_people : (put : A → KnownPeople) (few : Many → ⊥) (a b : Bool) → again ≡ (a || b) → (q : Result A TextFault) → r ≡ q
        → Decides s c (if a then Err AlreadyLoaded else with_people s (if b then Err loads.AlreadyLoaded else loaded put q))
    decides_people put few true b is q h = decides_again is
    decides_people put few false true is q h = decides_again is
    decides_people put few false false is (Err f) h = decides_text is f h
    decides_people put few false false is (Ok rows) h = decides_loaded is rows h few _

passwd_is_no_dump : Passwd ≡ Dump → ⊥
passwd_is_no_dump h = cc

group_is_no_dump : Group ≡ Dump → ⊥
group_is_no_dump h = cc

module _ (s : State) where
  -- ---- users

  passwd_cases : (bytes : _) → (Q : TreeFault → Type 0) → Cases s (Load Passwd bytes) (passwd_of bytes.now) (is_loaded s Passwd) ⊥ Q
  passwd_cases bytes Q again text many AlreadyLoaded h = again h
  passwd_cases bytes Q again text many (Text f) h = text f h
  passwd_cases bytes Q again text many TooMany h = absurd (passwd_is_no_dump h.0)
  passwd_cases bytes Q again text many g h = absurd h

  pub passwd_refused : (bytes : _) → IsRefusedForFirst s (Load Passwd bytes)
  passwd_refused bytes =
      let c : Command = Load Passwd bytes in
      let law : IsLoad s c (passwd_of bytes.now) (is_loaded s Passwd) ⊥ = record { is_again = λ h. h; has_text = λ f h. h; has_many = λ h. absurd h } in
      refused_for_first s c
      (load_apart s c (passwd_of bytes.now) (is_loaded s Passwd) ⊥ law (passwd_cases bytes))
      (decides_people s c (passwd_of bytes.now) (is_loaded s Passwd) ⊥ law (passwd_cases bytes)
      (λ rows. record { users = rows; groups = s.people.groups; passwd_loaded = true; group_loaded = s.people.group_loaded })
      (λ h. h) s.tree.loaded s.people.passwd_loaded refl (passwd_of bytes.now) refl)

  -- ---- groups

  group_cases : (bytes : _) → (Q : TreeFault → Type 0) → Cases s (Load Group bytes) (group_of bytes.now) (is_loaded s Group) ⊥ Q
  group_cases bytes Q again text many AlreadyLoaded h = again h
  group_cases bytes Q again text many (Text f) h = text f h
  group_cases bytes Q again text many TooMany h = absurd (group_is_no_dump h.0)
  group_cases bytes Q again text many g h = absurd h

  pub group_refused : (bytes : _) → IsRefusedForFirst s (Load Group bytes)
  group_refused bytes =
      let c : Command = Load Group bytes in
      let law : IsLoad s c (group_of bytes.now) (is_loaded s Group) ⊥ = record { is_again = λ h. h; has_text = λ f h. h; has_many = λ h. absurd h } in
      refused_for_first s c
      (load_apart s c (group_of bytes.now) (is_loaded s Group) ⊥ law (group_cases bytes))
      (decides_people s c (group_of bytes.now) (is_loaded s Group) ⊥ law (group_cases bytes)
      (λ rows. record { users = s.people.users; groups = rows; passwd_loaded = s.people.passwd_loaded; group_loaded = true })
      (λ h. h) s.tree.loaded s.people.group_loaded refl (group_of bytes.now) refl)

  -- ---- files

  dump_cases : (bytes : _) → (Q : TreeFault → Type 0) → Cases s (Load Dump bytes) (dump_records s.people bytes.now) (is_loaded s Dump) (IsTooLong s.people bytes.now) Q
  dump_cases bytes Q again text many AlreadyLoaded h = again h
  dump_cases bytes Q again text many (Text f) h = text f h
  dump_cases bytes Q again text many TooMany h = many h.1
  dump_cases bytes Q again text many g h = absurd h

  abbrev records_or : List DumpRecord → Result (List DumpRecord) TextFault → List DumpRecord
  records_or rs (Ok records) = records
  records_or rs (Err f) = rs

  not_long : (bytes : List ℕ) (records : List DumpRecord) → dump_records s.people bytes ≡ Ok records → nat_lt max_files (length records) ≡ false → IsTooLong s.people bytes → ⊥
  not_long bytes records is few h =
      not_both (nat_lt max_files (length records)) (ap (λ rs. nat_lt max_files (length rs)) (ap (records_or records) (sym is ∙ h.read)) ∙ lt-ltb _ _ h.many) few

  pub dump_refused : (bytes : _) → IsRefusedForFirst s (Load Dump bytes)
  dump_refused bytes =
      refused_for_first s (Load Dump bytes) (load_apart s (Load Dump bytes) (dump_records s.people bytes.now) (is_loaded s Dump) (IsTooLong s.people bytes.now) law (dump_cases bytes))
      (by s.tree.loaded refl (dump_records s.people bytes.now) refl)
    where
      law : IsLoad s (Load Dump bytes) (dump_records s.people bytes.now) (is_loaded s Dump) (IsTooLong s.people bytes.now)
      law = record { is_again = λ h. h; has_text = λ f h. h; has_many = λ h. (refl, h) }

      counted : (records : List DumpRecord) → s.tree.loaded ≡ false → dump_records s.people bytes.now ≡ Ok records → (b : Bool) → nat_lt max_files (length records) ≡ b
          → Decides s (Load Dump bytes) (if b then Err TooMany else Ok (record s { tree = record { files = files_of records; loaded = true } }))
      counted records first is true many =
          decides_many s (Load Dump bytes) (dump_records s.people bytes.now) (is_loaded s Dump) (IsTooLong s.people bytes.now) law (dump_cases bytes) first records is
          (record { records = records; read = is; many = ltb-true _ _ many })
      counted records first is false few =
          decides_loaded s (Load Dump bytes) (dump_records s.people bytes.now) (is_loaded s Dump) (IsTooLong s.people bytes.now) law (dump_cases bytes) first records is
          (not_long bytes.now records is few) _

      by : (a : Bool) → s.tree.loaded ≡ a → (q : Result (List DumpRecord) TextFault) → dump_records s.people bytes.now ≡ q
          → Decides s (Load Dump bytes) (if a then Err AlreadyLoaded else with_records s q)
      by true is q h = decides_again s (Load Dump bytes) (dump_records s.people bytes.now) (is_loaded s Dump) (IsTooLong s.people bytes.now) law (dump_cases bytes) is
      by false is (Err f) h = decides_text s (Load Dump bytes) (dump_records s.people bytes.now) (is_loaded s Dump) (IsTooLong s.people bytes.now) law (dump_cases bytes) is f h
      by false is (Ok records) h = counted records is h (nat_lt max_files (length records)) refl

  pub load_refused : (which : Table) (bytes : _) → IsRefusedForFirst s (Load which bytes)
  load_refused Passwd bytes = passwd_refused bytes
  load_refused Group bytes = group_refused bytes
  load_refused Dump bytes = dump_refused bytes
