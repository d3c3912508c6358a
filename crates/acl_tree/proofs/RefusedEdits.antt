-- Why edits of files are refused.
use Rattle.std.proofs.Common.{◌≡◌, ◌≤◌, Bool, true, false, cond, ◌||◌, List, [], ◌∷◌, Option, Some, None, Result, Ok, Err, if◌then◌else◌, refl, sym, ap, subst, ◌∙◌, arith}
use Rattle.std.specs.Option.{option_or}
use Rattle.std.specs.Ordering.{is_eq}
use Rattle.std.specs.FinMap.{find}
use Rattle.std.specs.Prelude.{option_map}
use Rattle.acl_names.specs.Paths.{path_cmp, PathOf}
use Rattle.acl_names.proofs.Basics.{none_is_not_some, some_eq}
use Rattle.path_map.proofs.Differences.{Leads, leads_all}
use Rattle.acl_text.specs.declared.record.DumpRecord.{DumpRecord}
use Rattle.acl_text.specs.Results.{◌>>=◌, unless, map_err}
use Rattle.acl_edit.specs.declared.edit.Edit.{Edit}
use Rattle.acl_edit.specs.declared.edit.EditFault.{EditFault}
use Rattle.acl_edit.specs.declared.node.Node.{Node}
use Rattle.acl_tree.specs.declared.edit.FileFault.{FileFault}
use Rattle.acl_tree.specs.declared.edit.FileFault.TheVariants as of_files
use Rattle.acl_tree.specs.declared.fault.TreeFault.{TreeFault}
use Rattle.acl_tree.specs.declared.fault.TreeFault.TheVariants as faults
use Rattle.acl_tree.specs.Files.{Files}
use Rattle.path_map.specs.Entries.{IsInOrder}
use Rattle.acl_tree.specs.Operands.{is_file, files_meant, first_missing}
use Rattle.acl_tree.specs.Edits.{and_others, edit_each, with_edits, file_fault}
use Rattle.acl_tree.specs.Inner.{paths_in}
use Rattle.acl_tree.specs.Restoring.{restore_one, paths_of}
use Rattle.acl_tree.specs.declared.command.Command.{Command}
use Rattle.acl_tree.specs.declared.command.Command.TheVariants as commands
use Rattle.acl_tree.specs.EditCommand.{edit_one}
use Rattle.acl_tree.specs.State.{State, with_tree}
use Rattle.acl_tree.specs.Refusals.{rank, place, place_of, IsNotAfter, IsRefusedForFirst}
use Rattle.acl_tree.specs.Causes.{IsAmong, IsMissing, IsEditRefused}
use Rattle.acl_tree.specs.Step.{Applies, operands}
use Rattle.acl_tree.proofs.Refused.{Decides, decides_err, decides_ok, AreApart, refused_for_first}
use Rattle.acl_tree.proofs.FirstAmong.{first_of, none_among, first_among, one_place, among_later}
use Rattle.acl_tree.proofs.RefusedOperands.{is_first_missing, none_is_missing}

recorded_among : (t : Files) (p : PathOf) (n : Node) → find path_cmp p t ≡ Some n → IsAmong (paths_in t) p
recorded_among [] p n h = absurd (none_is_not_some n h)
recorded_among (e ∷ t) p n h = by (is_eq (path_cmp p e.0)) refl h (λ h. recorded_among t p n h)
  where
    by : (b : Bool) → is_eq (path_cmp p e.0) ≡ b → cond b (Some e.1) (find path_cmp p t) ≡ Some n → (find path_cmp p t ≡ Some n → IsAmong (paths_in t) p) → IsAmong (paths_in (e ∷ t)) p
    by true is h rest = ap (λ b. b || is_file false (paths_in t) p) is
    by false is h rest = among_later e.0 p (paths_in t) (rest h)

-- ---- the first file that is refused

module _ (edit : PathOf → Node → Result Node EditFault) (recursive : Bool) (paths : List PathOf) (t : Files) where
  abbrev fault_of : PathOf → Result Node EditFault → Option FileFault
  fault_of p (Ok n) = None
  fault_of p (Err fault) = Some (of_files.Edit p fault)

  abbrev fault_at : PathOf → Option Node → Option FileFault
  fault_at p None = None
  fault_at p (Some n) = fault_of p (edit p n)

  -- why a file is refused, if it is one of the command
  abbrev pub check : PathOf → Option FileFault
  check p = if is_file recursive paths p then fault_at p (find path_cmp p t) else None

  abbrev pub err_of : {A : Type 0} → Result A FileFault → Option FileFault
  err_of (Ok a) = None
  err_of (Err fault) = Some fault

  pub first_is : (es : Files) → Leads t es → first_of check (paths_in es) ≡ err_of (edit_each edit (files_meant recursive paths es))
  first_is [] h = refl
  first_is (e ∷ es) h = by (is_file recursive paths e.0) (first_is es h.1)
    where
      others : (o : Result Node EditFault) (r : Result Files FileFault) → option_or (fault_of e.0 o) (err_of r) ≡ err_of (and_others e.0 o r)
      others (Err fault) r = refl
      others (Ok n) (Ok es) = refl
      others (Ok n) (Err fault) = refl

      by : (b : Bool) → first_of check (paths_in es) ≡ err_of (edit_each edit (files_meant recursive paths es))
          → option_or (if b then fault_at e.0 (find path_cmp e.0 t) else None) (first_of check (paths_in es))
          ≡ err_of (edit_each edit (cond b (e ∷ files_meant recursive paths es) (files_meant recursive paths es)))
      by false rest = rest
      by true rest = (λ i. option_or (fault_at e.0 (h.0 i)) (rest i)) ∙ others (edit e.0 e.1) (edit_each edit (files_meant recursive paths es))

  -- what a file is refused for
  pub record Refuses (p : PathOf) (f : FileFault) : Type 0 where
    pub fault : EditFault
    pub is : f ≡ of_files.Edit p fault
    pub refused : IsEditRefused edit recursive paths t p fault

  pub refuses : (p : PathOf) (f : FileFault) → check p ≡ Some f → Refuses p f
  refuses p f h = by (is_file recursive paths p) refl (find path_cmp p t) refl h
    where
      edited : (n : Node) → is_file recursive paths p ≡ true → find path_cmp p t ≡ Some n → (o : Result Node EditFault) → edit p n ≡ o → fault_of p o ≡ Some f → Refuses p f
      edited n meant at (Ok m) is h = absurd (none_is_not_some f h)
      edited n meant at (Err fault) is h = record {
        fault = fault;
        is = sym (some_eq _ _ h);
        refused = record { is_file = meant; node = n; recorded = at; refused = is };
      }

      by : (b : Bool) → is_file recursive paths p ≡ b → (o : Option Node) → find path_cmp p t ≡ o → (if b then fault_at p o else None) ≡ Some f → Refuses p f
      by false out o at h = absurd (none_is_not_some f h)
      by true meant None at h = absurd (none_is_not_some f h)
      by true meant (Some n) at h = edited n meant at (edit p n) refl h

  pub fails : (p : PathOf) (fault : EditFault) → IsEditRefused edit recursive paths t p fault → check p ≡ Some (of_files.Edit p fault)
  fails p fault h = (λ i. if h.is_file i then fault_at p (h.recorded i) else None) ∙ ap (λ o. fault_of p o) h.refused

  one_fault : (p q : PathOf) (f g : EditFault) → p ≡ q → IsEditRefused edit recursive paths t p f → IsEditRefused edit recursive paths t q g → faults.Edit p f ≡ faults.Edit q g
  one_fault p q f g same x y =
      let a : check p ≡ Some (of_files.Edit p f) = fails p f x in
      let b : check q ≡ Some (of_files.Edit q g) = fails q g y in
      ap file_fault (some_eq _ _ (sym a ∙ ap check same ∙ b))

-- ---- a command that edits files

module _ (s : State) (c : Command) (edit : PathOf → Node → Result Node EditFault) (recursive : Bool) (paths : List PathOf) where
  -- its faults
  pub record EditsFiles : Type 0 where
    pub missing : (p : PathOf) → IsAmong paths p → IsMissing s.tree.files p → Applies s c (faults.NoSuchFile p)
    pub refused : (p : PathOf) (f : EditFault) → IsEditRefused edit recursive paths s.tree.files p f → Applies s c (faults.Edit p f)
    pub operands : operands c ≡ paths

  abbrev Cases : (TreeFault → Type 0) → Type 0
  Cases Q = ((p : PathOf) → IsAmong paths p → IsMissing s.tree.files p → Q (faults.NoSuchFile p))
      → ((p : PathOf) (f : EditFault) → IsEditRefused edit recursive paths s.tree.files p f → Q (faults.Edit p f)) → (g : TreeFault) → Applies s c g → Q g

  module _ (law : EditsFiles) (cases : (Q : TreeFault → Type 0) → Cases Q) (order : IsInOrder s.tree.files) where
    at_operand : (p q : PathOf) → place p paths ≤ place q paths → place p (operands c) ≤ place q (operands c)
    at_operand p q le = subst (λ ps. place p ps ≤ place q ps) (sym law.operands) le

    decides : (o : Option PathOf) → first_missing paths s.tree.files ≡ o → (r : Result Files FileFault) → edit_each edit (files_meant recursive paths s.tree.files) ≡ r
        → Decides s c (unless (option_map faults.NoSuchFile o) (map_err file_fault (r >>= with_edits s.tree)) >>= with_tree s)
    decides (Some p) is r _ =
        let f = is_first_missing s.tree.files paths p is in
        decides_err s c (faults.NoSuchFile p) (law.missing p f.among f.missing)
        (cases (λ g. IsNotAfter s c (faults.NoSuchFile p) g)
        (λ q among missing. record { by_rank = omega arith; by_place = λ _. at_operand p q (f.first q among missing) })
        (λ q g _. record { by_rank = omega arith; by_place = λ same. absurd (omega arith) }))
    decides None is (Err fault) has =
        let t = s.tree.files in
        let f = first_among (check edit recursive paths t) (paths_in t) fault (first_is edit recursive paths t t (leads_all t order) ∙ ap (λ r. err_of edit recursive paths t r) has) in
        let x = refuses edit recursive paths t f.path fault f.fails in
        subst (λ fault. Decides s c (Err (file_fault fault))) (sym x.is)
        (decides_err s c (faults.Edit f.path x.fault) (law.refused f.path x.fault x.refused)
        (cases (λ g. IsNotAfter s c (faults.Edit f.path x.fault) g)
        (λ q among missing. absurd (none_is_missing t paths is q among missing))
        (λ q g refused. record {
          by_rank = omega arith;
          by_place = λ _. f.first q (of_files.Edit q g) (recorded_among t q refused.node refused.recorded) (fails edit recursive paths t q g refused);
        })))
    decides None is (Ok es) has =
        let t = s.tree.files in
        let all : first_of (check edit recursive paths t) (paths_in t) ≡ None = first_is edit recursive paths t t (leads_all t order) ∙ ap (λ r. err_of edit recursive paths t r) has in
        decides_ok s c _
        (cases (λ g. ⊥) (λ q among missing. none_is_missing t paths is q among missing)
        (λ q g refused. none_is_not_some (of_files.Edit q g)
        (sym (none_among (check edit recursive paths t) (paths_in t) all q (recorded_among t q refused.node refused.recorded)) ∙ fails edit recursive paths t q g refused)))

    apart : AreApart s c
    apart f g fa ga =
        cases (λ f. (g : TreeFault) → Applies s c g → rank f ≡ rank g → place_of s c f ≡ place_of s c g → f ≡ g)
        (λ p among _ g ga. cases (λ g. 9 ≡ rank g → place p (operands c) ≡ place_of s c g → faults.NoSuchFile p ≡ g)
        (λ q also _ _ same. ap (λ p. faults.NoSuchFile p) (one_place paths p q among also (subst (λ ps. place p ps ≡ place q ps) law.operands same)))
        (λ q h _ ranks _. absurd (omega arith))
        g ga)
        (λ p h x g ga. cases (λ g. 11 ≡ rank g → place p (paths_in s.tree.files) ≡ place_of s c g → faults.Edit p h ≡ g)
        (λ q also _ ranks _. absurd (omega arith))
        (λ q k y _ same.
        one_fault edit recursive paths s.tree.files p q h k
        (one_place (paths_in s.tree.files) p q (recorded_among s.tree.files p x.node x.recorded) (recorded_among s.tree.files q y.node y.recorded) same) x y)
        g ga)
        f fa g ga

    abbrev pub Decided : Type 0
    Decided = Decides s c
        (unless (option_map faults.NoSuchFile (first_missing paths s.tree.files))
        (map_err file_fault (edit_each edit (files_meant recursive paths s.tree.files) >>= with_edits s.tree)) >>= with_tree s)

    pub decided : AreApart s c × Decided
    decided = (apart, decides (first_missing paths s.tree.files) refl (edit_each edit (files_meant recursive paths s.tree.files)) refl)

-- ---- setfacl, chacl

module _ (s : State) (paths : List PathOf) (e : Edit) (recursive : Bool) where
  edit_cases : (Q : TreeFault → Type 0) → Cases s (commands.Edit paths e recursive) (edit_one e recursive) recursive paths Q
  edit_cases Q missing refused (faults.NoSuchFile p) h = missing p h.0 h.1
  edit_cases Q missing refused (faults.Edit p f) h = refused p f h
  edit_cases Q missing refused g h = absurd h

  pub edit_refused : IsInOrder s.tree.files → IsRefusedForFirst s (commands.Edit paths e recursive)
  edit_refused order =
      let law : EditsFiles s (commands.Edit paths e recursive) (edit_one e recursive) recursive paths =
      record { missing = λ p among missing. (among, missing); refused = λ p f h. h; operands = refl } in
      let both = decided s (commands.Edit paths e recursive) (edit_one e recursive) recursive paths law edit_cases order in
      refused_for_first s (commands.Edit paths e recursive) both.0 both.1

-- ---- setfacl --restore

module _ (s : State) (records : List DumpRecord) where
  restore_cases : (Q : TreeFault → Type 0) → Cases s (commands.Restore records) (restore_one records) false (paths_of records) Q
  restore_cases Q missing refused (faults.NoSuchFile p) h = missing p h.0 h.1
  restore_cases Q missing refused (faults.Edit p f) h = refused p f h
  restore_cases Q missing refused g h = absurd h

  pub restore_refused : IsInOrder s.tree.files → IsRefusedForFirst s (commands.Restore records)
  restore_refused order =
      let law : EditsFiles s (commands.Restore records) (restore_one records) false (paths_of records) =
      record { missing = λ p among missing. (among, missing); refused = λ p f h. h; operands = refl } in
      let both = decided s (commands.Restore records) (restore_one records) false (paths_of records) law restore_cases order in
      refused_for_first s (commands.Restore records) both.0 both.1
