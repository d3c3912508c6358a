-- Why an edit is refused.
use Rattle.std.proofs.Common.{◌≡◌, ◌≢◌, ◌↔◌, Bool, true, false, if◌then◌else◌, not, ◌&&◌, ◌||◌, eqb, length, List, [], ◌∷◌, filter, Option, Some, None, is_some, Result, Ok, Err, refl, sym, ap, ◌∙◌}
use Rattle.std.specs.List.{list_any}
use Rattle.std.specs.Option.{option_map_or}
use Rattle.acl_entry.specs.Lists.{KeyMap, entries, fault}
use Rattle.acl_entry.specs.declared.entry.Entry.{Entry}
use Rattle.acl_entry.specs.declared.entry.ListFault.{ListFault}
use Rattle.acl_text.specs.declared.entries.Spec.{Spec}
use Rattle.acl_text.specs.declared.fault.Which.{Which}
use Rattle.acl_text.specs.declared.fault.Which.TheVariants.{Access, Default}
use Rattle.acl_text.specs.Results.{◌>>=◌}
use Rattle.acl_edit.specs.Nodes.{is_directory, with_lists}
use Rattle.acl_edit.specs.Parts.{is_given, is_for}
use Rattle.acl_edit.specs.Edits as steps
use Rattle.acl_edit.specs.Edits.{edit, changed_default, is_misplaced, allowed}
use Rattle.acl_edit.specs.Laws.{OfLine, puts_default, misplaces_default, RefusesLists, RefusesNoList}
use Rattle.acl_edit.specs.Changes.{Change, edit_of, options}
use Rattle.acl_edit.specs.declared.edit.Edit.{Edit}
use Rattle.acl_edit.specs.declared.edit.Edit.TheVariants as edits
use Rattle.acl_edit.specs.declared.edit.EditFault.{EditFault}
use Rattle.acl_edit.specs.declared.edit.EditFault.TheVariants.{DefaultOnFile, NoMemory, List as ListIs}
use Rattle.acl_edit.specs.declared.node.Kind.{Kind}
use Rattle.acl_edit.specs.declared.node.Kind.TheVariants.{Plain, Directory}
use Rattle.acl_edit.specs.declared.node.Node.{Node}
use Rattle.acl_edit.proofs.Kept.{is_empty}
use Rattle.acl_edit.proofs.Left.{access_list, default_list, access_left, default_left}

-- ---- entries that are put

some_given : (p : Spec → Bool) (specs : List Spec) → is_given (filter p specs) ≡ list_any p specs
some_given p [] = refl
some_given p (s ∷ specs) = by_first (p s) (some_given p specs)
  where
    by_first : (b : Bool) → is_given (filter p specs) ≡ list_any p specs → is_given (if b then s ∷ filter p specs else filter p specs) ≡ (b || list_any p specs)
    by_first true h = refl
    by_first false h = h

misplaced_is : (n : Node) (c : Change) (r : Bool) → is_misplaced n c r ≡ misplaces_default n (edit_of c) r
misplaced_is n c r = λ i. not (is_directory n.kind) && not r && (some_given (is_for c.as_default Default) c.set i || some_given (is_for c.as_default Default) c.modify i)

-- ---- a line

module _ (n : Node) (c : Change) (r : Bool) where
  abbrev left : KeyMap
  left = access_list n c

  abbrev left_default : KeyMap
  left_default = default_list n c left

  abbrev none_given : Bool
  none_given = eqb (length (entries left_default)) 0

  -- what becomes of the default list of a file of this kind
  abbrev of_kind : Kind → Bool → Option ListFault → Result (Option KeyMap) EditFault
  of_kind Plain z f = changed_default Plain n c left
  of_kind Directory z f = if z then Ok None else (option_map_or (λ f. Err (ListIs Default f)) f (Ok left_default) >>= λ d. Ok (Some d))

  of_kind_is : (k : Kind) → changed_default k n c left ≡ of_kind k none_given (fault (entries left_default))
  of_kind_is Plain = refl
  of_kind_is Directory = refl

  abbrev outcome : Bool → Option ListFault → Kind → Bool → Option ListFault → Result Node EditFault
  outcome true f k z g = Err DefaultOnFile
  outcome false (Some f) k z g = Err (ListIs Access f)
  outcome false None k z g = of_kind k z g >>= λ d. Ok (with_lists n left d)

  outcome_is : edit n (edit_of c) r ≡ outcome (misplaces_default n (edit_of c) r) (fault (entries left)) n.kind none_given (fault (entries left_default))
  unfolding steps.change
  outcome_is = by_cases (is_misplaced n c r) (fault (entries left)) ∙ ap (λ b. outcome b (fault (entries left)) n.kind none_given (fault (entries left_default))) (misplaced_is n c r)
    where
      by_cases : (b : Bool) (f : Option ListFault)
          → (if b then Err DefaultOnFile else (option_map_or (λ f. Err (ListIs Access f)) f (Ok left) >>= λ acl. changed_default n.kind n c acl >>= λ d. Ok (with_lists n acl d)))
          ≡ outcome b f n.kind none_given (fault (entries left_default))
      by_cases true f = refl
      by_cases false (Some f) = refl
      by_cases false None = ap (λ d. d >>= λ d. Ok (with_lists n left d)) (of_kind_is n.kind)

  -- ---- when each outcome is returned

  only_misplaced : (b : Bool) (f : Option ListFault) (k : Kind) (z : Bool) (g : Option ListFault) → outcome b f k z g ≡ Err DefaultOnFile → b ≡ true
  only_misplaced true f k z g h = refl
  only_misplaced false (Some f) k z g h = cc
  only_misplaced false None Plain z g h = cc
  only_misplaced false None Directory true g h = cc
  only_misplaced false None Directory false (Some g) h = cc
  only_misplaced false None Directory false None h = cc

  only_access : (b : Bool) (f : Option ListFault) (k : Kind) (z : Bool) (g : Option ListFault) (e : ListFault) → outcome b f k z g ≡ Err (ListIs Access e) → (b ≡ false) × (f ≡ Some e)
  only_access true f k z g e h = cc
  only_access false (Some f) k z g e h = (refl, cc)
  only_access false None Plain z g e h = cc
  only_access false None Directory true g e h = cc
  only_access false None Directory false (Some g) e h = cc
  only_access false None Directory false None e h = cc

  only_default : (b : Bool) (f : Option ListFault) (k : Kind) (z : Bool) (g : Option ListFault) (e : ListFault) → outcome b f k z g ≡ Err (ListIs Default e)
      → (k ≡ Directory) × (f ≡ None) × (z ≡ false) × (g ≡ Some e)
  only_default true f k z g e h = cc
  only_default false (Some f) k z g e h = cc
  only_default false None Plain z g e h = cc
  only_default false None Directory true g e h = cc
  only_default false None Directory false (Some g) e h = (refl, refl, refl, cc)
  only_default false None Directory false None e h = cc

  no_memory : (b : Bool) (f : Option ListFault) (k : Kind) (z : Bool) (g : Option ListFault) → outcome b f k z g ≢ Err NoMemory
  no_memory true f k z g = λ h. cc
  no_memory false (Some f) k z g = λ h. cc
  no_memory false None Plain z g = λ h. cc
  no_memory false None Directory true g = λ h. cc
  no_memory false None Directory false (Some g) = λ h. cc
  no_memory false None Directory false None = λ h. cc

  pub line_takes_no_memory : edit n (edit_of c) r ≢ Err NoMemory
  line_takes_no_memory h = no_memory (misplaces_default n (edit_of c) r) (fault (entries left)) n.kind none_given (fault (entries left_default)) (sym outcome_is ∙ h)

  -- ---- lists with entries

  some_entries : (es : List Entry) → eqb (length es) 0 ≡ false → es ≢ []
  some_entries [] h = cc
  some_entries (e ∷ es) h = λ none. cc

  not_none : (es : List Entry) → es ≢ [] → eqb (length es) 0 ≡ false
  not_none [] h = absurd (h refl)
  not_none (e ∷ es) h = by_test (eqb (length (e ∷ es)) 0) refl
    where
      by_test : (b : Bool) → eqb (length (e ∷ es)) 0 ≡ b → b ≡ false
      by_test true is = absurd (h (is_empty (e ∷ es) is))
      by_test false is = refl

  -- ---- the laws

  in_directory : n.kind ≡ Directory → misplaces_default n (edit_of c) r ≡ false
  in_directory h = ap (λ k. not (is_directory k) && not r && puts_default (edit_of c)) h

  pub line_misplaced : (edit n (edit_of c) r ≡ Err DefaultOnFile) ↔ (misplaces_default n (edit_of c) r ≡ true)
  line_misplaced = (
    (λ h. only_misplaced (misplaces_default n (edit_of c) r) (fault (entries left)) n.kind none_given (fault (entries left_default)) (sym outcome_is ∙ h)),
    (λ h. outcome_is ∙ ap (λ b. outcome b (fault (entries left)) n.kind none_given (fault (entries left_default))) h),
  )

  pub refuses_lists : RefusesLists n c r
  refuses_lists = record {
    access = left;
    dacl = left_default;
    access_left = access_left n c;
    dacl_left = default_left n c left;
    access_fault = λ f. (
      (λ h. only_access (misplaces_default n (edit_of c) r) (fault (entries left)) n.kind none_given (fault (entries left_default)) f (sym outcome_is ∙ h)),
      (λ h. outcome_is ∙ (λ i. outcome (h.0 i) (h.1 i) n.kind none_given (fault (entries left_default)))),
    );
    dacl_fault = λ f. (
      (λ h. let is = only_default (misplaces_default n (edit_of c) r) (fault (entries left)) n.kind none_given (fault (entries left_default)) f (sym outcome_is ∙ h) in
          record { directory = is.0; valid = is.1; given = some_entries (entries left_default) is.2; fault = is.3 }),
      (λ h. outcome_is ∙ (λ i. outcome (in_directory h.directory i) (h.valid i) (h.directory i) (not_none (entries left_default) h.given i) (h.fault i))),
    );
  }

-- ---- whole lists

module _ (n : Node) (r : Bool) where
  -- a default list that is given to a file of this kind
  only_given : {A : Type 0} (k : Kind) (b : Bool) (o : Option KeyMap) (f : Option KeyMap → A) → (allowed k b o >>= λ d. Ok (f d)) ≡ Err DefaultOnFile
      → (not (is_directory k) && not b && is_some o) ≡ true
  only_given Directory b o f h = cc
  only_given Plain b None f h = cc
  only_given Plain true (Some d) f h = cc
  only_given Plain false (Some d) f h = refl

  given_only : {A : Type 0} (k : Kind) (b : Bool) (o : Option KeyMap) (f : Option KeyMap → A) → (not (is_directory k) && not b && is_some o) ≡ true
      → (allowed k b o >>= λ d. Ok (f d)) ≡ Err DefaultOnFile
  given_only Directory b o f h = cc
  given_only Plain true None f h = cc
  given_only Plain false None f h = cc
  given_only Plain true (Some d) f h = cc
  given_only Plain false (Some d) f h = refl

  no_list : {A : Type 0} (k : Kind) (b : Bool) (o : Option KeyMap) (f : Option KeyMap → A) (which : Which) (e : ListFault) → (allowed k b o >>= λ d. Ok (f d)) ≢ Err (ListIs which e)
  no_list Directory b o f which e = λ h. cc
  no_list Plain b None f which e = λ h. cc
  no_list Plain true (Some d) f which e = λ h. cc
  no_list Plain false (Some d) f which e = λ h. cc

  memory_given : {A : Type 0} (k : Kind) (b : Bool) (o : Option KeyMap) (f : Option KeyMap → A) → (allowed k b o >>= λ d. Ok (f d)) ≢ Err NoMemory
  memory_given Directory b o f = λ h. cc
  memory_given Plain b None f = λ h. cc
  memory_given Plain true (Some d) f = λ h. cc
  memory_given Plain false (Some d) f = λ h. cc

pub misplaced : (n : Node) (e : Edit) (r : Bool) → (edit n e r ≡ Err DefaultOnFile) ↔ (misplaces_default n e r ≡ true)
unfolding steps.put steps.restore
misplaced n (edits.Change b k d nm rm x s md) r = line_misplaced n (options b k d nm rm x s md) r
misplaced n (edits.Put access dacl) r = (only_given n r n.kind r dacl _, given_only n r n.kind r dacl _)
misplaced n (edits.Flatten access dacl) r = ((λ h. cc), (λ h. by_kind (is_directory n.kind) r h))
  where
    by_kind : (a b : Bool) → (not a && not b && false) ≡ true → edit n (edits.Flatten access dacl) r ≡ Err DefaultOnFile
    by_kind true b h = cc
    by_kind false true h = cc
    by_kind false false h = cc
misplaced n (edits.Restore access dacl owner group flags) r = (only_given n r n.kind r dacl _, given_only n r n.kind r dacl _)

pub refused_lines : (n : Node) (e : Edit) (r : Bool) → OfLine e (λ c. RefusesLists n c r)
refused_lines n (edits.Change b k d nm rm x s md) r = refuses_lists n (options b k d nm rm x s md) r
refused_lines n (edits.Put access dacl) r = tt
refused_lines n (edits.Flatten access dacl) r = tt
refused_lines n (edits.Restore access dacl owner group flags) r = tt

pub refuses_no_list : (n : Node) (e : Edit) (r : Bool) → RefusesNoList n e r
unfolding steps.put steps.restore
refuses_no_list n (edits.Change b k d nm rm x s md) r = tt
refuses_no_list n (edits.Put access dacl) r = λ which f. no_list n r n.kind r dacl _ which f
refuses_no_list n (edits.Flatten access dacl) r = λ which f h. cc
refuses_no_list n (edits.Restore access dacl owner group flags) r = λ which f. no_list n r n.kind r dacl _ which f

pub misplaces : (n : Node) (e : Edit) (r : Bool) → misplaces_default n e r ≡ true → edit n e r ≡ Err DefaultOnFile
misplaces n e r h = (misplaced n e r).1 h

pub takes_no_memory : (n : Node) (e : Edit) (r : Bool) → edit n e r ≢ Err NoMemory
unfolding steps.put steps.restore
takes_no_memory n (edits.Change b k d nm rm x s md) r = line_takes_no_memory n (options b k d nm rm x s md) r
takes_no_memory n (edits.Put access dacl) r = memory_given n r n.kind r dacl _
takes_no_memory n (edits.Flatten access dacl) r = λ h. cc
takes_no_memory n (edits.Restore access dacl owner group flags) r = memory_given n r n.kind r dacl _
