-- Labels; and the files of a state that are others in another state.
use Rattle.std.proofs.Common.{◌≡◌, Bool, true, false, ◌&&◌, not, cond, eqb, if◌then◌else◌, is_some, List, [], ◌∷◌, filter, Option, Some, None, refl, sym, ap, subst, ◌∙◌}
use Rattle.std.specs.Bool.{Decides}
use Rattle.std.specs.Option.{option_map_or}
use Rattle.std.specs.Ordering.{is_eq}
use Rattle.std.specs.FinMap.{find}
use Rattle.std.proofs.lemmas.Bool.{and_parts, eqb-true, eq-eqb}
use Rattle.std.proofs.lemmas.Cmp.{tied_itself}
use Rattle.acl_entry.specs.Keys.{same_key, key_cmp}
use Rattle.acl_entry.specs.Perms.{number, numbered}
use Rattle.acl_entry.specs.Lists.{entries, map_of}
use Rattle.acl_entry.specs.declared.entry.Entry.{Entry}
use Rattle.acl_entry.specs.declared.label.Label.{Label}
use Rattle.acl_entry.proofs.KeyLaws.{key_total, exact_keys}
use Rattle.acl_entry.proofs.Maps.{map_of-entries}
use Rattle.acl_entry.proofs.Same.{numbered_bools}
use Rattle.acl_names.specs.Paths.{path_cmp, PathOf}
use Rattle.acl_names.proofs.Basics.{is_equal, both_true}
use Rattle.acl_edit.specs.declared.node.Node.{Node}
use Rattle.acl_tree.specs.Files.{Files}
use Rattle.path_map.specs.Entries.{IsInOrder}
use Rattle.acl_tree.specs.Changed.{same_entry, same_entries, same_label, changed_between, gone_between, differs, differing, SameBut}
use Rattle.acl_tree.specs.Operands.{edit_files}
use Rattle.path_map.proofs.Differences.{Leads, leads_all}

-- ---- labels

entry_is_same : (a b : Entry) → same_entry a b ≡ true → a ≡ b
entry_is_same a b h =
    let parts = and_parts (same_key a.key b.key) _ h in
    let keys = exact_keys a.key b.key (is_equal (key_cmp a.key b.key) parts.0) in
    let perms : a.perm ≡ b.perm = sym (numbered_bools a.perm.read a.perm.write a.perm.execute) ∙ ap numbered (eqb-true (number a.perm) (number b.perm) parts.1)
    ∙ numbered_bools b.perm.read b.perm.write b.perm.execute in
    λ i. record { key = keys i; perm = perms i }

entry_itself : (a : Entry) → same_entry a a ≡ true
entry_itself a = both_true _ _ (ap is_eq (tied_itself key_total a.key)) (eq-eqb (number a.perm) (number a.perm) refl)

entries_are_same : (as' bs : List Entry) → same_entries as' bs ≡ true → as' ≡ bs
entries_are_same [] [] h = refl
entries_are_same [] (b ∷ bs) h = cc
entries_are_same (a ∷ as') [] h = cc
entries_are_same (a ∷ as') (b ∷ bs) h =
    let parts = and_parts (same_entry a b) (same_entries as' bs) h in
    ap (λ x. x ∷ as') (entry_is_same a b parts.0) ∙ ap (λ l. b ∷ l) (entries_are_same as' bs parts.1)

entries_itself : (as' : List Entry) → same_entries as' as' ≡ true
entries_itself [] = refl
entries_itself (a ∷ as') = both_true _ _ (entry_itself a) (entries_itself as')

-- labels that are found to be the same are the same
pub label_is_same : (a b : Label) → same_label a b ≡ true → a ≡ b
label_is_same a b h =
    let parts = and_parts (eqb a.owner b.owner) _ h in
    let more = and_parts (eqb a.group b.group) _ parts.1 in
    let owners = eqb-true a.owner b.owner parts.0 in
    let groups = eqb-true a.group b.group more.0 in
    let lists : a.acl ≡ b.acl = sym (map_of-entries a.acl) ∙ ap map_of (entries_are_same (entries a.acl) (entries b.acl) more.1) ∙ map_of-entries b.acl in
    λ i. record { owner = owners i; group = groups i; acl = lists i }

pub label_itself : (a : Label) → same_label a a ≡ true
label_itself a = both_true _ _ (eq-eqb a.owner a.owner refl) (both_true _ _ (eq-eqb a.group a.group refl) (entries_itself (entries a.acl)))

pub label_decides : (a b : Label) → Decides (same_label a b) (a ≡ b)
label_decides a b = (label_is_same a b, λ e. subst (λ x. same_label a x ≡ true) e (label_itself a))

-- ---- files that are gone

-- none is, where all paths are recorded still
pub none_gone : (old new : Files) → IsInOrder old → ((p : PathOf) → is_some (find path_cmp p old) ≡ true → is_some (find path_cmp p new) ≡ true) → gone_between old new ≡ []
none_gone old new order keeps = each old (leads_all old order)
  where
    each : (es : Files) → Leads old es → filter (λ e. not (is_some (find path_cmp e.0 new))) es ≡ []
    each [] h = refl
    each (e ∷ es) h =
        let rest = filter (λ e. not (is_some (find path_cmp e.0 new))) es in
        ap (λ b. cond (not b) (e ∷ rest) rest) (keeps e.0 (ap is_some h.0)) ∙ each es h.1

module _ (test : PathOf → Bool) (g : PathOf → Node → Node) where
  found_edited : (p : PathOf) (t : Files) → is_some (find path_cmp p (edit_files test g t)) ≡ is_some (find path_cmp p t)
  found_edited p [] = refl
  found_edited p (e ∷ t) = by (is_eq (path_cmp p e.0)) (found_edited p t)
    where
      by : (b : Bool) → is_some (find path_cmp p (edit_files test g t)) ≡ is_some (find path_cmp p t)
          → is_some (cond b (Some (if test e.0 then g e.0 e.1 else e.1)) (find path_cmp p (edit_files test g t))) ≡ is_some (cond b (Some e.1) (find path_cmp p t))
      by true rest = refl
      by false rest = rest

  -- none is gone by an edit
  pub gone-edited : (t : Files) → IsInOrder t → gone_between t (edit_files test g t) ≡ []
  gone-edited t order = none_gone t (edit_files test g t) order (λ p h. found_edited p t ∙ h)

-- ---- files that are others in another state

differ_changed : (o : Option Node) (n : Node) → differs true o n ≡ option_map_or (λ m. not (same_label m.label n.label)) o true
differ_changed None n = refl
differ_changed (Some m) n = refl

differ_gone : (o : Option Node) (n : Node) → differs false o n ≡ not (is_some o)
differ_gone None n = refl
differ_gone (Some m) n = refl

pub differing_changed : (old new : Files) → differing true old new ≡ changed_between old new
differing_changed old [] = refl
differing_changed old (e ∷ es) = λ i. cond (differ_changed (find path_cmp e.0 old) e.1 i) (e ∷ differing_changed old es i) (differing_changed old es i)

pub differing_gone : (new old : Files) → differing false new old ≡ gone_between old new
differing_gone new [] = refl
differing_gone new (e ∷ es) = λ i. cond (differ_gone (find path_cmp e.0 new) e.1 i) (e ∷ differing_gone new es i) (differing_gone new es i)

-- a file that is the same in the other state is not among them
same_differs : (labels : Bool) (o : Option Node) (n : Node) → o ≡ Some n → differs labels o n ≡ false
same_differs labels o n h = ap (λ o. differs labels o n) h ∙ ap (λ b. labels && not b) (label_itself n.label) ∙ by labels
  where
    by : (b : Bool) → (b && false) ≡ false
    by true = refl
    by false = refl

-- so they are among those that a test passes, where all others are the same
pub differing_meant : (labels : Bool) (test : PathOf → Bool) (t other : Files) → IsInOrder t → SameBut test t other → differing labels other (filter (λ e. test e.0) t) ≡ differing labels other t
differing_meant labels test t other order same = each t (leads_all t order)
  where
    each : (es : Files) → Leads t es → differing labels other (filter (λ e. test e.0) es) ≡ differing labels other es
    each [] h = refl
    each (e ∷ es) h = by (test e.0) refl (each es h.1)
      where
        rest : Files
        rest = differing labels other es

        by : (b : Bool) → test e.0 ≡ b → differing labels other (filter (λ e. test e.0) es) ≡ rest
            → differing labels other (cond b (e ∷ filter (λ e. test e.0) es) (filter (λ e. test e.0) es)) ≡ cond (differs labels (find path_cmp e.0 other) e.1) (e ∷ rest) rest
        by true is more = ap (λ l. cond (differs labels (find path_cmp e.0 other) e.1) (e ∷ l) l) more
        by false is more = more ∙ sym (ap (λ c. cond c (e ∷ rest) rest) (same_differs labels (find path_cmp e.0 other) e.1 (same e.0 is ∙ h.0)))

-- the same files the other way round
pub same_back : (test : PathOf → Bool) (old new : Files) → SameBut test old new → SameBut test new old
same_back test old new same p out = sym (same p out)
