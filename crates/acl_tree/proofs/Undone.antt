-- A new file that is removed again.
use Rattle.std.proofs.Common.{◌≡◌, Bool, true, false, not, cond, ◌&&◌, ◌||◌, [], ◌∷◌, Some, None, Ok, if◌then◌else◌, Ordering, Less, Equal, Greater, refl, sym, ap, subst, ◌∙◌, true≢false}
use Rattle.std.specs.Option.{option_or}
use Rattle.std.specs.Ordering.{eq_by_cmp, is_eq}
use Rattle.std.specs.FinMap.{find, put}
use Rattle.std.specs.FinMap.Entries.{by_order, find-put}
use Rattle.std.proofs.lemmas.Cmp.{tied_itself}
use Rattle.acl_names.specs.Paths.{path_cmp, PathOf}
use Rattle.acl_names.proofs.PathOrder.{path_total, exact_paths}
use Rattle.acl_edit.specs.Nodes.{is_directory}
use Rattle.acl_edit.specs.declared.node.Node.{Node}
use Rattle.acl_tree.specs.declared.command.Command.TheVariants.{Creat, Rm}
use Rattle.acl_tree.specs.declared.command.NewFile.{NewFile}
use Rattle.acl_tree.specs.declared.fault.TreeFault.TheVariants.{IsDirectory}
use Rattle.acl_tree.specs.Files.{Files}
use Rattle.acl_names.specs.Below.{encloses}
use Rattle.acl_tree.specs.Creat.{row_of, exists, creat}
use Rattle.acl_tree.specs.Operands.{is_file}
use Rattle.acl_tree.specs.Rm.{refusal, first_refused, without_files}
use Rattle.acl_tree.specs.State.{State, with_tree}
use Rattle.acl_tree.specs.Step.{step}
use Rattle.acl_names.proofs.Below.{within_itself}
use Rattle.acl_names.proofs.Basics.{both_false}
use Rattle.acl_tree.proofs.Selected.{same_path}
use Rattle.acl_tree.proofs.Unnamed.{only_tree, puts_by}
use Rattle.acl_text.specs.Results.{◌>>=◌, unless}

-- what is outside is not meant, with recursion or without
not_meant : (recursive : Bool) (p q : PathOf) → encloses p q ≡ false → is_file recursive (p ∷ []) q ≡ false
not_meant true p q out = ap (λ b. b || false) out
not_meant false p q out = by (eq_by_cmp path_cmp q p) refl
  where
    by : (b : Bool) → eq_by_cmp path_cmp q p ≡ b → (b || false) ≡ false
    by true same = absurd (true≢false (sym (subst (λ z. encloses p z ≡ true) (sym (same_path p q same)) (within_itself p)) ∙ out))
    by false same = refl

meant_itself : (recursive : Bool) (p : PathOf) → is_file recursive (p ∷ []) p ≡ true
meant_itself true p = ap (λ b. b || false) (within_itself p)
meant_itself false p = ap (λ o. is_eq o || false) (tied_itself path_total p)

-- a path among files none of which is at it or below it
removed_again : (recursive : Bool) (p : PathOf) (n : Node) (t : Files) → exists p t ≡ false → without_files recursive (p ∷ []) (put path_cmp p n t) ≡ t
removed_again recursive p n [] out = ap (λ b. cond (not b) ((p, n) ∷ []) []) (meant_itself recursive p)
removed_again recursive p n (e ∷ t) out = by (path_cmp p e.0) refl (removed_again recursive p n t parts.1)
  where
    parts : (encloses p e.0 ≡ false) × (exists p t ≡ false)
    parts = both_false (encloses p e.0) (exists p t) out

    kept : (es : Files) → without_files recursive (p ∷ []) (e ∷ es) ≡ e ∷ without_files recursive (p ∷ []) es
    kept es = ap (λ b. cond (not b) (e ∷ without_files recursive (p ∷ []) es) (without_files recursive (p ∷ []) es)) (not_meant recursive p e.0 parts.0)

    gone : (es : Files) → without_files recursive (p ∷ []) ((p, n) ∷ es) ≡ without_files recursive (p ∷ []) es
    gone es = ap (λ b. cond (not b) ((p, n) ∷ without_files recursive (p ∷ []) es) (without_files recursive (p ∷ []) es)) (meant_itself recursive p)

    all_kept : (es : Files) → exists p es ≡ false → without_files recursive (p ∷ []) es ≡ es
    all_kept [] h = refl
    all_kept (x ∷ es) h =
        let outs = both_false (encloses p x.0) (exists p es) h in
        ap (λ b. cond (not b) (x ∷ without_files recursive (p ∷ []) es) (without_files recursive (p ∷ []) es)) (not_meant recursive p x.0 outs.0)
        ∙ ap (λ l. x ∷ l) (all_kept es outs.1)

    by : (o : Ordering) → path_cmp p e.0 ≡ o → without_files recursive (p ∷ []) (put path_cmp p n t) ≡ t
        → without_files recursive (p ∷ []) (by_order o ((p, n) ∷ e ∷ t) ((e.0, n) ∷ t) (e ∷ put path_cmp p n t)) ≡ e ∷ t
    by Less is rest = gone (e ∷ t) ∙ kept t ∙ ap (λ l. e ∷ l) (all_kept t parts.1)
    by Equal is rest = absurd (true≢false (sym (subst (λ z. encloses p z ≡ true) (exact_paths p e.0 is) (within_itself p)) ∙ parts.0))
    by Greater is rest = kept (put path_cmp p n t) ∙ ap (λ l. e ∷ l) rest

-- the new file may be removed
not_refused : (recursive : Bool) (p : PathOf) (n : Node) (t : Files) → (is_directory n.kind && not recursive) ≡ false → first_refused recursive (p ∷ []) (put path_cmp p n t) ≡ None
not_refused recursive p n t may =
    ap (λ o. option_or (refusal recursive p o) None) (find-put path_cmp path_total p p n t ∙ ap (λ o. cond (is_eq o) (Some n) (find path_cmp p t)) (tied_itself path_total p))
    ∙ ap (λ b. option_or (if b then Some (IsDirectory p) else None) None) may

pub created_removed : (new : NewFile) (recursive : Bool) (old made : State) → (is_directory new.kind && not recursive) ≡ false → step old (Creat new) ≡ Ok made
    → step made (Rm (new.path ∷ []) recursive) ≡ Ok old
created_removed new recursive old made may h =
    let only = only_tree old made (creat new old.people old.tree) h in
    let puts = puts_by new old.tree made.tree (row_of old.people new.user) only.tree in
    let p = new.path in
    let n = puts.node in
    let files : Files = put path_cmp p n old.tree.files in
    let after : State = record old { tree = record old.tree { files = files } } in
    let is : made ≡ after = λ i. record { tree = puts.is i; people = only.people i } in
    ap (λ s. step s (Rm (p ∷ []) recursive)) is
    ∙ ap (λ o. unless o (Ok (record after.tree { files = without_files recursive (p ∷ []) files })) >>= with_tree after)
    (not_refused recursive p n old.tree.files (ap (λ k. is_directory k && not recursive) puts.kind ∙ may))
    ∙ ap (λ (es : Files). let s : State = record old { tree = record old.tree { files = es } } in Ok s) (removed_again recursive p n old.tree.files puts.absent)
