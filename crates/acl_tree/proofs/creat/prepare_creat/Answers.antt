use Rattle.std.proofs.Common.{◌≡◌, false, cond, Some, Ok, refl, ap, sym, subst, ◌∙◌}
use Rattle.std.specs.Ordering.{eq_by_cmp}
use Rattle.std.specs.FinMap.{find, put}
use Rattle.std.specs.FinMap.Entries.{find-put}
use Rattle.acl_names.specs.Paths.{path_cmp, PathOf}
use Rattle.acl_names.proofs.PathOrder.{path_total}
use Rattle.acl_names.proofs.Basics.{or_false}
use Rattle.acl_edit.specs.declared.node.Node.{Node}
use Rattle.acl_tree.specs.Files.{Files, Recorded}
use Rattle.acl_tree.specs.Sound.{IsSoundTree}
use Rattle.acl_tree.specs.Creat.{creat_by}
use Rattle.acl_tree.specs.State.{State, state_from, with_tree}
use Rattle.acl_tree.specs.Reports.{staged_from}
use Rattle.acl_tree.specs.declared.user_change.UserChange.TheVariants.{Unchanged}
use Rattle.acl_tree.proofs.NewFiles.{sound_with, gone_with}
use Rattle.acl_tree.proofs.Reported.{reported_files}
use Rattle.acl_text.specs.Results.{◌>>=◌}
use Rattle.acl_tree.proofs.creat.prepare_creat.Goals as goal

pub of-files-requires : goal.of-files-requires
of-files-requires c =
    let tree : Recorded = c.args.state.now.tree.now in
    let e : PathOf × Node = (c.args.new.now.path, c.in_ok-node.node) in
    let new = c.in_ok-by_path.ensures ∙ ap (λ (es : Files). put path_cmp e.0 e.1 es) c.files_by_path.ensures.all in
    subst (λ (t : Recorded). IsSoundTree t) (λ i. record { files = sym new i; loaded = sym c.is_loaded.ensures i })
    (sound_with tree c.files_by_path.ensures.sound e c.in_ok-node.ensures.fits)

pub with_files-requires : goal.with_files-requires
with_files-requires c = λ p out.
    let e : PathOf × Node = (c.args.new.now.path, c.in_ok-node.node) in
    let t : Files = c.args.state.now.tree.now.files in
    let other : eq_by_cmp path_cmp p e.0 ≡ false = sym (or_false (eq_by_cmp path_cmp p e.0)) ∙ sym (c.in_ok-at.ensures p) ∙ out in
    ap (λ (t : Recorded). find path_cmp p t.files) c.of-files.ensures
    ∙ ap (λ (es : Files). find path_cmp p es) (c.in_ok-by_path.ensures ∙ ap (λ (es : Files). put path_cmp e.0 e.1 es) c.files_by_path.ensures.all)
    ∙ find-put path_cmp path_total p e.0 e.1 t
    ∙ ap (λ b. cond b (Some e.1) (find path_cmp p t)) other

pub returns : goal.returns
returns c =
    let tree : Recorded = c.args.state.now.tree.now in
    let old : State = state_from tree c.args.state.now.people.now in
    let e : PathOf × Node = (c.args.new.now.path, c.in_ok-node.node) in
    let after : Recorded = record tree { files = put path_cmp e.0 e.1 tree.files } in
    let new : State = state_from after c.args.state.now.people.now in
    let files : c.of-files.result.files ≡ after.files =
    ap (λ (t : Recorded). t.files) c.of-files.ensures ∙ c.in_ok-by_path.ensures ∙ ap (λ (es : Files). put path_cmp e.0 e.1 es) c.files_by_path.ensures.all
    in
    let made : c.of-files.result ≡ after = λ i. record { files = files i; loaded = (ap (λ (t : Recorded). t.loaded) c.of-files.ensures ∙ c.is_loaded.ensures) i } in
    let is : c.in_ok-staged.staged ≡ staged_from tree.files new Unchanged = c.in_ok-staged.ensures.all
    ∙ ap (λ (t : Recorded). staged_from tree.files (state_from t c.args.state.now.people.now) Unchanged) made in
    record {
      made =
          ap (λ row. creat_by c.args.new.now tree row >>= with_tree old) c.in_ok-owner.ensures.found
          ∙ ap (λ r. r >>= with_tree old) c.in_ok-node.ensures.made
          ∙ ap (λ (s : State). Ok s) (sym (ap (λ s. s.state) is));
      sound = c.in_ok-staged.ensures.sound;
      reports = reported_files old new c.in_ok-staged.staged is refl (gone_with tree c.files_by_path.ensures.sound e c.in_ok-node.ensures.fits);
      moved = ap (λ s. s.user_change) is;
    }
