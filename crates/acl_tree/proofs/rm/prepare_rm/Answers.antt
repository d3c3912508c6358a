use Rattle.std.proofs.Common.{◌≡◌, false, None, Ok, not, filter, refl, ap, sym, subst, ◌∙◌}
use Rattle.std.specs.List.{AllByRecursion}
use Rattle.std.specs.FinMap.{find}
use Rattle.acl_names.specs.Paths.{path_cmp}
use Rattle.acl_tree.specs.Files.{Files, Recorded}
use Rattle.acl_tree.specs.Operands.{is_file, in_region}
use Rattle.acl_tree.specs.Rm.{first_refused, without_files}
use Rattle.path_map.specs.Below.{holds_below}
use Rattle.acl_tree.specs.Sound.{IsSoundTree}
use Rattle.acl_tree.specs.State.{State, state_from, with_tree}
use Rattle.acl_tree.specs.Reports.{staged_from}
use Rattle.acl_tree.specs.declared.user_change.UserChange.TheVariants.{Unchanged}
use Rattle.acl_tree.proofs.Selected.{filter_alike}
use Rattle.acl_tree.proofs.Removals.{gone_from, sound_left, apart_all}
use Rattle.acl_tree.proofs.Reported.{reported_removal}
use Rattle.acl_tree.proofs.Unnamed.{not_removed}
use Rattle.acl_text.specs.Results.{◌>>=◌, unless}
use Rattle.acl_tree.proofs.rm.prepare_rm.Goals as goal

pub of-files-requires : goal.of-files-requires
of-files-requires c =
    let tree : Recorded = c.args.state.now.tree.now in
    let region = c.in_ok-touched.touched in
    let left = c.in_ok-by_path.ensures ∙ ap (λ (es : Files). filter (λ e. not (in_region region e.0)) es) c.files_by_path.ensures.all in
    subst (λ (t : Recorded). IsSoundTree t) (λ i. record { files = sym left i; loaded = sym c.is_loaded.ensures i })
    (sound_left (λ e. not (in_region region e.0)) tree c.files_by_path.ensures.sound)

pub with_files-requires : goal.with_files-requires
with_files-requires c = λ p out.
    let region = c.in_ok-touched.touched in
    let left = c.in_ok-by_path.ensures ∙ ap (λ (es : Files). filter (λ e. not (in_region region e.0)) es) c.files_by_path.ensures.all in
    ap (λ (t : Recorded). find path_cmp p t.files) c.of-files.ensures
    ∙ ap (λ (es : Files). find path_cmp p es) left
    ∙ not_removed p region.0 region.1 c.args.state.now.tree.now.files out

pub returns : goal.returns
returns c =
    let tree : Recorded = c.args.state.now.tree.now in
    let old : State = state_from tree c.args.state.now.people.now in
    let t : Files = tree.files in
    let paths = c.args.selection.now.operands.now in
    let r = c.args.selection.now.recursive in
    let region = c.in_ok-touched.touched in
    let sound = c.files_by_path.ensures.sound in
    let left : c.of-files.result.files ≡ without_files r paths t =
    ap (λ (t : Recorded). t.files) c.of-files.ensures
    ∙ c.in_ok-by_path.ensures
    ∙ ap (λ (es : Files). filter (λ e. not (in_region region e.0)) es) c.files_by_path.ensures.all
    ∙ filter_alike (λ q. not (in_region region q)) (λ q. not (is_file r paths q)) (λ q. ap not (c.in_ok-touched.ensures q)) t
    in
    let after : Recorded = record tree { files = without_files r paths t } in
    let new : State = state_from after c.args.state.now.people.now in
    let made : c.of-files.result ≡ after = λ i. record { files = left i; loaded = (ap (λ (t : Recorded). t.loaded) c.of-files.ensures ∙ c.is_loaded.ensures) i } in
    let is : c.in_ok-staged.staged ≡ staged_from t new Unchanged = c.in_ok-staged.ensures.all ∙ ap (λ (t' : Recorded). staged_from t (state_from t' c.args.state.now.people.now) Unchanged) made in
    let may : first_refused r paths t ≡ None = c.in_ok-check_all.ensures in
    record {
      made = ap (λ o. unless o (Ok after) >>= with_tree old) may ∙ ap (λ (s : State). Ok s) (sym (ap (λ s. s.state) is));
      sound = c.in_ok-staged.ensures.sound;
      reports =
          reported_removal old new Unchanged c.in_ok-staged.staged is
          (subst (λ (es : Files). AllByRecursion (λ e. holds_below (without_files r paths t) e.0 ≡ false) es) (sym (gone_from (is_file r paths) t sound.order))
          (apart_all r paths t may sound.order sound.placed))
          refl;
      moved = ap (λ s. s.user_change) is;
    }
