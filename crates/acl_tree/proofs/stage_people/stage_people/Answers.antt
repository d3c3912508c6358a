use Rattle.std.proofs.Common.{◌≡◌, refl, ap, sym, subst, ◌∙◌}
use Rattle.std.specs.FinMap.{find}
use Rattle.acl_names.specs.Paths.{path_cmp}
use Rattle.acl_tree.specs.Files.{Recorded}
use Rattle.acl_tree.specs.Sound.{IsSoundTree}
use Rattle.acl_tree.specs.State.{state_from}
use Rattle.acl_tree.specs.Reports.{staged_from}
use Rattle.acl_tree.proofs.Reported.{reported_people}
use Rattle.acl_tree.proofs.stage_people.stage_people.Goals as goal

pub of-requires : goal.of-requires
of-requires c = λ p out. ap (λ (t : Recorded). find path_cmp p t.files) (c.in_ok-files.ensures ∙ sym c.in_ok-before.ensures)

pub returns : goal.returns
returns c =
    let tree = c.args.tree.now in
    let is : c.of.result ≡ staged_from tree.files (state_from tree c.args.people) c.args.user_change =
    c.of.ensures.all ∙ (λ i. staged_from (c.in_ok-before.ensures i).files (state_from (c.in_ok-files.ensures i) c.args.people) c.args.user_change)
    in
    record {
      all = is;
      sound = subst (λ (t : Recorded). IsSoundTree t) (sym (ap (λ s. s.state.tree) c.of.ensures.all)) c.of.ensures.sound;
      reports = λ old users. reported_people (state_from tree old) (state_from tree c.args.people) c.args.user_change c.of.result is c.soundness_law.ensures.order refl users;
    }
