use Rattle.std.proofs.Common.{◌≡◌, ℕ, Bool, true, false, List, ◌||◌, ◌&&◌, not, refl, ap, ◌∙◌}
use Rattle.std.specs.FinSet as sets
use Rattle.acl_entry.specs.Mentions.{is_one_of}
use Rattle.acl_entry.specs.GroupsOfOne.{in_just_one}
use Rattle.acl_entry.proofs.subject_groups.groups_of_one.Goals as goal

in_one : (a b : Bool) → ((false || (a && not b)) || (b && not a)) ≡ in_just_one a b
in_one true true = refl
in_one true false = refl
in_one false true = refl
in_one false false = refl

pub returns : goal.returns
returns c = record {
  rising = c.in_ok-groups.ensures.rising;
  just = λ gid.
      let before = sets.contains c.args.before.now.groups gid in
      let after = sets.contains c.args.after.now.groups gid in
      c.in_ok-groups.ensures.same gid
      ∙ c.in_ok-add_others-2.ensures gid
      ∙ ap (λ b. b || (after && not before)) (c.in_ok-add_others.ensures gid ∙ ap (λ (ids : List ℕ). is_one_of gid ids || (before && not after)) c.new-groups.ensures.items)
      ∙ in_one before after;
}
