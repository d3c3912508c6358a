use Rattle.std.proofs.Common.{◌≡◌, ◌||◌, ◌==◌, true, length, sym, ap, subst, ◌∙◌}
use Rattle.acl_names.specs.Below.{encloses}
use Rattle.acl_names.specs.Paths.{PathOf}
use Rattle.acl_names.proofs.Below.{within_itself}
use Rattle.path_classes.specs.ClassesWithin.{is_inside}
use Rattle.acl_rights.proofs.Outside.{parent_holds}
use Rattle.acl_rights.proofs.changed_part.with_path.Goals as goal

pub loop-top-init : goal.loop-top-init
loop-top-init c = record {
  are_tops = c.in_ok-new.ensures.tops;
  covers = λ q. c.in_ok-new.ensures.covers q ∙ ap (λ tops. is_inside tops q || encloses c.in_ok-top.top q) c.deref-2.ensures.value;
  holds = ap (λ (p : PathOf). encloses p c.args.path.now) c.in_ok-top.ensures ∙ within_itself c.args.path.now;
}

pub loop-top-preserved : goal.loop-top-preserved
loop-top-preserved c =
    let top = c.loop-top.top in
    let some = ap (λ (p : PathOf). length p == 0) (sym c.borrowed.ensures) ∙ sym c.is_root.ensures ∙ c.if-not-is_root.true in
    record {
      are_tops = c.in_ok-new-2.ensures.tops;
      covers = λ q. c.in_ok-new-2.ensures.covers q ∙ ap (λ tops. is_inside tops q || encloses c.in_ok-top-2.top q) c.deref-in-loop-top.ensures.value;
      holds = subst (λ (p : PathOf). encloses p c.args.path.now ≡ true) (sym c.in_ok-top-2.ensures) (parent_holds top c.args.path.now some c.loop-top.invariant.holds);
    }
