use Rattle.std.proofs.Common.{sym, ap, subst, ◌∙◌}
use Rattle.std.specs.FinMap as maps
use Rattle.acl_entry.specs.Lists.{pairs, IsAt, IsGapFor, HasIds}
use Rattle.acl_entry.proofs.Ids.{HasIds-remove}
use Rattle.acl_entry.proofs.Removed.{without_at, without_gap, map_of-without, in_order-without}
use Rattle.acl_entry.proofs.draft.Draft.remove.Goals as goal

pub invariant_of-self : goal.invariant_of-self
invariant_of-self c =
    let es = c.self.inside.entries.items in
    let at : IsAt es c.args.key.now c.in-Ok.at = subst (λ l. IsAt l c.args.key.now c.in-Ok.at) c.deref.ensures c.in-Ok.ensures.found in
    record {
      in_order = in_order-without es _ c.self.invariant.in_order c.args.key.now (ap pairs c.remove-removed.ensures.items ∙ without_at es c.self.invariant.in_order c.args.key.now c.in-Ok.at at);
      ids = subst HasIds (sym c.remove-removed.ensures.items) (HasIds-remove es c.in-Ok.at c.self.invariant.ids);
    }

pub returns-in-Ok : goal.returns-in-Ok
returns-in-Ok c =
    let es = c.self.inside.entries.items in
    let at : IsAt es c.args.key.now c.in-Ok.at = subst (λ l. IsAt l c.args.key.now c.in-Ok.at) c.deref.ensures c.in-Ok.ensures.found in
    map_of-without es _ c.args.key.now (ap pairs c.remove-removed.ensures.items ∙ without_at es c.self.invariant.in_order c.args.key.now c.in-Ok.at at)
    ∙ ap (λ m. maps.remove m c.args.key.now) c.self.view_is

pub returns-in_default : goal.returns-in_default
returns-in_default c =
    let es = c.self.inside.entries.items in
    let gap : IsGapFor es c.args.key.now c.in_default.field-0 = subst (λ l. IsGapFor l c.args.key.now c.in_default.field-0) c.deref.ensures c.in_default.ensures.absent in
    sym c.self.view_is
    ∙ map_of-without es es c.args.key.now (without_gap es c.args.key.now c.in_default.field-0 gap)
    ∙ ap (λ m. maps.remove m c.args.key.now) c.self.view_is
