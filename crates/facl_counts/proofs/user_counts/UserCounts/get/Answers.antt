use Rattle.std.proofs.Common.{ap, ◌∙◌, arith}
use Rattle.std.specs.Prelude.{slice_get}
use Rattle.facl_counts.specs.SumLists.{totals}
use Rattle.facl_counts.proofs.TwoParts.{no_narrow_at, no_wide_at, total_at, within_at}
use Rattle.facl_counts.proofs.user_counts.UserCounts.get.Goals as goal

pub returns-in_default : goal.returns-in_default
returns-in_default c =
    no_wide_at c.self.inside.wide.items c.self.inside.narrow.items c.args.at (c.in_default.ensures ∙ ap (λ l. slice_get l c.args.at) c.deref.ensures.value)
    ∙ ap (λ l. slice_get l c.args.at) c.self.view_is

pub returns-in_default-item_at : goal.returns-in_default-item_at
returns-in_default-item_at c =
    no_narrow_at c.self.inside.wide.items c.self.inside.narrow.items c.args.at (c.in_default-item_at.ensures ∙ ap (λ l. slice_get l c.args.at) c.deref-2.ensures.value)
    ∙ ap (λ l. slice_get l c.args.at) c.self.view_is

pub overflow_add-result : goal.overflow_add-result
overflow_add-result c =
    let inside = c.self.inside in
    omega (
      arith,
      c.self.invariant.fits,
      within_at inside.all (totals inside.wide.items inside.narrow.items) c.args.at _ c.self.invariant.within
          (total_at inside.wide.items inside.narrow.items c.args.at c.in-Some.wide c.in-Some-item_at.narrow
          (c.in-Some.ensures ∙ ap (λ l. slice_get l c.args.at) c.deref.ensures.value) (c.in-Some-item_at.ensures ∙ ap (λ l. slice_get l c.args.at) c.deref-2.ensures.value)),
    )

pub returns : goal.returns
returns c =
    let inside = c.self.inside in
    total_at inside.wide.items inside.narrow.items c.args.at c.in-Some.wide c.in-Some-item_at.narrow
    (c.in-Some.ensures ∙ ap (λ l. slice_get l c.args.at) c.deref.ensures.value) (c.in-Some-item_at.ensures ∙ ap (λ l. slice_get l c.args.at) c.deref-2.ensures.value)
    ∙ ap (λ l. slice_get l c.args.at) c.self.view_is
