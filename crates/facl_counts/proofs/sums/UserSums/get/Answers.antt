use Rattle.std.proofs.Common.{ap, ◌∙◌}
use Rattle.std.specs.Prelude.{slice_get}
use Rattle.facl_counts.proofs.SumsApart.{no_count_at, no_first_at, sum_at}
use Rattle.facl_counts.proofs.sums.UserSums.get.Goals as goal

pub returns-in_default : goal.returns-in_default
returns-in_default c = no_count_at c.self.inside.counts c.self.inside.firsts.items c.args.at c.in_default.ensures ∙ ap (λ l. slice_get l c.args.at) c.self.view_is

pub returns-in_default-item_at : goal.returns-in_default-item_at
returns-in_default-item_at c =
    no_first_at c.self.inside.counts c.self.inside.firsts.items c.args.at (c.in_default-item_at.ensures ∙ ap (λ l. slice_get l c.args.at) c.deref.ensures.value)
    ∙ ap (λ l. slice_get l c.args.at) c.self.view_is

pub returns : goal.returns
returns c =
    sum_at c.self.inside.counts c.self.inside.firsts.items c.args.at c.in-Some.count c.in-Some-item_at.first c.in-Some.ensures
    (c.in-Some-item_at.ensures ∙ ap (λ l. slice_get l c.args.at) c.deref.ensures.value)
    ∙ ap (λ l. slice_get l c.args.at) c.self.view_is
