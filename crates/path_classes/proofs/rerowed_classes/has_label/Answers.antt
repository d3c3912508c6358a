use Rattle.std.proofs.Common.{ap, ◌∙◌}
use Rattle.acl_entry.proofs.Groups.{is_ok-searched}
use Rattle.path_classes.specs.Renewing.{is_one}
use Rattle.path_classes.proofs.rerowed_classes.has_label.Goals as goal

pub returns : goal.returns
returns c =
    c.is_ok.ensures.value
    ∙ is_ok-searched c.args.labels.now c.requires c.kind_of-kind.result c.binary_search.result c.binary_search.ensures.position
    ∙ ap (λ m. is_one m c.args.labels.now) c.kind_of-kind.ensures
