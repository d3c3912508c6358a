use Rattle.std.proofs.Common.{sym, ◌∙◌}
use Rattle.acl_names.proofs.Tops.{common_whole}
use Rattle.acl_names.proofs.path_ref.PathRef.common.Goals as goal

pub returns-then-encloses : goal.returns-then-encloses
returns-then-encloses c = sym (common_whole c.without_others-top.result c.args.other.now (sym c.encloses.ensures ∙ c.if-encloses.true)) ∙ c.without_others-top.ensures
