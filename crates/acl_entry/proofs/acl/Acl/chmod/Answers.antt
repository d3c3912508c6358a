use Rattle.std.proofs.Common.{ap, ◌∙◌}
use Rattle.acl_entry.specs.Lists.{mode, with_mode}
use Rattle.acl_entry.proofs.Modes.{mode-chmod}
use Rattle.acl_entry.proofs.acl.Acl.chmod.Goals as goal

pub returns-clause-shown : goal.returns-clause-shown
returns-clause-shown c =
    ap mode (c.set_mode_entries.ensures ∙ (λ i. with_mode c.args.self.now (c.last_digit.ensures i) (c.last_digit-2.ensures i) (c.last_digit-3.ensures i)))
    ∙ mode-chmod c.args.self.now c.args.mode
