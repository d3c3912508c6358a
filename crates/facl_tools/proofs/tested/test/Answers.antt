use Rattle.facl_tools.proofs.tested.test.Goals as goal

pub listed-listed-requires : goal.listed-listed-requires
listed-listed-requires c = c.requires c.in_ok-staged.staged.state c.in_ok-staged.ensures.prepares.made
