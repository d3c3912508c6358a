-- What a walk over a map gives.
use Rattle.std.specs.Borrow.{Bor}
use Rattle.acl_names.specs.Paths.{PathOf}

-- a borrowed path with a borrowed node
abbrev pub borrowed : {N : Type 0} → Bor PathOf × Bor N → PathOf × N
borrowed e = (e.0.now, e.1.now)
