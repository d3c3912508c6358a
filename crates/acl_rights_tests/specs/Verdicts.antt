-- The verdicts of a judge of the user's own, and their locality.
use Rattle.std.specs.Prelude.{◌≡◌, ℕ, ◌==◌, if◌then◌else◌}
use Rattle.std.proofs.Common.{ap}
use Rattle.acl_entry.specs.Mentions.{AgreeOnMentions}
use Rattle.acl_entry.specs.Person.{Person}
use Rattle.acl_entry.specs.declared.label.Label.{Label}

-- the owner is granted all requests, and nobody else is granted any
abbrev pub owner_alone : Person → Label → ℕ
owner_alone u f = if u.uid == f.owner then 255 else 0

pub owner_alone_local : (u w : Person) (f : Label) → AgreeOnMentions u w f → owner_alone u f ≡ owner_alone w f
owner_alone_local u w f h = ap (λ uid. if uid == f.owner then 255 else 0) h.uid
