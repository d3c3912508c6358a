-- What the readers of the tools have in common.
use Rattle.std.specs.Prelude.{Option, option_map, false}
use Rattle.acl_entry.specs.Perms.{Perms}
use Rattle.acl_text.specs.Letters.{perms_of}
use Rattle.facl_script.specs.Forms.{Text}

-- the permissions that a word gives, without X: one digit 0 to 7, or letters, or nothing
abbrev pub permissions_of : Text → Option Perms
permissions_of word = option_map (λ spec. spec.fixed) (perms_of false word)
