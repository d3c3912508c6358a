use Rattle.std.proofs.Common.{◌∙◌, ap, ◌≡◌, arith}
use Rattle.std.proofs.lemmas.Grind.{common_steps}
use Rattle.acl_text.specs.Attr.{attr_bytes, attr_of}
use Rattle.acl_text.proofs.EntryRoundTrips.{attr_again}
use Rattle.acl_text.proofs.encode.encode_attr.Goals as goal

pub returns-clause-read_again : goal.returns-clause-read_again
returns-clause-read_again c =
    let is : c.push_entries.new.bytes.items ≡ attr_bytes c.args.acl.now = grind (arith, common_steps) in
    ap attr_of is ∙ attr_again c.args.acl.now c.entries.ensures.valid (rw c.entries.ensures.all at c.entries.ensures.ids)
