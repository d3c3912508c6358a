use Rattle.acl_text.proofs.ReadBack.{attribute_of, of_attribute}
use Rattle.acl_text.proofs.attr_laws.attribute_encodes_its_entries.Goals as goal

pub returns : goal.returns
returns c = λ bytes acl. (attribute_of bytes acl, of_attribute bytes acl)
