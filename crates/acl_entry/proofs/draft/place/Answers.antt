use Rattle.std.proofs.Common.{rules}
use Rattle.std.proofs.lemmas.List.Sorted.{answers_always}
use Rattle.acl_entry.proofs.Placed.{searched, search_by}
use Rattle.acl_entry.proofs.KeyLaws.{derived_cmp}
use Rattle.acl_entry.proofs.draft.place.Goals as goal

-- the closure gives an entry's key
pub returns : goal.returns
returns c =
    let facts = c.binary_search_by_key.ensures in
    let by_key = facts.position (λ entry. entry.key) (answers_always _ _ _ (λ f a r g called. search rules)) in
    let two = searched c.args.entries.now c.requires c.args.key.now _ facts.bound (search_by _ derived_cmp _ _ _ by_key) in
    record { found = two.found; absent = two.absent; id = c.id-id.ensures.bound }
