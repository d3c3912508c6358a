use Rattle.std.proofs.Common.{◌∙◌, ap, true, false}
use Rattle.std.specs.Prelude.{option_map}
use Rattle.std.specs.List.{find, list_any}
use Rattle.facl_tools.specs.RemovedKeys.{keys_of, removes}
use Rattle.facl_tools.specs.Setfacl.{is_same_entry}
use Rattle.facl_tools.proofs.SameEntries.{find_same, removed_entry}
use Rattle.facl_tools.proofs.setfacl_entries.both_at.Goals as goal

pub returns : goal.returns
returns c =
    let keys = c.in_ok-removed.removed in
    let removed = c.args.entries.now.remove in
    let modified = c.args.entries.now.modify in
    let d = c.args.as_default in
    let access = c.in_ok-removed.ensures.access ∙ ap (keys_of false) c.as_slice.ensures in
    let dflt = c.in_ok-removed.ensures.dflt ∙ ap (keys_of true) c.as_slice.ensures in
    c.first_removed.ensures
    ∙ (ap (λ ms. option_map (λ m. m.at) (find (λ m. removes d keys m) ms)) c.as_slice-2.ensures
    ∙ ap (option_map (λ m. m.at)) (find_same (λ m. removes d keys m) (λ m. list_any (λ r. is_same_entry d m r) removed) (λ m. removed_entry d keys removed m access dflt) modified))
