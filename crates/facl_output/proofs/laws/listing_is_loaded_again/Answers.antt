use Rattle.facl_output.proofs.Reloaded.{all_paths_loaded, root_loaded}
use Rattle.facl_output.proofs.laws.listing_is_loaded_again.Goals as goal

pub returns-clause-all_paths : goal.returns-clause-all_paths
returns-clause-all_paths c =
    let sound = c.soundness_law.ensures in
    all_paths_loaded c.args.people.now c.args.tree.now.files sound.order sound.placed c.files_are_read_again.ensures sound.few

pub returns-clause-from_root : goal.returns-clause-from_root
returns-clause-from_root c =
    let sound = c.soundness_law.ensures in
    root_loaded c.args.people.now c.args.tree.now.files sound.order sound.placed c.files_are_read_again.ensures sound.few
