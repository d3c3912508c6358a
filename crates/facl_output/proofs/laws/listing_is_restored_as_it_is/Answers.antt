use Rattle.acl_text.specs.declared.record.DumpUse.TheVariants.{Restore}
use Rattle.acl_people.specs.KnownPeople.{naming_of}
use Rattle.acl_tree.specs.Operands.{files_meant}
use Rattle.acl_tree.specs.State.{State, state_from}
use Rattle.facl_output.proofs.Reloaded.{records_of}
use Rattle.facl_output.proofs.RestoredRoundTrips.{restored_again}
use Rattle.facl_output.proofs.laws.listing_is_restored_as_it_is.Goals as goal

pub returns : goal.returns
returns c = λ recursive paths.
    let known = c.args.people.now in
    let state : State = state_from c.args.tree.now known in
    let all = c.args.tree.now.files in
    restored_again state recursive paths c.soundness_law.ensures.order c.files_are_read_again.ensures
    (c.records_are_read_again.ensures (naming_of known) Restore (records_of all (files_meant recursive paths all)))
    (λ records. c.restore_of_what_is_changes_nothing.ensures records state c.soundness_law.ensures)
