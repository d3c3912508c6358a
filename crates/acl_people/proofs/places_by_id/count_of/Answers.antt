use Rattle.std.proofs.Common.{◌≡◌, get_or}
use Rattle.std.proofs.lemmas.Bool.{eqb-true}
use Rattle.std.proofs.lemmas.List.Elements.{All-more}
use Rattle.acl_people.proofs.Lists.{true_if_not_not}
use Rattle.acl_people.proofs.places_by_id.count_of.Goals as goal

pub loop-at-preserved : goal.loop-at-preserved
loop-at-preserved c =
    let note = c.index-notes-at.result in
    let same = eqb-true (get_or c.args.notes.now c.loop-at.at note).id c.args.id (true_if_not_not _ c.if-ne.ensures) in
    All-more (λ n. n.id ≡ c.args.id) c.args.notes.now c.loop-at.at note c.loop-at-test.true c.loop-at.invariant same
