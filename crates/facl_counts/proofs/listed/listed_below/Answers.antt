use Rattle.std.proofs.Common.{◌≡◌, subst, sym, ap, take, ◌∙◌}
use Rattle.std.proofs.lemmas.List.{take_all}
use Rattle.path_classes.specs.ClassesWithin.{paths_seen, inside}
use Rattle.acl_tree.specs.Files.{Files, Recorded}
use Rattle.acl_tree.specs.State.{State}
use Rattle.path_map.specs.Below.{within}
use Rattle.path_map.specs.Entries.{IsInOrder}
use Rattle.facl_counts.specs.Listed.{listed_in}
use Rattle.facl_counts.proofs.FirstListed.{listed_two, none_of}
use Rattle.facl_counts.proofs.OperandTops.{none_inside, one_inside}
use Rattle.facl_counts.proofs.listed.listed_below.Goals as goal

pub loop-top-init : goal.loop-top-init
loop-top-init g c =
    let given = c.args.verdicts.now in
    let l = c.args.listing.now in
    c.new-found.ensures.items ∙ sym (none_of l.most)
    ∙ sym (ap (λ (es : Files). take l.most (listed_in g.J.Judge.verdict_of given.along given.state.now l es)) (none_inside c.args.tops.now given.state.now.tree.files))

pub loop-top-preserved : goal.loop-top-preserved
loop-top-preserved g c =
    let V = g.J.Judge.verdict_of in
    let given = c.args.verdicts.now in
    let s = given.state.now in
    let l = c.args.listing.now in
    let before : Files = inside (paths_seen (take c.loop-top.top-index c.args.tops.now)) s.tree.files in
    let here : Files = within c.top-item.result.now s.tree.files in
    let order = subst (λ (t : Recorded). IsInOrder t.files) (c.tree.ensures ∙ ap (λ (known : State). known.tree) c.state.ensures) c.soundness_law.ensures.order in
    c.in_ok-collect_below.ensures (listed_in V given.along s l before) c.loop-top.invariant
    ∙ ap (take l.most) (sym (listed_two V given.along s l before here))
    ∙ ap (λ (es : Files). take l.most (listed_in V given.along s l es))
    (one_inside c.args.tops.now c.loop-top.top-index c.top-item.result c.loop-top-test.true c.top-item.is c.requires s.tree.files order)

pub returns : goal.returns
returns g c =
    let given = c.args.verdicts.now in
    let l = c.args.listing.now in
    subst (λ tops. c.loop-top.found.items ≡ take l.most (listed_in g.J.Judge.verdict_of given.along given.state.now l (inside (paths_seen tops) given.state.now.tree.files)))
    (take_all c.loop-top.top-index c.args.tops.now c.loop-top-test.false) c.loop-top.invariant
