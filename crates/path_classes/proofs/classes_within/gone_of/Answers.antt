use Rattle.std.proofs.Common.{List, ℕ, Option, map, ap, ◌∙◌, not, filter, get_or, arith}
use Rattle.std.proofs.lemmas.List.{take_all}
use Rattle.path_map.specs.Entries.{seen}
use Rattle.path_map.specs.Merged.{has}
use Rattle.path_classes.proofs.PutWithin.{gone_next}
use Rattle.path_classes.proofs.SameReach.{found_at}
use Rattle.path_classes.proofs.classes_within.gone_of.Goals as goal

pub loop-at-preserved : goal.loop-at-preserved
loop-at-preserved c =
    c.in_ok-push_unless.ensures
    ∙ gone_next c.args.others.now c.args.files.now c.loop-at.at c.index-files-at.result c.index.result.now c.loop-at-test.true c.index-files-at.is
    (found_at c.args.files.now c.args.others.now c.loop-at.at c.index-files-at.result c.index.result.now c.loop-at-test.true c.index-files-at.is
    (c.index.ensures ∙ ap (λ (os : List (Option ℕ)). get_or os c.loop-at.at c.index.result.now) c.in_ok-found.ensures))
    (map seen c.loop-at.gone.items) c.loop-at.invariant

pub returns : goal.returns
returns c =
    c.loop-at.invariant
    ∙ ap (λ es. filter (λ e. not (has e.0 c.args.others.now)) (map seen es)) (take_all c.loop-at.at c.args.files.now (omega arith))
