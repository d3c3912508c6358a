use Rattle.std.proofs.Common.{subst, sym}
use Rattle.facl_tools.specs.Replies.{Replies}
use Rattle.facl.specs.Below.{shown_answered}
use Rattle.facl.proofs.tools.below.answer.Goals as goal

pub returns-in-Counts : goal.returns-in-Counts
returns-in-Counts g c =
    subst (λ shown. Replies c.args.indexed.now c.answer_counts.result (shown_answered g.J.Judge.verdict_of c.args.indexed.now c.args.line shown)) (sym c.in-Counts.is) c.answer_counts.ensures

pub returns-in-Listed : goal.returns-in-Listed
returns-in-Listed g c =
    subst (λ shown. Replies c.args.indexed.now c.answer_listed.result (shown_answered g.J.Judge.verdict_of c.args.indexed.now c.args.line shown)) (sym c.in-Listed.is) c.answer_listed.ensures

pub returns-in-Folders : goal.returns-in-Folders
returns-in-Folders g c =
    subst (λ shown. Replies c.args.indexed.now c.answer_folders.result (shown_answered g.J.Judge.verdict_of c.args.indexed.now c.args.line shown)) (sym c.in-Folders.is) c.answer_folders.ensures
