use Rattle.std.proofs.Common.{◌≡◌, ◌+◌, ◌++◌, [], ◌∷◌, ℕ, map, take, sym, subst}
use Rattle.acl_names.specs.Paths.{PathOf}
use Rattle.path_map.specs.Entries.{seen}
use Rattle.kinds.specs.Numbered.{Numbers}
use Rattle.kinds.specs.Counted.{CountsPaths}
use Rattle.kinds.proofs.EntriesBy.{items_more}
use Rattle.kinds.proofs.ByNumber.{paths_one_more}
use Rattle.kinds.proofs.counted.counts_of.Goals as goal

pub loop-entry-preserved : goal.loop-entry-preserved
loop-entry-preserved c =
    let i = c.loop-entry.entry-index in
    let entries = c.args.entries.now in
    let e : PathOf × ℕ = seen c.entry-item.result in
    let more : map seen (take (i + 1) entries) ≡ map seen (take i entries) ++ e ∷ [] = items_more seen entries i c.entry-item.result c.loop-entry-test.true c.entry-item.is in
    subst (λ (es : Numbers). CountsPaths c.args.numbers es c.count_one.new.counts.items) (sym more)
    (paths_one_more c.args.numbers (map seen (take i entries)) e c.loop-entry.counts.items c.count_one.new.counts.items c.loop-entry.invariant c.in_ok-count_one.ensures)
