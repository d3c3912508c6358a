use Rattle.std.proofs.Common.{◌≡◌, ◌+◌, ◌++◌, [], ◌∷◌, ℕ, map, take, sym, ap, subst}
use Rattle.std.proofs.lemmas.List.{take_all}
use Rattle.acl_names.specs.Paths.{PathOf}
use Rattle.path_map.specs.Entries.{seen}
use Rattle.kinds.specs.Kinds.{IsNode}
use Rattle.kinds.specs.Numbered.{Numbers}
use Rattle.kinds.specs.Counted.{CountsBut}
use Rattle.kinds.proofs.EntriesBy.{items_more}
use Rattle.kinds.proofs.PlacedNodes.{all_item}
use Rattle.kinds.proofs.ByNumber.{counts_more, counts_all}
use Rattle.kinds.proofs.counted.count_runs.Goals as goal

pub loop-entry-preserved : goal.loop-entry-preserved
loop-entry-preserved g c =
    let i = c.loop-entry.entry-index in
    let k0 = c.args.kinds in
    let entries = c.args.entries.now in
    let e : PathOf × ℕ = seen c.entry-item.result in
    let was = c.loop-entry.numbering in
    let new = c.in_ok-numbering.numbering in
    let more : map seen (take (i + 1) entries) ≡ map seen (take i entries) ++ e ∷ [] = items_more seen entries i c.entry-item.result c.loop-entry-test.true c.entry-item.is in
    let there : IsNode k0 e.1 = all_item seen (λ e. IsNode k0 e.1) entries i c.entry-item.result c.requires c.loop-entry-test.true c.entry-item.is in
    subst (λ (es : Numbers). CountsBut k0 es new.kinds new.last new.pending) (sym more)
    (subst (λ at. CountsBut k0 (map seen (take i entries) ++ e ∷ []) new.kinds at new.pending) (sym c.in_ok-numbering.ensures.last)
    (counts_more k0 was.kinds new.kinds (map seen (take i entries)) e was.last was.pending new.pending c.loop-entry.invariant there c.in_ok-numbering.ensures.run))

pub returns : goal.returns
returns g c =
    let i = c.loop-entry.entry-index in
    let was = c.loop-entry.numbering in
    let all : map (seen {V = ℕ}) (take i c.args.entries.now) ≡ map seen c.args.entries.now = ap (map seen) (take_all i c.args.entries.now c.loop-entry-test.false) in
    counts_all c.args.kinds was.kinds c.in_ok-kinds.kinds (map seen c.args.entries.now) was.last was.pending
    (subst (λ (es : Numbers). CountsBut c.args.kinds es was.kinds was.last was.pending) all c.loop-entry.invariant) c.in_ok-kinds.ensures
