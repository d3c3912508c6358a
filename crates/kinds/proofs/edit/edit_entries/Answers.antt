use Rattle.std.proofs.Common.{map, take, drop, suc, sym, ap, subst, ◌∙◌}
use Rattle.std.proofs.lemmas.Result.{err_from_is_err_and}
use Rattle.path_map.specs.Entries.{seen}
use Rattle.kinds.specs.Kinds.{IsNode}
use Rattle.kinds.specs.Numbered.{Numbers, entries_by}
use Rattle.kinds.specs.Memo.{edit_each, AreEdited}
use Rattle.kinds.proofs.EntriesBy.{item_used, items_more, items_cut}
use Rattle.kinds.proofs.Edited.{fails_at}
use Rattle.kinds.proofs.Stopped.{stops_too}
use Rattle.kinds.proofs.edit.edit_entries.Goals as goal

pub edit_entry-requires : goal.edit_entry-requires
edit_entry-requires g c =
    let used = item_used seen c.args.kinds c.args.entries.now c.loop-entry.entry-index c.entry-item.result c.requires c.loop-entry-test.true c.entry-item.is in
    (used.0, c.loop-entry.invariant.extends c.entry-item.result.1 used.0 used.1)

pub loop-entry-preserved : goal.loop-entry-preserved
loop-entry-preserved g c =
    let edit = g.E.KindEdit.edited c.args.edit.now in
    let i = c.loop-entry.entry-index in
    let x = c.entry-item.result in
    let done : Numbers = map seen (take i c.args.entries.now) in
    let used : IsNode c.args.kinds x.1 = item_used seen c.args.kinds c.args.entries.now i x c.requires c.loop-entry-test.true c.entry-item.is in
    subst (λ (ns : Numbers). AreEdited edit c.args.kinds ns c.in_ok-kinds.kinds c.edit_entry.new.memo.met.items (map seen c.edit_entry.new.puts.items))
    (sym (items_more seen c.args.entries.now i x c.loop-entry-test.true c.entry-item.is))
    (c.in_ok-kinds.ensures.made c.args.kinds done used c.loop-entry.invariant)

pub returns-in_err-kinds-clause-reported : goal.returns-in_err-kinds-clause-reported
returns-in_err-kinds-clause-reported g c =
    let edit = g.E.KindEdit.edited c.args.edit.now in
    let i = c.loop-entry.entry-index in
    let x = c.entry-item.result in
    let done : Numbers = map seen (take i c.args.entries.now) in
    let used : IsNode c.args.kinds x.1 = item_used seen c.args.kinds c.args.entries.now i x c.requires c.loop-entry-test.true c.entry-item.is in
    let p = err_from_is_err_and c.from_residual-in_err-kinds.result c.from_residual-in_err-kinds.ensures.1 in
    rw (p.1, p.2) (stops_too c.in_err-kinds.field-0.0 _ _ (λ fault fails.
    ap (λ (ns : Numbers). edit_each edit (entries_by c.args.kinds ns)) (items_cut seen c.args.entries.now i x c.loop-entry-test.true c.entry-item.is)
    ∙ fails_at edit c.args.kinds c.loop-entry.kinds done (map seen (drop (suc i) c.args.entries.now)) _ _ (seen x) fault c.loop-entry.invariant used fails) c.in_err-kinds.ensures.reported)
