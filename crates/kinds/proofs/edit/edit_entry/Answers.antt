use Rattle.std.proofs.Common.{◌≡◌, ℕ, ◌++◌, ◌∷◌, [], List, map, sym, ap, subst, ◌∙◌}
use Rattle.std.proofs.lemmas.List.{map-append}
use Rattle.acl_names.specs.Paths.{PathOf}
use Rattle.path_map.specs.Entries.{seen}
use Rattle.kinds.specs.declared.memo.Met.{Met}
use Rattle.kinds.specs.Numbered.{Numbers}
use Rattle.kinds.specs.Memo.{EditsOneMore}
use Rattle.kinds.proofs.Edited.{met_again, met_first}
use Rattle.kinds.proofs.edit.edit_entry.Goals as goal

pub returns-in-Some-clause-made : goal.returns-in-Some-clause-made
returns-in-Some-clause-made g c =
    let edit = g.E.KindEdit.edited c.args.edit.now in
    let e : PathOf × ℕ = (c.args.item.0.now, c.args.item.1) in
    let met = c.args.memo.now.met.items in
    let puts : Numbers = map seen c.args.puts.now.items in
    let pushed : map (seen {V = ℕ}) c.put_again.new.puts.items ≡ puts ++ (c.args.item.0.now, c.in_ok-_new._new) ∷ [] =
    ap (map seen) c.in_ok-_new.ensures.put ∙ map-append seen c.args.puts.now.items ((c.args.item.0, c.in_ok-_new._new) ∷ []) in
    subst (λ (ps : Numbers). EditsOneMore edit e c.args.kinds met puts c.args.kinds c.put_again.new.memo.met.items ps) (sym pushed)
    (met_again edit e c.args.kinds met c.put_again.new.memo.met.items puts c.in-Some.at c.in_ok-_new._new c.in-Some.ensures c.in_ok-_new.ensures.counted)

pub returns-clause-made : goal.returns-clause-made
returns-clause-made g c =
    let edit = g.E.KindEdit.edited c.args.edit.now in
    let e : PathOf × ℕ = (c.args.item.0.now, c.args.item.1) in
    let met = c.args.memo.now.met.items in
    let puts : Numbers = map seen c.args.puts.now.items in
    let pushed : map (seen {V = ℕ}) c.push.new.self.items ≡ puts ++ (c.args.item.0.now, c.in_ok-kinds.new) ∷ [] =
    ap (map seen) c.in_ok-push.ensures.items ∙ map-append seen c.args.puts.now.items ((c.args.item.0, c.in_ok-kinds.new) ∷ []) in
    subst (λ (ms : List Met). EditsOneMore edit e c.args.kinds met puts c.in_ok-kinds.kinds ms (map seen c.push.new.self.items)) (sym c.in_ok-note_first.ensures)
    (subst (λ (ps : Numbers). EditsOneMore edit e c.args.kinds met puts c.in_ok-kinds.kinds (met ++ record { old = e.1; new = c.in_ok-kinds.new; count = 1 } ∷ []) ps) (sym pushed)
    (met_first edit e c.args.kinds c.in_ok-kinds.kinds met puts c.in_ok-node.node.value c.in_ok-kinds.new c.in_ok-node.ensures c.in_ok-kinds.ensures))
