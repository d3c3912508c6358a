use Rattle.std.proofs.Common.{◌<◌, ℕ, None, get_or, length, Ok, ap, subst, sym, ◌∙◌}
use Rattle.kinds.specs.Given.{shared_nodes}
use Rattle.kinds.specs.Numbered.{Numbers, Kept, entries_by}
use Rattle.kinds.specs.Memo.{EditsUsed, ArePut}
use Rattle.kinds.proofs.WholeEdits.{edited_have, edited_each, whole_put}
use Rattle.kinds.proofs.map.KindMap.edited_all.Goals as goal

pub with_nodes-requires-clause-used : goal.with_nodes-requires-clause-used
with_nodes-requires-clause-used g c =
    let edit = g.E.KindEdit.edited c.args.edit.now in
    let k = c.args.self.now.0 in
    let each : (n : ℕ) → n < length k.0 → EditsUsed edit k n (get_or (shared_nodes c.deref.result.now) n None) =
    λ n. subst (λ l. n < length k.0 → EditsUsed edit k n (get_or (shared_nodes l) n None)) (sym c.deref.ensures.value) (c.in_ok-nodes.ensures.each n) in
    edited_have edit k (shared_nodes c.deref.result.now) each c.args.self.now.1 c.kinds-sound.ensures.sound

pub returns-clause-made : goal.returns-clause-made
returns-clause-made g c =
    let edit = g.E.KindEdit.edited c.args.edit.now in
    let k = c.args.self.now.0 in
    let new : Kept g.row.N.Denot = c.in_ok-map.map in
    let each : (n : ℕ) → n < length k.0 → EditsUsed edit k n (get_or (shared_nodes c.deref.result.now) n None) =
    λ n. subst (λ l. n < length k.0 → EditsUsed edit k n (get_or (shared_nodes l) n None)) (sym c.deref.ensures.value) (c.in_ok-nodes.ensures.each n) in
    edited_each edit k (shared_nodes c.deref.result.now) each c.args.self.now.1 c.kinds-sound.ensures.sound ∙ ap Ok (sym c.in_ok-map.ensures.entries)
    ∙ ap (λ (l : Numbers). Ok (entries_by new.0 l)) c.in_ok-map.ensures.paths

pub returns-clause-put : goal.returns-clause-put
returns-clause-put g c =
    let old : Kept g.row.N.Denot = c.args.self.now in
    let new : Kept g.row.N.Denot = c.in_ok-map.map in
    subst (ArePut old new) c.in_ok-map.ensures.paths (whole_put old new c.kinds-sound.ensures.sound c.kinds-sound_after.ensures.sound c.in_ok-map.ensures.paths)
