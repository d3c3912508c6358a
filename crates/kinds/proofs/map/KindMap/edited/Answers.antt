use Rattle.std.proofs.Common.{◌≡◌, List, Ok, map, sym, ap, subst, ◌∙◌}
use Rattle.std.specs.List.{AllByRecursion}
use Rattle.path_map.specs.Entries.{IsInOrder, seen}
use Rattle.path_map.specs.Changed.{with_values}
use Rattle.path_map.specs.Merged.{put_all}
use Rattle.kinds.specs.declared.memo.Met.{Met}
use Rattle.kinds.specs.Kinds.{KindsOf, IsNode}
use Rattle.kinds.specs.Numbered.{Numbers, Kept, entries_by, AreUsed, AreSound}
use Rattle.kinds.specs.Memo.{AreEdited, ArePut, Moves}
use Rattle.kinds.proofs.Counts.{sorted_paths}
use Rattle.kinds.proofs.Chosen.{among_used}
use Rattle.kinds.proofs.Settled.{met_used, sound_after, edits_are, numbers_after, are_put}
use Rattle.kinds.proofs.map.KindMap.edited.Goals as goal

pub edit_entries-requires : goal.edit_entries-requires
edit_entries-requires g c =
    subst (λ (k : KindsOf g.row.N.Denot). AreUsed k (map seen c.args.entries.now)) (sym (c.in_ok-share.ensures ∙ c.kinds.ensures.all))
    (among_used c.args.self.now.0 c.args.self.now.1 (map seen c.args.entries.now) c.kinds.ensures.sound.used c.requires.among)

pub with_values-requires : goal.with_values-requires
with_values-requires g c =
    subst (λ (l : Numbers). IsInOrder l) (sym (ap (map seen) c.deref-2.ensures.value))
    (sorted_paths (map seen c.in_ok-edited.edited.puts.items) (map seen c.args.entries.now) c.in_ok-edited.ensures.made.paths ∙ c.requires.order)

pub settle-requires : goal.settle-requires
settle-requires g c =
    let e = c.in_ok-edited.edited in
    subst (λ (ms : List Met). AllByRecursion (λ m. IsNode e.kinds m.new) ms) (sym c.deref.ensures.value)
    (met_used (g.E.KindEdit.edited c.args.edit.now) c.in_ok-share.field-0 e.kinds e.memo.met.items c.in_ok-edited.ensures.made.known)

pub of-requires : goal.of-requires
of-requires g c =
    let e = c.in_ok-edited.edited in
    let k0 = c.args.self.now.0 in
    let ns = c.args.self.now.1 in
    let done : Numbers = map seen c.args.entries.now in
    let puts : Numbers = map seen e.puts.items in
    let edit = g.E.KindEdit.edited c.args.edit.now in
    let made : AreEdited edit k0 done e.kinds e.memo.met.items puts =
    subst (λ (k : KindsOf g.row.N.Denot). AreEdited edit k done e.kinds e.memo.met.items puts) (c.in_ok-share.ensures ∙ c.kinds.ensures.all) c.in_ok-edited.ensures.made in
    let moves : Moves e.kinds e.memo.met.items c.in_ok-kinds.kinds = subst (λ (ms : List Met). Moves e.kinds ms c.in_ok-kinds.kinds) c.deref.ensures.value c.in_ok-kinds.ensures in
    let numbers : c.in_ok-numbers.numbers ≡ put_all puts ns =
    c.in_ok-numbers.ensures ∙ (λ i. with_values (map seen (c.deref-2.ensures.value i)) (c.numbers.ensures.all i))
    ∙ numbers_after edit k0 e.kinds c.in_ok-kinds.kinds ns done puts e.memo.met.items c.kinds.ensures.sound c.requires.order c.requires.among made moves
    in
    subst (λ (l : Numbers). AreSound c.in_ok-kinds.kinds l) (sym numbers)
    (sound_after edit k0 e.kinds c.in_ok-kinds.kinds ns done puts e.memo.met.items c.kinds.ensures.sound c.requires.order c.requires.among made moves)

pub returns-clause-made : goal.returns-clause-made
returns-clause-made g c =
    let e = c.in_ok-edited.edited in
    let k0 = c.args.self.now.0 in
    let ns = c.args.self.now.1 in
    let done : Numbers = map seen c.args.entries.now in
    let puts : Numbers = map seen e.puts.items in
    let edit = g.E.KindEdit.edited c.args.edit.now in
    let made : AreEdited edit k0 done e.kinds e.memo.met.items puts =
    subst (λ (k : KindsOf g.row.N.Denot). AreEdited edit k done e.kinds e.memo.met.items puts) (c.in_ok-share.ensures ∙ c.kinds.ensures.all) c.in_ok-edited.ensures.made in
    let moves : Moves e.kinds e.memo.met.items c.in_ok-kinds.kinds = subst (λ (ms : List Met). Moves e.kinds ms c.in_ok-kinds.kinds) c.deref.ensures.value c.in_ok-kinds.ensures in
    edits_are edit k0 e.kinds c.in_ok-kinds.kinds ns done puts e.memo.met.items c.kinds.ensures.sound c.requires.order c.requires.among made moves
    ∙ ap (λ (m : Kept g.row.N.Denot). Ok (entries_by m.0 puts)) (sym c.in_ok-map.ensures)

pub returns-clause-put : goal.returns-clause-put
returns-clause-put g c =
    let e = c.in_ok-edited.edited in
    let k0 = c.args.self.now.0 in
    let ns = c.args.self.now.1 in
    let done : Numbers = map seen c.args.entries.now in
    let puts : Numbers = map seen e.puts.items in
    let edit = g.E.KindEdit.edited c.args.edit.now in
    let made : AreEdited edit k0 done e.kinds e.memo.met.items puts =
    subst (λ (k : KindsOf g.row.N.Denot). AreEdited edit k done e.kinds e.memo.met.items puts) (c.in_ok-share.ensures ∙ c.kinds.ensures.all) c.in_ok-edited.ensures.made in
    let moves : Moves e.kinds e.memo.met.items c.in_ok-kinds.kinds = subst (λ (ms : List Met). Moves e.kinds ms c.in_ok-kinds.kinds) c.deref.ensures.value c.in_ok-kinds.ensures in
    let numbers : c.in_ok-numbers.numbers ≡ put_all puts ns =
    c.in_ok-numbers.ensures ∙ (λ i. with_values (map seen (c.deref-2.ensures.value i)) (c.numbers.ensures.all i))
    ∙ numbers_after edit k0 e.kinds c.in_ok-kinds.kinds ns done puts e.memo.met.items c.kinds.ensures.sound c.requires.order c.requires.among made moves
    in
    subst (λ (m : Kept g.row.N.Denot). ArePut c.args.self.now m puts) (sym (c.in_ok-map.ensures ∙ ap (λ (l : Numbers). let m : Kept g.row.N.Denot = (c.in_ok-kinds.kinds, l) in m) numbers))
    (are_put edit k0 e.kinds c.in_ok-kinds.kinds ns done puts e.memo.met.items c.kinds.ensures.sound c.requires.order c.requires.among made moves)
