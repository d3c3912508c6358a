use Rattle.std.proofs.Common.{◌≡◌, ◌++◌, ◌∷◌, [], sym, ap, subst, ◌∙◌, append_assoc}
use Rattle.path_map.specs.Entries.{seen, IsInOrder}
use Rattle.kinds.specs.Kinds.{IsNode, node_at}
use Rattle.acl_edit.specs.declared.node.Node.{Node}
use Rattle.kinds.specs.Numbered.{Numbers, Kept, entries_by, AreUsed}
use Rattle.kinds.proofs.Chosen.{entries_filter, used_filter}
use Rattle.kinds.proofs.EntriesBy.{entry_first}
use Rattle.acl_tree.specs.Files.{Files}
use Rattle.acl_tree.specs.Found.{found_in, found_file}
use Rattle.acl_tree.specs.Operands.{in_region, files_meant}
use Rattle.path_map.specs.Below.{holds_below}
use Rattle.acl_tree.proofs.Selected.{below_peeked, below_by_next}
use Rattle.acl_tree.proofs.selection.files_in.Goals as goal

pub loop-entry-init : goal.loop-entry-init
loop-entry-init c =
    let kept : Kept Node = c.files_by_path-files.result.now in
    let region = c.args.region.now in
    let rest : c.walk-walk.result.1 ≡ kept.1 = ap (λ (w : Numbers × Numbers). w.1) c.walk-walk.ensures ∙ c.numbers.ensures.all in
    let walk : c.walk-walk.result.0 ≡ files_meant region.0 region.1 kept.1 = ap (λ (w : Numbers × Numbers). w.0) c.walk-walk.ensures
    ∙ ap (λ (ns : Numbers). files_meant region.0 region.1 ns) c.numbers.ensures.all in
    record {
      end = record { before = []; joined = rest };
      used = subst (λ (ns : Numbers). AreUsed kept.0 ns) (sym walk) (used_filter kept.0 (in_region region) kept.1 c.numbers.ensures.sound.used);
      all =
          ap (λ l. l ++ found_in c.args.tree.now.files (entries_by kept.0 c.walk-walk.result.0)) c.new-found.ensures.items
          ∙ ap (found_in c.args.tree.now.files)
          (ap (entries_by kept.0) walk
          ∙ entries_filter kept.0 (in_region region) kept.1 c.numbers.ensures.sound.used
          ∙ ap (λ (es : Files). files_meant region.0 region.1 es) c.files_by_path-files.ensures.all);
    }

pub node-node-requires : goal.node-node-requires
node-node-requires c =
    let kept : Kept Node = c.files_by_path-files.result.now in
    let used = subst (λ (ns : Numbers). AreUsed kept.0 ns) c.in-Some.ensures.0 c.loop-entry.invariant.used in
    subst (λ k. IsNode k c.in-Some.entry.1) (sym c.kinds.ensures.all) used.0

pub loop-entry-preserved : goal.loop-entry-preserved
loop-entry-preserved c =
    let kept : Kept Node = c.files_by_path-files.result.now in
    let t : Files = c.args.tree.now.files in
    let e = seen c.in-Some.entry in
    let n : Node = c.node-node.result.now in
    let more : Numbers = c.next.new.self.0 in
    let used = subst (λ (ns : Numbers). AreUsed kept.0 ns) c.in-Some.ensures.0 c.loop-entry.invariant.used in
    let taken = c.in-Some.ensures.1 in
    let at = ap (λ k. node_at k e.1) (sym c.kinds.ensures.all) ∙ c.node-node.ensures in
    let end = c.loop-entry.invariant.end in
    let whole : kept.1 ≡ (end.before ++ taken.before) ++ e ∷ c.next.new.self.1 =
    sym end.joined ∙ ap (λ (l : Numbers). end.before ++ l) taken.joined ∙ sym (append_assoc end.before taken.before (e ∷ c.next.new.self.1))
    in
    let sound = c.numbers.ensures.sound in
    let order : IsInOrder (entries_by kept.0 kept.1) = subst IsInOrder (sym c.files_by_path-files.ensures.all) c.files_by_path-files.ensures.sound.order in
    let below : c.is_below-has_below.result ≡ holds_below t e.0 =
    c.is_below-has_below.ensures
    ∙ below_peeked (λ p. p.now) e.0 c.next.new.self.1 c.next_path.result c.next_path.ensures
    ∙ below_by_next kept.0 kept.1 (end.before ++ taken.before) c.next.new.self.1 e n order sound.used at whole
    ∙ ap (λ (es : Files). holds_below es e.0) c.files_by_path-files.ensures.all
    in
    let first : entries_by kept.0 c.loop-entry.walk.0 ≡ (e.0, n) ∷ entries_by kept.0 more = ap (entries_by kept.0) c.in-Some.ensures.0 ∙ entry_first kept.0 e more n at in
    record {
      end = record { before = (end.before ++ taken.before) ++ e ∷ []; joined = append_assoc (end.before ++ taken.before) (e ∷ []) c.next.new.self.1 ∙ sym whole };
      used = used.1;
      all =
          ap (λ l. l ++ found_in t (entries_by kept.0 more)) (c.in_ok-push.ensures.items ∙ ap (λ f. c.loop-entry.found.items ++ f ∷ []) (c.new.ensures ∙ ap (λ b. found_file b (e.0, n)) below))
          ∙ append_assoc c.loop-entry.found.items (found_file (holds_below t e.0) (e.0, n) ∷ []) (found_in t (entries_by kept.0 more))
          ∙ ap (λ es. c.loop-entry.found.items ++ found_in t es) (sym first)
          ∙ c.loop-entry.invariant.all;
    }
