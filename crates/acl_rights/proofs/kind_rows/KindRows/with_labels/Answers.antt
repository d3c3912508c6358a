use Rattle.std.proofs.Common.{◌≡◌, ◌<◌, ◌++◌, List, map, length, sym, ap, subst, ◌∙◌, arith}
use Rattle.std.specs.Borrow.{Bor}
use Rattle.acl_names.specs.Paths.{PathOf}
use Rattle.path_map.specs.Entries.{seen}
use Rattle.path_map.specs.Merged.{put_all, without_all}
use Rattle.kinds.specs.Kinds.{node_at, count_at}
use Rattle.kinds.specs.Numbered.{Kept, AreSound, entries_in}
use Rattle.kinds.specs.Given.{used_at}
use Rattle.kinds.specs.Tagged.{numbers_found}
use Rattle.path_classes.specs.declared.label_row.LabelRow.{LabelRow}
use Rattle.path_classes.specs.ClassedRows.{AreCounted, paths_of}
use Rattle.path_classes.specs.ClassesWithin.{inside}
use Rattle.acl_entry.specs.declared.label.Label.{Label}
use Rattle.path_classes.specs.KindRows.{RowedPaths}
use Rattle.acl_rights.specs.KindRows.{with_label, rowed_labels, AreRowsOf, PutsLabels}
use Rattle.acl_rights.proofs.RowsOfKinds.{rows_left}
use Rattle.acl_rights.proofs.Orders.{same_order}
use Rattle.acl_rights.proofs.PutRows.{puts_rows, inside_entries, label_paths, none_of}
use Rattle.acl_rights.proofs.kind_rows.KindRows.with_labels.Goals as goal

pub put_labels-requires-clause-known : goal.put_labels-requires-clause-known
put_labels-requires-clause-known g c =
    let V = g.J.Judge.verdict_of in
    let us = c.args.users.now in
    let left : entries_in c.in_ok-left.left ≡ without_all (map seen c.args.gone.now) (entries_in c.args.self.now.rows) =
    c.in_ok-left.ensures.entries ∙ ap (λ (kept : Kept LabelRow). without_all (map seen c.args.gone.now) (entries_in kept)) (c.map.ensures ∙ c.rows-before.ensures) in
    subst (λ (es : RowedPaths). AreRowsOf V us es) (sym left) (rows_left V us (map seen c.args.gone.now) (entries_in c.args.self.now.rows) c.requires.known)

pub returns-clause-rows : goal.returns-clause-rows
returns-clause-rows g c =
    let puts = rowed_labels g.J.Judge.verdict_of c.args.users.now (map with_label c.args.changed.now) in
    let left : entries_in c.in_ok-left.left ≡ without_all (map seen c.args.gone.now) (entries_in c.args.self.now.rows) =
    c.in_ok-left.ensures.entries ∙ ap (λ (kept : Kept LabelRow). without_all (map seen c.args.gone.now) (entries_in kept)) (c.map.ensures ∙ c.rows-before.ensures) in
    ap (λ (kept : Kept LabelRow). entries_in kept) (c.in_ok-rows.ensures.rows ∙ c.in_ok-labelled.ensures)
    ∙ c.in_ok-put.ensures.rows
    ∙ ap (λ (es : RowedPaths). put_all puts es) left

pub after-requires : goal.after-requires
after-requires g c n h =
    let numbers = c.in_ok-put.put.numbers.items in
    let gone = numbers_found c.in_ok-left.gone_found.items in
    let all : c.push_found.new.new.items ≡ numbers ++ gone = c.in_ok-push_found.ensures ∙ ap (λ os. numbers ++ numbers_found os) c.deref.ensures.value in
    let none = none_of n numbers gone c.push_found.new.new.items all h in
    c.in_ok-put.ensures.same n none.0
    ∙ c.in_ok-left.ensures.same n none.1
    ∙ ap (λ (kept : Kept LabelRow). used_at kept.0 n) c.map.ensures

pub with_files-requires-clause-changed : goal.with_files-requires-clause-changed
with_files-requires-clause-changed g c =
    same_order (map (seen {V = Bor Label}) c.args.changed.now) (map with_label c.args.changed.now) (label_paths c.args.changed.now) c.requires.changed

pub with_files-requires-clause-puts : goal.with_files-requires-clause-puts
with_files-requires-clause-puts g c =
    let old : Kept LabelRow = c.args.self.now.rows in
    let left : Kept LabelRow = c.in_ok-left.left in
    let new : Kept LabelRow = c.in_ok-labelled.labelled in
    let map_is = c.in_ok-labelled.ensures in
    let before_is = c.map.ensures ∙ c.rows-before.ensures in
    let put : PutsLabels left (map with_label c.args.changed.now) c.in_ok-put.put.map = c.in_ok-put.ensures.puts in
    let paths = put.paths ∙ sym (label_paths c.args.changed.now) in
    let order = same_order put.puts (map with_label c.args.changed.now) put.paths c.requires.changed in
    puts_rows old left new (map seen c.args.changed.now) (map seen c.args.gone.now) put.puts order paths
    c.kinds-left.ensures.sound
    (subst (λ (k : Kept LabelRow). AreSound k.0 k.1) c.map-3.ensures c.kinds-kinds.ensures.sound)
    (c.in_ok-left.ensures.numbers ∙ ap (λ (k : Kept LabelRow). without_all (map seen c.args.gone.now) k.1) before_is)
    (ap (λ (k : Kept LabelRow). k.1) map_is ∙ put.numbers)
    (λ n some. c.in_ok-left.ensures.nodes n some ∙ ap (λ (k : Kept LabelRow). node_at k.0 n) before_is)
    (λ n x is some. ap (λ (k : Kept LabelRow). node_at k.0 n) map_is ∙ put.nodes n x is (subst (λ (k : Kept LabelRow). 0 < count_at k.0 n) map_is some))

pub returns-clause-least : goal.returns-clause-least
returns-clause-least g c = subst (λ (k : Kept LabelRow). AreCounted c.args.self.now.rows k c.in_ok-rows.refreshed) (sym c.in_ok-rows.ensures.rows) c.in_ok-rows.ensures.least

pub returns-clause-most : goal.returns-clause-most
returns-clause-most g c =
    let new : Kept LabelRow = c.in_ok-labelled.labelled in
    let tops : List PathOf = paths_of (map (seen {V = Bor Label}) c.args.changed.now) ++ paths_of (map seen c.args.gone.now) in
    let sound : AreSound new.0 new.1 = subst (λ (k : Kept LabelRow). AreSound k.0 k.1) c.map-3.ensures c.kinds-kinds.ensures.sound in
    let long = inside_entries tops new.0 new.1 sound.used in
    let labelled : List PathOf = paths_of (map with_label c.args.changed.now) ++ paths_of (map seen c.args.gone.now) in
    let turned : length (inside tops (entries_in new)) ≡ length (inside labelled (entries_in c.in_ok-rows.rows)) =
    λ i. length (inside (label_paths c.args.changed.now i ++ paths_of (map seen c.args.gone.now)) (entries_in (sym c.in_ok-rows.ensures.rows i))) in
    omega (arith, c.in_ok-rows.ensures.most, long, turned)
