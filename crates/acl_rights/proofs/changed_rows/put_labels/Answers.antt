use Rattle.std.proofs.Common.{◌≡◌, ℕ, ◌++◌, List, map, length, sym, ap, subst, ◌∙◌}
use Rattle.std.specs.Borrow.{Bor}
use Rattle.std.proofs.lemmas.List.{length-map}
use Rattle.acl_names.specs.Paths.{PathOf}
use Rattle.acl_entry.specs.declared.label.Label.{Label}
use Rattle.path_map.specs.Entries.{IsInOrder, seen}
use Rattle.path_map.specs.Merged.{put_all}
use Rattle.std.specs.Prelude.{get_or}
use Rattle.kinds.specs.Numbered.{Kept, entries_in}
use Rattle.kinds.specs.Placed.{placed, given, by_place, ArePlaces}
use Rattle.kinds.specs.Tagged.{numbers_found}
use Rattle.path_classes.specs.declared.label_row.LabelRow.{LabelRow}
use Rattle.path_classes.specs.KindRows.{RowedPaths}
use Rattle.path_classes.proofs.Maps.{map_twice}
use Rattle.acl_rights.specs.KindRows.{some_row, with_label, borrowed_labels, ArePlaced}
use Rattle.acl_rights.proofs.RowsOfKinds.{rows_placed, rows_given, places_within, places_order}
use Rattle.acl_rights.proofs.PutRows.{placed_paths, label_paths, none_of}
use Rattle.acl_rights.proofs.changed_rows.put_labels.Goals as goal

pub put_placed-requires-clause-order : goal.put_placed-requires-clause-order
put_placed-requires-clause-order g c =
    let ls = borrowed_labels c.in_ok-new.new.labels.items in
    let es : List (PathOf × ℕ) = map seen c.in_ok-new.new.places.items in
    let ps : List (PathOf × Label) = map with_label c.args.changed.now in
    let are : ArePlaced ps ls es = c.in_ok-new.ensures in
    subst (λ (es : List (PathOf × ℕ)). IsInOrder es) (sym (ap (map seen) c.deref-2.ensures.value)) (places_order ls es ps are.are c.requires.changed)

pub put_placed-requires-clause-given : goal.put_placed-requires-clause-given
put_placed-requires-clause-given g c =
    let k = c.args.known.now.rows.now.0 in
    let rows : map (given k) c.deref-3.result.now ≡ map (some_row g.J.Judge.verdict_of c.args.users.now) (borrowed_labels c.deref.result.now) =
    ap (map (given k)) c.deref-3.ensures.value ∙ c.in_ok-nodes.ensures.rows in
    rows_given g.J.Judge.verdict_of c.args.users.now k c.deref-3.result.now (borrowed_labels c.deref.result.now) rows

pub put_placed-requires-clause-places : goal.put_placed-requires-clause-places
put_placed-requires-clause-places g c =
    let k = c.args.known.now.rows.now.0 in
    let row = some_row g.J.Judge.verdict_of c.args.users.now in
    let ls = borrowed_labels c.in_ok-new.new.labels.items in
    let es : List (PathOf × ℕ) = map seen c.in_ok-new.new.places.items in
    let ps : List (PathOf × Label) = map with_label c.args.changed.now in
    let are : ArePlaced ps ls es = c.in_ok-new.ensures in
    let rows : map (given k) c.deref-3.result.now ≡ map row ls = ap (map (given k)) c.deref-3.ensures.value ∙ c.in_ok-nodes.ensures.rows
    ∙ ap (λ l. map row (borrowed_labels l)) c.deref.ensures.value in
    let long : length c.deref-3.result.now ≡ length ls = sym (length-map c.deref-3.result.now (given k)) ∙ ap length rows ∙ length-map ls row in
    subst (λ (es : List (PathOf × ℕ)). ArePlaces (length c.deref-3.result.now) es) (sym (ap (map seen) c.deref-2.ensures.value)) (places_within ls (length c.deref-3.result.now) long es ps are.are)

pub returns-clause-rows : goal.returns-clause-rows
returns-clause-rows g c =
    let V = g.J.Judge.verdict_of in
    let us = c.args.users.now in
    let old : Kept LabelRow = c.args.known.now.rows.now in
    let row = some_row V us in
    let ls = borrowed_labels c.in_ok-new.new.labels.items in
    let es : List (PathOf × ℕ) = map seen c.in_ok-new.new.places.items in
    let ps : List (PathOf × Label) = map with_label c.args.changed.now in
    let are : ArePlaced ps ls es = c.in_ok-new.ensures in
    let rows : map (given old.0) c.deref-3.result.now ≡ map row ls = ap (map (given old.0)) c.deref-3.ensures.value ∙ c.in_ok-nodes.ensures.rows
    ∙ ap (λ l. map row (borrowed_labels l)) c.deref.ensures.value in
    c.in_ok-put.ensures.entries
    ∙ (λ i. put_all (placed (rows i) (map seen (c.deref-2.ensures.value i))) (entries_in old))
    ∙ ap (λ (puts : RowedPaths). put_all puts (entries_in old)) (rows_placed V us ls es ps are.are)

pub returns-clause-puts : goal.returns-clause-puts
returns-clause-puts g c =
    let old : Kept LabelRow = c.args.known.now.rows.now in
    let numbers = c.in_ok-put.put.numbers.items in
    let places : List (PathOf × ℕ) = map seen c.in_ok-new.new.places.items in
    let are : ArePlaced (map with_label c.args.changed.now) (borrowed_labels c.in_ok-new.new.labels.items) places = c.in_ok-new.ensures in
    record {
      puts = by_place numbers places;
      paths =
          map_twice (λ (e : PathOf × ℕ). (e.0, get_or numbers e.1 0)) (λ (e : PathOf × ℕ). e.0) places
          ∙ placed_paths (borrowed_labels c.in_ok-new.new.labels.items) places c.args.changed.now are.are
          ∙ label_paths c.args.changed.now;
      numbers = c.in_ok-put.ensures.numbers ∙ ap (λ (es : List (Bor PathOf × ℕ)). put_all (by_place numbers (map seen es)) old.1) c.deref-2.ensures.value;
      nodes = c.in_ok-put.ensures.nodes;
    }

pub returns-clause-same : goal.returns-clause-same
returns-clause-same g c n h =
    let numbers = c.in_ok-put.put.numbers.items in
    let lost = numbers_found c.in_ok-put.put.found.items in
    let all : c.push_found.new.new.items ≡ numbers ++ lost = c.in_ok-push_found.ensures ∙ ap (λ os. numbers ++ numbers_found os) c.deref-5.ensures.value in
    let none = none_of n numbers lost c.push_found.new.new.items all h in
    c.in_ok-put.ensures.same n none.0 none.1
