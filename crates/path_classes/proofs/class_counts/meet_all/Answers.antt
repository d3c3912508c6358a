use Rattle.std.proofs.Common.{◌≡◌, map, refl, sym, ap, subst, ◌∙◌}
use Rattle.std.specs.Prelude.{drop, slice_get}
use Rattle.path_map.specs.Entries.{seen}
use Rattle.kinds.specs.Numbered.{Numbers}
use Rattle.path_classes.specs.ClassCounts.{AreMetBelow, AreMeeting}
use Rattle.path_classes.specs.NumberedRows.{FilesLeft, files_with, rows_met, row_at, rows_by, AreMet}
use Rattle.path_classes.specs.Tallies.{class_tally, AreTallied}
use Rattle.path_classes.proofs.ClassCounts.{meeting_begins, first_is, met_after, each_met, left_met, are_tallied}
use Rattle.path_classes.proofs.class_counts.meet_all.Goals as goal

pub loop-file-init : goal.loop-file-init
loop-file-init c = (
  refl,
  (
    c.requires.met,
    (
      c.next_unmet-unmet.ensures,
      meeting_begins c.args.files.now.left c.args.met.now.places.items (map class_tally c.new-found.result.items) c.requires.none (ap (map class_tally) c.new-found.ensures.items),
    ),
  ),
)

pub loop-file-preserved : goal.loop-file-preserved
loop-file-preserved c =
    let f : FilesLeft = c.loop-file.files in
    let all : FilesLeft = c.args.files.now in
    let left : Numbers = drop 1 f.left in
    let w = c.loop-file.invariant in
    let count : files_with f c.in-Some.file.1 ≡ files_with all c.in-Some.file.1 = ap (λ (g : FilesLeft). files_with g c.in-Some.file.1) w.0 in
    let meeting : AreMeeting all.left left c.meet.new.met.places.items (map class_tally c.meet.new.found.items) =
    c.in_ok-meet.ensures.meeting all.left left (count ∙ c.requires.all c.in-Some.file.1)
    (subst (λ (l : Numbers). AreMeeting all.left l c.loop-file.met.places.items (map class_tally c.loop-file.found.items)) (first_is f.left (seen c.in-Some.file) c.in-Some.ensures.next) w.1.1.1) in
    subst (λ (g : FilesLeft). (g ≡ record { rows = all.rows; classes = all.classes; left = g.left }) × (AreMet g c.meet.new.met.places.items c.meet.new.met.numbers.items
    × (AreMetBelow g c.meet.new.met.places.items c.next_unmet-unmet-in-Some.result × AreMeeting all.left g.left c.meet.new.met.places.items (map class_tally c.meet.new.found.items))))
    (sym c.advance.ensures) (
      ap (λ (g : FilesLeft). record { rows = g.rows; classes = g.classes; left = left }) w.0,
      (met_after f left c.meet.new.met.places.items c.meet.new.met.numbers.items c.in_ok-meet.ensures.met, (c.next_unmet-unmet-in-Some.ensures, meeting)),
    )

pub returns-clause-counted : goal.returns-clause-counted
returns-clause-counted c =
    let f : FilesLeft = c.loop-file.files in
    let all : FilesLeft = c.args.files.now in
    let places = c.loop-file.met.places.items in
    let found = map class_tally c.loop-file.found.items in
    let w = c.loop-file.invariant in
    let below : AreMetBelow (record { rows = all.rows; classes = all.classes; left = f.left }) places c.loop-file.unmet =
    subst (λ (g : FilesLeft). AreMetBelow g places c.loop-file.unmet) w.0 w.1.1.0 in
    let each = each_met all f.left places found c.loop-file.unmet c.args.end c.requires.all c.requires.end below w.1.1.1 c.in_default.ensures.next in
    subst (λ (g : FilesLeft). AreTallied (slice_get (rows_met g c.loop-file.met.numbers.items)) (rows_by (row_at all) all.left) found) (sym w.0)
    (are_tallied (record { rows = all.rows; classes = all.classes; left = f.left }) places c.loop-file.met.numbers.items
    (subst (λ (g : FilesLeft). AreMet g places c.loop-file.met.numbers.items) w.0 w.1.0) all.left f.left found w.1.1.1 each (left_met all f.left places found w.1.1.1 each))
