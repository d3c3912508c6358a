use Rattle.std.proofs.Common.{map, sym, ap, subst, ◌∙◌}
use Rattle.std.proofs.lemmas.List.{map_push}
use Rattle.path_map.specs.Entries.{seen}
use Rattle.path_classes.specs.declared.class_counts.ClassFiles.{ClassFiles}
use Rattle.path_classes.specs.ClassCounts.{AreMeeting}
use Rattle.path_classes.specs.Tallies.{class_tally}
use Rattle.path_classes.proofs.ClassCounts.{met_again, met_first}
use Rattle.path_classes.proofs.class_counts.meet.Goals as goal

pub returns-then-is_met-clause-meeting : goal.returns-then-is_met-clause-meeting
returns-then-is_met-clause-meeting c all left count w =
    met_again all left (seen c.args.file) c.args.met.now.places.items (map class_tally c.args.found.now.items) (sym c.is_met.ensures ∙ c.if-is_met.true) w

pub returns-clause-meeting : goal.returns-clause-meeting
returns-clause-meeting c all left count w =
    let files : ClassFiles = record { class = c.in_ok-class.class; count = c.count-count.result; first = c.args.file.0 } in
    let pushed = ap (map class_tally) c.in_ok-push.ensures.items ∙ map_push class_tally c.args.found.now.items files in
    subst (AreMeeting all left c.place_of.new.self.places.items) (sym pushed)
    (met_first all left (seen c.args.file) c.in_ok-class.class c.count-count.result c.args.met.now.places.items c.place_of.new.self.places.items (map class_tally c.args.found.now.items)
    (sym c.is_met.ensures ∙ c.if-is_met.false) c.in_ok-class.ensures.put (c.count-count.ensures ∙ count) w)
