use Rattle.std.proofs.Common.{◌++◌, map, subst, sym, ap, ◌∙◌}
use Rattle.path_classes.specs.Classes.{Classed}
use Rattle.path_classes.specs.Rows.{Rows}
use Rattle.path_classes.specs.Tallies.{SaysAs, class_tally}
use Rattle.path_classes.proofs.Maps.{map_twice}
use Rattle.acl_rights.specs.Verdicts.{rows_granted}
use Rattle.facl_counts.specs.Sums.{of_class, after_tallies, AreSums}
use Rattle.facl_counts.proofs.ClassFiles.{all_counted}
use Rattle.facl_counts.proofs.Summing.{sums_more}
use Rattle.facl_counts.proofs.below.add_all.Goals as goal

pub returns : goal.returns
returns g c names seen were =
    let asked = c.args.verdicts.now in
    let all : Rows = rows_granted g.J.Judge.verdict_of asked.along asked.state.now in
    let classes : Classed = c.in_ok-classes.classes in
    let found = c.in_ok-classes.found.items in
    let tallies = c.in_ok-tallies.tallies in
    let says : SaysAs tallies (map of_class (map class_tally found)) =
    subst (SaysAs tallies) (ap (map (λ files. of_class (class_tally files))) c.deref.ensures.value ∙ sym (map_twice class_tally of_class found)) c.in_ok-tallies.ensures in
    subst (AreSums c.args.request (seen ++ all) names)
    (sym (c.in_ok-add_tallies.ensures ∙ ap (λ ts. after_tallies classes.0 c.args.request ts c.args.sums.now) c.as_slice.ensures))
    (sums_more c.args.request names classes.0 seen all tallies c.args.sums.now (all_counted classes.0 all (map class_tally found) tallies c.in_ok-classes.ensures says) were)
