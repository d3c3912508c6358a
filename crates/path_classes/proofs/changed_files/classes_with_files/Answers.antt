use Rattle.std.proofs.Common.{List, length, map, sym, ap, subst, arith}
use Rattle.std.specs.Borrow.{Bor}
use Rattle.acl_names.specs.Paths.{PathOf}
use Rattle.path_map.specs.Entries.{seen}
use Rattle.path_classes.specs.ClassesWithin.{paths_seen, inside, AreTops, ChangesInside}
use Rattle.path_classes.proofs.ChangedFiles.{changes_inside, same_inside}
use Rattle.path_classes.proofs.changed_files.classes_with_files.Goals as goal

pub classes_after-requires-clause-tops : goal.classes_after-requires-clause-tops
classes_after-requires-clause-tops g c = subst (λ (ts : List (Bor PathOf)). AreTops (paths_seen ts)) (sym c.deref.ensures.value) c.in_ok-tops.ensures.tops

pub classes_after-requires-clause-changes : goal.classes_after-requires-clause-changes
classes_after-requires-clause-changes g c =
    subst (λ (ts : List (Bor PathOf)). ChangesInside c.args.rows.now.before.now (paths_seen ts) c.args.rows.now.after.now) (sym c.deref.ensures.value)
    (changes_inside c.args.rows.now.before.now c.args.rows.now.after.now (map seen c.args.changed.now) (map seen c.args.gone.now) (paths_seen c.in_ok-tops.tops.items) c.in_ok-tops.ensures.covers
    c.numbers-files_before.ensures.sound.order c.numbers-files.ensures.sound.order c.requires.changed c.requires.puts)

pub returns-clause-most : goal.returns-clause-most
returns-clause-most g c =
    let few = c.in_ok-new.ensures.most in
    let same = ap (λ (ts : List (Bor PathOf)). length (inside (paths_seen ts) c.args.rows.now.after.now.1)) c.deref.ensures.value in
    let all = ap (λ es. length es)
    (same_inside c.args.rows.now.before.now c.args.rows.now.after.now (map seen c.args.changed.now) (map seen c.args.gone.now)
    (paths_seen c.in_ok-tops.tops.items) c.in_ok-tops.ensures.covers c.args.rows.now.after.now.1) in
    omega (arith, few, same, all)
