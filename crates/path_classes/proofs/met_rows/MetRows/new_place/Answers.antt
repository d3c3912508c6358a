use Rattle.std.proofs.Common.{arith}
use Rattle.path_classes.proofs.MetRows.{pushed_met, pushed_keeps, pushed_here}
use Rattle.path_classes.proofs.met_rows.MetRows.new_place.Goals as goal

pub returns-in_err-put-clause-met : goal.returns-in_err-put-clause-met
returns-in_err-put-clause-met c =
    pushed_met c.args.files.now c.args.self.now.places.items c.args.self.now.numbers.items c.requires.met c.args.number c.requires.row c.push.new.self.items c.in_ok-push.ensures.items

pub returns-in_err-put-clause-keep : goal.returns-in_err-put-clause-keep
returns-in_err-put-clause-keep c =
    pushed_keeps c.args.files.now c.args.self.now.places.items c.args.self.now.numbers.items c.requires.met c.args.number c.requires.row c.push.new.self.items c.in_ok-push.ensures.items

pub returns-clause-here : goal.returns-clause-here
returns-clause-here c =
    pushed_here c.args.files.now c.args.self.now.places.items c.args.self.now.numbers.items c.requires.met c.args.number c.requires.row c.push.new.self.items c.in_ok-push.ensures.items
    c.len-place.result (omega (arith, c.len-place.ensures, c.args.self.now.numbers.ok))

pub returns-clause-met : goal.returns-clause-met
returns-clause-met c =
    pushed_met c.args.files.now c.args.self.now.places.items c.args.self.now.numbers.items c.requires.met c.args.number c.requires.row c.push.new.self.items c.in_ok-push.ensures.items

pub returns-clause-keep : goal.returns-clause-keep
returns-clause-keep c =
    pushed_keeps c.args.files.now c.args.self.now.places.items c.args.self.now.numbers.items c.requires.met c.args.number c.requires.row c.push.new.self.items c.in_ok-push.ensures.items
