use Rattle.std.proofs.Common.{◌≡◌, ◌<◌, Some, None, length, sym, ap, ◌∙◌, arith}
use Rattle.std.specs.Prelude.{option_map}
use Rattle.std.specs.Option.{option_copied}
use Rattle.kinds.specs.Given.{used_at}
use Rattle.kinds.specs.Renewed.{renewed_before}
use Rattle.acl_rights.specs.KindRows.{node_row}
use Rattle.acl_rights.proofs.RowsOfNumbers.{one_more, fits, numbers_more}
use Rattle.acl_rights.proofs.many_rows.rows_of_numbers.Goals as goal

pub row_of_label-requires-clause-room : goal.row_of_label-requires-clause-room
row_of_label-requires-clause-room g c =
    let n = c.loop-number.number in
    let lt : n < length c.args.files.now.0.0 = omega (arith, c.loop-number-test.true, c.numbers_len-number-end.ensures) in
    let more = fits n (length c.args.files.now.0.0) (length c.args.users.now) lt in
    omega (arith, more, c.loop-number.invariant.asked, c.requires.room)

pub loop-number-preserved-in_default : goal.loop-number-preserved-in_default
loop-number-preserved-in_default g c =
    let V = g.J.Judge.verdict_of in
    let users = c.args.users.now in
    let kinds = c.args.files.now.0 in
    let n = c.loop-number.number in
    let more = one_more n (length users) in
    let unused : None ≡ used_at kinds n = sym (ap option_copied c.in_default.is) ∙ c.used.ensures.exact in
    record {
      made = numbers_more V users kinds n c.loop-number.rows.items c.push.new.self.items None
          c.in_ok-push.ensures.items c.loop-number.invariant.made (ap (option_map (node_row V users)) unused);
      known = c.loop-number.invariant.known;
      asked = omega (arith, more, c.loop-number.invariant.asked);
    }

pub loop-number-preserved : goal.loop-number-preserved
loop-number-preserved g c =
    let V = g.J.Judge.verdict_of in
    let users = c.args.users.now in
    let kinds = c.args.files.now.0 in
    let n = c.loop-number.number in
    let more = one_more n (length users) in
    let used : Some c.in-Some.node.now ≡ used_at kinds n = sym (ap option_copied c.in-Some.is) ∙ c.used.ensures.exact in
    record {
      made = numbers_more V users kinds n c.loop-number.rows.items c.push-in-loop-number.new.self.items (Some c.in_ok-row.row)
          c.in_ok-push-2.ensures.items c.loop-number.invariant.made (ap Some c.in_ok-row.ensures.row ∙ ap (option_map (node_row V users)) used);
      known = c.in_ok-row.ensures.known;
      asked = omega (arith, more, c.loop-number.invariant.asked, c.in_ok-row.ensures.at_most);
    }

pub returns-clause-rows : goal.returns-clause-rows
returns-clause-rows g c =
    let end : c.loop-number.number ≡ length c.args.files.now.0.0 = omega (arith, c.loop-number-test.false, c.loop-number.auto.number-end, c.numbers_len-number-end.ensures) in
    c.loop-number.invariant.made ∙ ap (renewed_before (node_row g.J.Judge.verdict_of c.args.users.now) c.args.files.now.0) end
