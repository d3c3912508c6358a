use Rattle.std.proofs.Common.{◌≡◌, false, true, sym, ap, ◌∙◌, refl, arith}
use Rattle.std.proofs.lemmas.Grind.{common_steps}
use Rattle.acl_text.specs.Rows.{is_repeated}
use Rattle.acl_text.proofs.Counted.{line_known, line_full, line_new, name_found, row_found}
use Rattle.acl_text.proofs.table.read_line.Goals as goal

pub returns-then-contains_key-clause-judged : goal.returns-then-contains_key-clause-judged
returns-then-contains_key-clause-judged g c =
    let name_of = g.R.TableRow.name in
    let named : is_repeated name_of c.args.rows.now.items (name_of c.in-Some.row) ≡ true =
    ap (is_repeated name_of c.args.rows.now.items)
    (sym (name_found c.in_ok-name.field-0 (c.in-Some.name, c.in-Some.row) c.in-Some.is name_of c.in_ok-name.ensures.name)) ∙ sym (c.requires c.in-Some.name.now) ∙ sym c.if-contains_key.ensures in
    line_known name_of g.R.TableRow.of_fields c.args.rows.now.items c.args.line.now c.in-Some.row (sym c.if-has_no_content.ensures)
    (row_found c.in_ok-name.field-0 (c.in-Some.name, c.in-Some.row) c.in-Some.is c.in_ok-name.ensures.row) named

pub returns-then-len-ge-MAX_ROWS-clause-judged : goal.returns-then-len-ge-MAX_ROWS-clause-judged
returns-then-len-ge-MAX_ROWS-clause-judged g c =
    let name_of = g.R.TableRow.name in
    let named : is_repeated name_of c.args.rows.now.items (name_of c.in-Some.row) ≡ false =
    ap (is_repeated name_of c.args.rows.now.items)
    (sym (name_found c.in_ok-name.field-0 (c.in-Some.name, c.in-Some.row) c.in-Some.is name_of c.in_ok-name.ensures.name)) ∙ sym (c.requires c.in-Some.name.now) ∙ sym c.if-contains_key.ensures in
    λ memory. (
      line_full name_of g.R.TableRow.of_fields c.args.rows.now.items c.args.line.now c.in-Some.row (sym c.if-has_no_content.ensures)
          (row_found c.in_ok-name.field-0 (c.in-Some.name, c.in-Some.row) c.in-Some.is c.in_ok-name.ensures.row) named (omega (arith, c.len.ensures)),
      refl,
    )

pub returns-clause-judged : goal.returns-clause-judged
returns-clause-judged g c =
    let name_of = g.R.TableRow.name in
    let named : is_repeated name_of c.args.rows.now.items (name_of c.in-Some.row) ≡ false =
    ap (is_repeated name_of c.args.rows.now.items)
    (sym (name_found c.in_ok-name.field-0 (c.in-Some.name, c.in-Some.row) c.in-Some.is name_of c.in_ok-name.ensures.name)) ∙ sym (c.requires c.in-Some.name.now) ∙ sym c.if-contains_key.ensures in
    let new = line_new name_of g.R.TableRow.of_fields c.args.rows.now.items c.args.line.now c.in-Some.row (sym c.if-has_no_content.ensures)
    (row_found c.in_ok-name.field-0 (c.in-Some.name, c.in-Some.row) c.in-Some.is c.in_ok-name.ensures.row) named (omega (arith, c.len.ensures)) in
    grind (arith, common_steps, new)
