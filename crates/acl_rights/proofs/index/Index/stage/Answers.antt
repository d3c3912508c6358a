use Rattle.std.proofs.Common.{◌≤◌, length, ap, sym, subst, ◌∙◌, arith}
use Rattle.path_map.specs.Entries.{IsInOrder}
use Rattle.kinds.specs.Numbered.{entries_in}
use Rattle.acl_people.specs.KnownPeople.{KnownPeople, persons}
use Rattle.acl_tree.specs.Files.{Files, Recorded}
use Rattle.path_classes.specs.KindRows.{rows_at}
use Rattle.acl_rights.specs.Tables.{VerdictTable}
use Rattle.path_classes.specs.Rows.{Rows}
use Rattle.acl_rights.specs.Reach.{unlike}
use Rattle.acl_rights.specs.Kept.{GoesFrom}
use Rattle.acl_rights.specs.Lines.{HaveLabels}
use Rattle.acl_rights.proofs.Costs.{most_le}
use Rattle.acl_rights.proofs.Rowed.{rowed_is, rowed_rows, rowed_labels_are}
use Rattle.acl_rights.proofs.index.Index.stage.Goals as goal

pub after_line-requires-clause-room : goal.after_line-requires-clause-room
after_line-requires-clause-room g c =
    let V = g.J.Judge.verdict_of in
    let t = c.args.staged.now in
    let goes : GoesFrom V c.args.self.now.rows t = record { state = c.requires.goes.state; rows_are = c.requires.goes.whole.rows; reports = c.requires.goes.reports } in
    omega (arith, most_le V c.args.self.now.rows t goes (subst (λ (r : Recorded). IsInOrder r.files) c.tree.ensures c.soundness_law.ensures.order), c.requires.room)

pub after_line-requires-clause-before : goal.after_line-requires-clause-before
after_line-requires-clause-before g c =
    let V = g.J.Judge.verdict_of in
    let s = c.requires.goes.state in
    let es = entries_in c.now.inside.rows.rows in
    let rows = ap (λ (x : VerdictTable). x.rows) (c.now.view_is ∙ c.self.view_is) ∙ c.requires.goes.whole.rows in
    let files = ap (λ (x : VerdictTable). x.files) (c.now.view_is ∙ c.self.view_is) ∙ c.requires.goes.whole.files in
    record {
      goes = record { state = s; rows_are = rows; reports = c.requires.goes.reports };
      are = rowed_is V (persons s.people) es s.tree.files (subst (λ (fs : Files). HaveLabels fs es) files c.now.invariant) rows;
    }

pub of-requires : goal.of-requires
of-requires g c =
    let t = c.args.staged.now in
    subst (λ (r : Recorded). HaveLabels r.files (entries_in c.in_ok-new.new.rows.rows)) (sym c.tree-2.ensures)
    (rowed_labels_are g.J.Judge.verdict_of (persons t.state.people) (entries_in c.in_ok-new.new.rows.rows) t.state.tree.files c.in_ok-new.ensures.after.rows)

pub returns-clause-whole : goal.returns-clause-whole
returns-clause-whole g c =
    let t = c.args.staged.now in
    record {
      users = ap (λ (x : VerdictTable). x.users) c.in_ok-table.ensures ∙ c.users.ensures ∙ ap (λ (known : KnownPeople). length known.users) c.people.ensures;
      files = ap (λ (x : VerdictTable). x.files) c.in_ok-table.ensures ∙ ap (λ (r : Recorded). r.files) c.tree-2.ensures;
      rows = ap (λ (x : VerdictTable). x.rows) c.in_ok-table.ensures
          ∙ rowed_rows g.J.Judge.verdict_of (persons t.state.people) (entries_in c.in_ok-new.new.rows.rows) t.state.tree.files c.in_ok-new.ensures.after.rows;
    }

pub returns-in_err-new-clause-bounded : goal.returns-in_err-new-clause-bounded
returns-in_err-new-clause-bounded g c =
    let V = g.J.Judge.verdict_of in
    let t = c.args.staged.now in
    let goes : GoesFrom V c.args.self.now.rows t = record { state = c.requires.goes.state; rows_are = c.requires.goes.whole.rows; reports = c.requires.goes.reports } in
    omega (arith, most_le V c.args.self.now.rows t goes (subst (λ (r : Recorded). IsInOrder r.files) c.tree.ensures c.soundness_law.ensures.order), c.after_line.ensures.at_most)

pub returns-in_err-table-clause-bounded : goal.returns-in_err-table-clause-bounded
returns-in_err-table-clause-bounded g c =
    let V = g.J.Judge.verdict_of in
    let t = c.args.staged.now in
    let goes : GoesFrom V c.args.self.now.rows t = record { state = c.requires.goes.state; rows_are = c.requires.goes.whole.rows; reports = c.requires.goes.reports } in
    omega (arith, most_le V c.args.self.now.rows t goes (subst (λ (r : Recorded). IsInOrder r.files) c.tree.ensures c.soundness_law.ensures.order), c.after_line.ensures.at_most)

pub returns-clause-bounded : goal.returns-clause-bounded
returns-clause-bounded g c =
    let V = g.J.Judge.verdict_of in
    let t = c.args.staged.now in
    let goes : GoesFrom V c.args.self.now.rows t = record { state = c.requires.goes.state; rows_are = c.requires.goes.whole.rows; reports = c.requires.goes.reports } in
    omega (arith, most_le V c.args.self.now.rows t goes (subst (λ (r : Recorded). IsInOrder r.files) c.tree.ensures c.soundness_law.ensures.order), c.after_line.ensures.at_most)

pub returns-clause-refreshed_least : goal.returns-clause-refreshed_least
returns-clause-refreshed_least g c =
    let t = c.args.staged.now in
    let rows = ap (λ (x : VerdictTable). x.rows) (c.now.view_is ∙ c.self.view_is) in
    subst (λ (old : Rows). unlike t.user_change old c.in_ok-table.table.rows ≤ c.in_ok-new.new.refreshed) rows
    (subst (λ (new : Rows). unlike t.user_change (rows_at (entries_in c.now.inside.rows.rows)) new ≤ c.in_ok-new.new.refreshed)
    (sym (ap (λ (x : VerdictTable). x.rows) c.in_ok-table.ensures)) c.in_ok-new.ensures.after.least)

pub returns-clause-refreshed_most : goal.returns-clause-refreshed_most
returns-clause-refreshed_most g c = c.in_ok-new.ensures.after.most

pub returns-in_err-table-clause-at_most : goal.returns-in_err-table-clause-at_most
returns-in_err-table-clause-at_most g c = c.after_line.ensures.at_most

pub returns-clause-looked_most : goal.returns-clause-looked_most
returns-clause-looked_most g c = c.in_ok-new.ensures.after.looked
