use Rattle.std.proofs.Common.{ap, ◌∙◌}
use Rattle.kinds.specs.Numbered.{entries_in}
use Rattle.acl_people.specs.KnownPeople.{persons}
use Rattle.acl_rights.specs.Tables.{VerdictTable}
use Rattle.acl_rights.proofs.Rowed.{rowed_rows, rowed_labels_are}
use Rattle.acl_rights.proofs.index.Index.build.Goals as goal

pub of-requires : goal.of-requires
of-requires g c = rowed_labels_are g.J.Judge.verdict_of (persons c.args.people.now) (entries_in c.in_ok-rows.rows.rows) c.args.tree.now.files c.in_ok-rows.ensures.rows

pub returns-clause-whole : goal.returns-clause-whole
returns-clause-whole g c = record {
  users = ap (λ (x : VerdictTable). x.users) c.in_ok-table.ensures ∙ c.users.ensures;
  files = ap (λ (x : VerdictTable). x.files) c.in_ok-table.ensures;
  rows = ap (λ (x : VerdictTable). x.rows) c.in_ok-table.ensures
      ∙ rowed_rows g.J.Judge.verdict_of (persons c.args.people.now) (entries_in c.in_ok-rows.rows.rows) c.args.tree.now.files c.in_ok-rows.ensures.rows;
}
