use Rattle.std.proofs.Common.{sym, ◌∙◌}
use Rattle.path_classes.proofs.changed_answers.has_same_row.Goals as goal

pub returns-in-Some-get : goal.returns-in-Some-get
returns-in-Some-get c = λ same. record {
  was = c.in-Some.was.now;
  had = sym c.in-Some.ensures;
  is = c.in-Some-get.is'.now;
  has = sym c.in-Some-get.ensures;
  row = sym c.as_slice.ensures ∙ c.same_row.ensures.0 same ∙ c.as_slice-in-Some-get.ensures;
}
