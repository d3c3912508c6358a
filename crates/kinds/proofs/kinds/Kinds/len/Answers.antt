use Rattle.std.proofs.Common.{length, sym, ap, ◌∙◌}
use Rattle.std.proofs.lemmas.List.{length-map}
use Rattle.kinds.specs.Kinds.{KindsOf}
use Rattle.kinds.proofs.kinds.Kinds.len.Goals as goal

pub returns-clause-nodes : goal.returns-clause-nodes
returns-clause-nodes g c = c.len.ensures ∙ sym (length-map c.self.inside.slots (λ s. s.0)) ∙ ap (λ (k : KindsOf g.row.N.Denot). length k.0) c.self.view_is

pub returns-clause-counts : goal.returns-clause-counts
returns-clause-counts g c = c.len.ensures ∙ sym (length-map c.self.inside.slots (λ s. s.1)) ∙ ap (λ (k : KindsOf g.row.N.Denot). length k.1) c.self.view_is
