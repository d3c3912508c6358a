use Rattle.std.proofs.Common.{ℕ, List, Option, None, Some, get_or, length, sym, ap, subst, ◌∙◌, arith}
use Rattle.std.proofs.lemmas.List.{get_or-set_same, length-set}
use Rattle.acl_rights.specs.KeptLabels.{Keeps}
use Rattle.acl_rights.proofs.KeptLabels.{keeps_put}
use Rattle.acl_rights.proofs.kept_labels.gets_row.Goals as goal

pub returns-in-Some-clause-row : goal.returns-in-Some-clause-row
returns-in-Some-clause-row c h = record {
  first = c.in-Some.first;
  kept = ap (λ l. get_or l c.args.label None) (sym c.deref.ensures.value) ∙ sym c.in-Some.ensures;
  row = c.has_same_row.ensures h;
}

pub returns-in-None-clause-long : goal.returns-in-None-clause-long
returns-in-None-clause-long c = ap length c.set_number.ensures ∙ length-set c.args.numbers.now.items c.args.label (Some c.args.number)

pub returns-in-None-clause-kept : goal.returns-in-None-clause-kept
returns-in-None-clause-kept c =
    let old : List (Option ℕ) = c.args.numbers.now.items in
    subst (λ (l : List (Option ℕ)). Keeps old l) (sym c.set_number.ensures)
    (keeps_put old c.args.label c.args.number (ap (λ l. get_or l c.args.label None) (sym c.deref.ensures.value) ∙ sym c.in-None.ensures))

pub returns-in-None-clause-row : goal.returns-in-None-clause-row
returns-in-None-clause-row c h = record {
  first = c.args.number;
  kept =
      ap (λ (l : List (Option ℕ)). get_or l c.args.label None) c.set_number.ensures
      ∙ get_or-set_same c.args.numbers.now.items c.args.label (Some c.args.number) None (omega (arith, c.if-label-len.false, c.len.ensures));
  row = c.has_same_row-in-None.ensures h;
}
