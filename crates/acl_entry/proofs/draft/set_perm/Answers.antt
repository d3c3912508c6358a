use Rattle.std.proofs.Common.{refl, sym, ◌∙◌}
use mathlib.Core.Bool.{false≢true}
use Rattle.acl_entry.proofs.Faults.{keys-set, pairs-set, apart_gap}
use Rattle.acl_entry.proofs.draft.set_perm.Goals as goal

pub returns-in-Ok : goal.returns-in-Ok
returns-in-Ok c = record {
  put = pairs-set c.args.perm c.index-entries-at.result c.args.entries.now c.requires.in_order c.args.key.now c.in-Ok.at c.in-Ok.ensures.found;
  keys = keys-set c.args.perm c.index-entries-at.result c.args.entries.now c.in-Ok.at;
}

-- the key is present
pub returns-in_default : goal.returns-in_default
returns-in_default c =
    let es = c.args.entries.now in
    absurd (false≢true (sym (apart_gap es es c.requires.in_order c.args.key.now refl c.in_default.field-0 c.in_default.ensures.absent) ∙ c.requires.has_entry))
