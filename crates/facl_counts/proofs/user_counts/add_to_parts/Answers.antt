use Rattle.std.proofs.Common.{◌+◌, ◌^◌, ap, sym, subst, ◌∙◌}
use Rattle.facl_counts.specs.SumLists.{counts_after, totals, AreWithin}
use Rattle.facl_counts.proofs.SumsApart.{small, within_after}
use Rattle.facl_counts.proofs.TwoParts.{few_added, many_added, no_more, wide_small}
use Rattle.facl_counts.proofs.user_counts.add_to_parts.Goals as goal

pub add_counts-requires : goal.add_counts-requires
add_counts-requires c = wide_small (2 ^ 64) c.args.more c.args.wide.now c.args.narrow.now c.requires.long c.requires.small

pub returns-then-more-ge-MIN_WIDE : goal.returns-then-more-ge-MIN_WIDE
returns-then-more-ge-MIN_WIDE c = record {
  added = ap (λ wide. totals wide c.args.narrow.now) c.add_counts.ensures ∙ many_added c.args.request c.args.more c.args.row.now c.args.wide.now c.args.narrow.now;
  few = c.requires.few;
}

pub make_room-most-requires : goal.make_room-most-requires
make_room-most-requires c = record {
  long = c.requires.long;
  small = no_more (2 ^ 64) c.args.more (totals c.args.wide.now c.args.narrow.now) c.requires.small;
  few = c.requires.few;
}

pub add_few-requires : goal.add_few-requires
add_few-requires c = small (2 ^ 8) c.make_room-most.result c.args.more c.make_room-most.new.narrow c.make_room-most.ensures.room c.make_room-most.ensures.few

pub returns : goal.returns
returns c =
    let q = c.args.request in
    let more = c.args.more in
    let row = c.args.row.now in
    let made = c.make_room-most in
    record {
      added = ap (totals made.new.wide) c.add_few.ensures ∙ few_added q more row made.new.wide made.new.narrow ∙ ap (counts_after q more row) made.ensures.same;
      few = subst (AreWithin (made.result + more)) (sym c.add_few.ensures) (within_after q made.result more row made.new.narrow made.ensures.few);
    }
