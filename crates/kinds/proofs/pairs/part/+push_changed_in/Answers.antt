use Rattle.std.proofs.Common.{◌≡◌, ◌<◌, ◌++◌, length, flat_map, sym, ap, ◌∙◌, arith, append_assoc}
use Rattle.std.proofs.lemmas.Grind.{common_steps}
use Rattle.kinds.specs.PairParts.{changed}
use Rattle.kinds.proofs.PairChanges.{changed_none}
use Rattle.kinds.proofs.PairHalves.{rising_halves, rising_split, parts_added, changed_in_both, nil_of}
use Rattle.kinds.proofs.pairs.part.+push_changed_in.Goals as goal

pub returns-then-is_empty : goal.returns-then-is_empty
returns-then-is_empty g t c =
    let none : length c.args.changes.now ≡ 0 = grind (arith, common_steps) in
    parts_added (λ r. r.value) g.P.Part.pairs_of _ _ _ c.in_ok-share_all.ensures
    ∙ ap (λ l. flat_map (λ part. g.P.Part.pairs_of part.value) c.args.new.now.items ++ l)
    (sym (changed_none c.args.changes.now (flat_map (λ part. g.P.Part.pairs_of part.value) c.args.parts.now) (nil_of c.args.changes.now none)))

pub push_changed_in-requires : goal.push_changed_in-requires
push_changed_in-requires g t c κs within =
    let less : length c.halves.result.0.now < t = omega (arith, c.halves.ensures.less_left) in (
      less,
      (
        within,
        (
          c.halves.ensures.some_left,
          (
            (rising_halves (λ part. g.P.Part.pairs_of part.value) c.halves.result.2 c.halves.result.0.now c.halves.result.1.now c.args.parts.now c.halves.ensures c.requires.rising).0,
            (rising_split c.halves.result.2 c.args.changes.now c.split_changes.result.0.now c.split_changes.result.1.now c.split_changes.ensures c.requires.changes).0,
          ),
        ),
      ),
    )

pub push_changed_in-requires-in_default : goal.push_changed_in-requires-in_default
push_changed_in-requires-in_default g t c κs within =
    let less : length c.halves.result.1.now < t = omega (arith, c.halves.ensures.less_right) in (
      less,
      (
        within,
        (
          c.halves.ensures.some_right,
          (
            (rising_halves (λ part. g.P.Part.pairs_of part.value) c.halves.result.2 c.halves.result.0.now c.halves.result.1.now c.args.parts.now c.halves.ensures c.requires.rising).1,
            (rising_split c.halves.result.2 c.args.changes.now c.split_changes.result.0.now c.split_changes.result.1.now c.split_changes.ensures c.requires.changes).1,
          ),
        ),
      ),
    )

pub returns-in_ok-push_changed_in-in_default-2 : goal.returns-in_ok-push_changed_in-in_default-2
returns-in_ok-push_changed_in-in_default-2 g t c =
    let old = flat_map (λ part. g.P.Part.pairs_of part.value) c.args.new.now.items in
    let first = changed c.split_changes.result.0.now (flat_map (λ part. g.P.Part.pairs_of part.value) c.halves.result.0.now) in
    let last = changed c.split_changes.result.1.now (flat_map (λ part. g.P.Part.pairs_of part.value) c.halves.result.1.now) in
    c.in_ok-push_changed_in-in_default-2.ensures
    ∙ ap (λ l. l ++ last) c.in_ok-push_changed_in-in_default.ensures
    ∙ append_assoc old first last
    ∙ ap (λ l. old ++ l)
    (changed_in_both (λ part. g.P.Part.pairs_of part.value) c.halves.result.2 c.halves.result.0.now c.halves.result.1.now c.args.parts.now c.halves.ensures
    c.args.changes.now c.split_changes.result.0.now c.split_changes.result.1.now c.split_changes.ensures)
