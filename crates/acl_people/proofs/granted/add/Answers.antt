use Rattle.std.proofs.Common.{◌<◌, length, arith, get_or, ap, ◌∙◌}
use Rattle.std.specs.Int.RustNames.{bit_or}
use Rattle.std.proofs.lemmas.List.{get_or_read}
use Rattle.acl_people.proofs.AtPlaces.{is_listed, done_more, or_twice}
use Rattle.acl_people.proofs.granted.add.Goals as goal

pub bounds-row-place : goal.bounds-row-place
bounds-row-place c =
    let places = c.args.places.now in
    let i = c.loop-place.place-index in
    let within = c.requires (get_or places i 0) (is_listed places i c.loop-place-test.true) in
    omega (arith, within)

pub bounds-row-place-in-loop-place : goal.bounds-row-place-in-loop-place
bounds-row-place-in-loop-place c =
    let places = c.args.places.now in
    let i = c.loop-place.place-index in
    let within = c.requires (get_or places i 0) (is_listed places i c.loop-place-test.true) in
    omega (arith, within)

pub loop-place-preserved : goal.loop-place-preserved
loop-place-preserved c =
    let places = c.args.places.now in
    let row = c.loop-place.row in
    let i = c.loop-place.place-index in
    let within = c.requires (get_or places i 0) (is_listed places i c.loop-place-test.true) in
    let in_range : get_or places i 0 < length row = omega (arith, within) in
    let had = get_or_read row (get_or places i 0) c.index-row-place.result in_range c.index-row-place.is 0 in
    done_more (λ n. bit_or n c.args.requests) (λ n. or_twice n c.args.requests) places c.args.row.now row i c.union.result c.loop-place-test.true in_range
    (c.union.ensures ∙ ap (λ n. bit_or n c.args.requests) had) c.loop-place.invariant
