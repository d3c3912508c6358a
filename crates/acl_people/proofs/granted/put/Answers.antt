use Rattle.std.proofs.Common.{arith, get_or, refl}
use Rattle.acl_people.proofs.AtPlaces.{is_listed, done_more}
use Rattle.acl_people.proofs.granted.put.Goals as goal

pub bounds-row-place : goal.bounds-row-place
bounds-row-place c =
    let places = c.args.places.now in
    let i = c.loop-place.place-index in
    let within = c.requires (get_or places i 0) (is_listed places i c.loop-place-test.true) in
    omega (arith, within)

pub loop-place-preserved : goal.loop-place-preserved
loop-place-preserved c =
    done_more (λ _. c.args.requests)
    (λ _. refl) c.args.places.now c.args.row.now c.loop-place.row c.loop-place.place-index c.args.requests c.loop-place-test.true (bounds-row-place c) refl c.loop-place.invariant
