use Rattle.std.proofs.Common.{arith, refl}
use Rattle.facl_tools.proofs.Modes.{room_of_four, room_of_one, mode_digits, mode_short, first_digit}
use Rattle.facl_tools.proofs.mode.octal_number.Goals as goal

pub loop-rest-init : goal.loop-rest-init
loop-rest-init c = record {
  same = refl;
  digits = mode_digits c.args.digits.now c.requires;
  fits = room_of_four c.args.digits.now (mode_short c.args.digits.now c.requires);
}

pub overflow_mul-mode : goal.overflow_mul-mode
overflow_mul-mode c =
    let most = room_of_one c.loop-rest.rest.now c.in-len1-up.len_at_least in
    let fits = c.loop-rest.invariant.fits in
    omega (arith, most, fits)

pub overflow_add-mode : goal.overflow_add-mode
overflow_add-mode c =
    let most = room_of_one c.loop-rest.rest.now c.in-len1-up.len_at_least in
    let fits = c.loop-rest.invariant.fits in
    let digit = first_digit c.loop-rest.rest.now c.in-len1-up.len_at_least c.loop-rest.invariant.digits in
    let is = c.from.ensures in
    omega (arith, most, fits, digit, is)
