use Rattle.std.proofs.Common.{◌≡◌, sym, ◌∙◌, arith, length, take, length-take, rules, [], ◌∷◌}
use Rattle.std.proofs.lemmas.List.{take_all, take-append-le}
use Rattle.facl_tools.proofs.text_words.Beginning.push.Goals as goal

pub returns-else-self-lt-BEGINNING : goal.returns-else-self-lt-BEGINNING
returns-else-self-lt-BEGINNING c =
    let s = c.args.self.now in
    let array : length s.bytes ≡ 16 = search rules in
    let full : length (take s.len s.bytes) ≡ 16 = omega (arith, length-take s.len s.bytes, array, s.within) in
    sym (take-append-le 16 (take s.len s.bytes) (c.args.byte ∷ []) (omega (arith, full)) ∙ take_all 16 (take s.len s.bytes) (omega (arith, full)))
