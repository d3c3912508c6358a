use Rattle.std.proofs.Common.{◌≡◌, ℕ, List, Option, map, sym, ap, subst, ◌∙◌}
use Rattle.path_map.specs.Entries.{seen, found}
use Rattle.path_map.specs.Merged.{without_all, merged}
use Rattle.kinds.specs.Kinds.{count_at}
use Rattle.kinds.specs.Numbered.{Numbers, Kept, AreSound}
use Rattle.kinds.specs.Inner.{ReleasesAll, found_with}
use Rattle.kinds.specs.Renumbered.{IsPut}
use Rattle.kinds.proofs.SameNodes.{none_found}
use Rattle.kinds.proofs.CountedPuts.{sound_counted, put_counted, same_count}
use Rattle.kinds.proofs.map.KindMap.put_found.Goals as goal

pub of-requires : goal.of-requires
of-requires g c =
    let k0 = c.args.self.now.0 in
    let ns = c.args.self.now.1 in
    let puts : Numbers = map seen c.args.puts.now in
    let gone : Numbers = map seen c.args.gone.now in
    let k1 = c.in_ok-kinds.kinds in
    let k2 = c.in_ok-left.left in
    let k3 = c.in_ok-kinds-2.kinds in
    let left : ReleasesAll k1 (found gone ns) k2 =
    subst (λ (os : List (Option ℕ)). ReleasesAll k1 os k2) (c.deref.ensures.value ∙ c.in_ok-numbers.ensures.gone_found ∙ ap (found gone) c.numbers.ensures.all) c.in_ok-left.ensures in
    let rest : ReleasesAll k2 (found puts (without_all gone ns)) k3 =
    subst (λ (os : List (Option ℕ)). ReleasesAll k2 os k3) (c.deref-2.ensures.value ∙ c.in_ok-numbers.ensures.put_found ∙ ap (λ (l : Numbers). found puts (without_all gone l)) c.numbers.ensures.all)
    c.in_ok-kinds-2.ensures in
    subst (λ (l : Numbers). AreSound k3 l) (sym (c.in_ok-numbers.ensures.new ∙ ap (merged puts gone) c.numbers.ensures.all))
    (sound_counted k0 c.args.kinds k1 k2 k3 ns puts gone c.numbers.ensures.sound c.requires.there c.requires.counts c.requires.used c.requires.puts c.requires.gone c.in_ok-kinds.ensures left rest)

pub returns-clause-put : goal.returns-clause-put
returns-clause-put g c =
    let k0 = c.args.self.now.0 in
    let ns = c.args.self.now.1 in
    let puts : Numbers = map seen c.args.puts.now in
    let gone : Numbers = map seen c.args.gone.now in
    let k1 = c.in_ok-kinds.kinds in
    let k2 = c.in_ok-left.left in
    let k3 = c.in_ok-kinds-2.kinds in
    let left : ReleasesAll k1 (found gone ns) k2 =
    subst (λ (os : List (Option ℕ)). ReleasesAll k1 os k2) (c.deref.ensures.value ∙ c.in_ok-numbers.ensures.gone_found ∙ ap (found gone) c.numbers.ensures.all) c.in_ok-left.ensures in
    let rest : ReleasesAll k2 (found puts (without_all gone ns)) k3 =
    subst (λ (os : List (Option ℕ)). ReleasesAll k2 os k3) (c.deref-2.ensures.value ∙ c.in_ok-numbers.ensures.put_found ∙ ap (λ (l : Numbers). found puts (without_all gone l)) c.numbers.ensures.all)
    c.in_ok-kinds-2.ensures in
    subst (λ (m : Kept g.row.N.Denot). IsPut c.args.self.now c.args.kinds puts gone m) (sym c.in_ok-map.ensures)
    (subst (λ (l : Numbers). IsPut c.args.self.now c.args.kinds puts gone (k3, l)) (sym (c.in_ok-numbers.ensures.new ∙ ap (merged puts gone) c.numbers.ensures.all))
    (put_counted k0 c.args.kinds k1 k2 k3 ns puts gone c.numbers.ensures.sound c.requires.there c.requires.counts c.requires.used c.requires.puts c.requires.gone c.in_ok-kinds.ensures left rest))

pub returns-clause-same : goal.returns-clause-same
returns-clause-same g c n none none_left none_rest =
    let k0 = c.args.self.now.0 in
    let ns = c.args.self.now.1 in
    let puts : Numbers = map seen c.args.puts.now in
    let gone : Numbers = map seen c.args.gone.now in
    let k1 = c.in_ok-kinds.kinds in
    let k2 = c.in_ok-left.left in
    let k3 = c.in_ok-kinds-2.kinds in
    let is_left : c.in_ok-numbers.gone_found.items ≡ found gone ns = c.in_ok-numbers.ensures.gone_found ∙ ap (found gone) c.numbers.ensures.all in
    let is_rest : c.in_ok-numbers.put_found.items ≡ found puts (without_all gone ns) = c.in_ok-numbers.ensures.put_found
    ∙ ap (λ (l : Numbers). found puts (without_all gone l)) c.numbers.ensures.all in
    let left : ReleasesAll k1 (found gone ns) k2 = subst (λ (os : List (Option ℕ)). ReleasesAll k1 os k2) (c.deref.ensures.value ∙ is_left) c.in_ok-left.ensures in
    let rest : ReleasesAll k2 (found puts (without_all gone ns)) k3 = subst (λ (os : List (Option ℕ)). ReleasesAll k2 os k3) (c.deref-2.ensures.value ∙ is_rest) c.in_ok-kinds-2.ensures in
    ap (λ (m : Kept g.row.N.Denot). count_at m.0 n) c.in_ok-map.ensures
    ∙ same_count k0 c.args.kinds k1 k2 k3 ns puts gone c.numbers.ensures.sound c.requires.there c.requires.counts c.requires.used c.requires.puts c.requires.gone c.in_ok-kinds.ensures left rest
    n none (subst (λ os. found_with n os ≡ 0) is_left (none_found n c.in_ok-numbers.gone_found.items none_left))
    (subst (λ os. found_with n os ≡ 0) is_rest (none_found n c.in_ok-numbers.put_found.items none_rest))
