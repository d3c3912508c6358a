use Rattle.std.proofs.Common.{◌≡◌, ◌++◌, ℕ, List, map, sym, ap, subst, ◌∙◌}
use Rattle.path_map.specs.Entries.{seen}
use Rattle.kinds.specs.Kinds.{KindsOf, IsNode, count_at}
use Rattle.kinds.specs.Numbered.{Numbers, Kept, AreSound}
use Rattle.kinds.specs.Tagged.{numbers_found}
use Rattle.kinds.specs.Renumbered.{IsPut}
use Rattle.kinds.proofs.CountedPuts.{none_of_all, there_kept, tags_kept}
use Rattle.kinds.proofs.tagged.TaggedMap.put_counted.Goals as goal

pub put_found-requires-clause-there : goal.put_found-requires-clause-there
put_found-requires-clause-there g c n is =
    let k0 : KindsOf g.row.N.Denot = c.args.self.now.0 in
    there_kept g.N.Tagged.tags_of c.args.others.now k0 c.args.kinds c.requires.tags n (subst (λ (m : Kept g.row.N.Denot). IsNode m.0 n) c.map-before.ensures is)

pub after_tags-requires : goal.after_tags-requires
after_tags-requires g c n other =
    let k0 : KindsOf g.row.N.Denot = c.args.self.now.0 in
    let ns = c.args.self.now.1 in
    let sound : AreSound k0 ns = subst (λ (m : Kept g.row.N.Denot). AreSound m.0 m.1) c.map-before.ensures c.kinds-kinds.ensures.sound in
    let puts : Numbers = map seen c.args.puts.now in
    let gone : Numbers = map seen c.args.gone.now in
    let first : c.in_ok-numbers.numbers.items ≡ map (λ e. e.1) c.args.puts.now = c.in_ok-numbers.ensures in
    let wide : List ℕ = c.extend_from_slice.new.self.items in
    let second : c.push_found.new.new.items ≡ wide ++ numbers_found c.in_ok-map.gone_found.items =
    c.in_ok-push_found.ensures ∙ ap (λ os. wide ++ numbers_found os) c.deref.ensures.value in
    let all : c.push_found-2.new.new.items ≡ c.push_found.new.new.items ++ numbers_found c.in_ok-map.put_found.items =
    c.in_ok-push_found-2.ensures ∙ ap (λ os. c.push_found.new.new.items ++ numbers_found os) c.deref-2.ensures.value in
    let none = none_of_all n c.args.puts.now c.args.others.now c.in_ok-map.gone_found.items c.in_ok-map.put_found.items c.in_ok-numbers.numbers.items wide c.push_found.new.new.items
    c.push_found-2.new.new.items first c.in_ok-extend_from_slice.ensures.items second all other in
    let put : IsPut c.args.self.now c.args.kinds puts gone c.in_ok-map.map =
    subst (λ (m : Kept g.row.N.Denot). IsPut m c.args.kinds puts gone c.in_ok-map.map) c.map-before.ensures c.in_ok-map.ensures.put in
    tags_kept g.N.Tagged.tags_of c.args.others.now k0 c.args.kinds c.in_ok-map.map.0 ns sound c.requires.tags put.nodes n none.1.0
    (c.in_ok-map.ensures.same n none.0 none.1.1.0 none.1.1.1 ∙ ap (λ (m : Kept g.row.N.Denot). count_at m.0 n) c.map-before.ensures)

pub returns : goal.returns
returns g c =
    let puts : Numbers = map seen c.args.puts.now in
    let gone : Numbers = map seen c.args.gone.now in
    let put : IsPut c.args.self.now c.args.kinds puts gone c.in_ok-map.map =
    subst (λ (m : Kept g.row.N.Denot). IsPut m c.args.kinds puts gone c.in_ok-map.map) c.map-before.ensures c.in_ok-map.ensures.put in
    subst (λ (m : Kept g.row.N.Denot). IsPut c.args.self.now c.args.kinds puts gone m) (sym c.in_ok-new.ensures) put
