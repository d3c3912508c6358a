use Rattle.std.proofs.Common.{◌≡◌, ℕ, ◌<◌, List, Option, map, sym, ap, subst, ◌∙◌}
use Rattle.acl_names.specs.Paths.{PathOf}
use Rattle.path_map.specs.Entries.{seen, found}
use Rattle.path_map.specs.Merged.{put_all}
use Rattle.kinds.specs.Kinds.{KindsOf, node_at, count_at}
use Rattle.kinds.specs.Numbered.{Numbers, Kept, AreSound, entries_by, entries_in}
use Rattle.kinds.specs.Inner.{AddsAll, ReleasesAll}
use Rattle.kinds.proofs.InTurn.{adds_order}
use Rattle.kinds.proofs.ByNumber.{adds_counted}
use Rattle.kinds.specs.Given.{used_at}
use Rattle.kinds.proofs.SameNodes.{same_put}
use Rattle.kinds.proofs.Puts.{sound_put, entries_put}
use Rattle.kinds.proofs.put.put_numbered.Goals as goal

pub count_entries-requires : goal.count_entries-requires
count_entries-requires g c = c.requires.added.used

pub numbers_with-requires : goal.numbers_with-requires
numbers_with-requires g c =
    let k0 = c.args.before.now.0 in
    let was = c.args.kinds in
    let k1 = c.in_ok-kinds.kinds in
    let es : Numbers = map seen c.args.entries.now in
    let puts : List (PathOf × g.row.N.Denot) = entries_by was es in
    let adds : AddsAll k0 puts k1 es = adds_counted k0 was k1 es c.requires.added c.in_ok-kinds.ensures in
    adds_order k0 k1 puts es adds c.requires.order

pub of-requires : goal.of-requires
of-requires g c =
    let k0 = c.args.before.now.0 in
    let ns = c.args.before.now.1 in
    let was = c.args.kinds in
    let k1 = c.in_ok-kinds.kinds in
    let k2 = c.in_ok-kinds-2.kinds in
    let es : Numbers = map seen c.args.entries.now in
    let puts : List (PathOf × g.row.N.Denot) = entries_by was es in
    let adds : AddsAll k0 puts k1 es = adds_counted k0 was k1 es c.requires.added c.in_ok-kinds.ensures in
    let order = adds_order k0 k1 puts es adds c.requires.order in
    let looked : c.deref.result.now ≡ found es ns = c.deref.ensures.value ∙ c.in_ok-numbers.ensures.old ∙ ap (found es) c.numbers.ensures.all in
    let releases : ReleasesAll k1 (found es ns) k2 = subst (λ (os : List (Option ℕ)). ReleasesAll k1 os k2) looked c.in_ok-kinds-2.ensures in
    let numbers : c.in_ok-numbers.numbers ≡ put_all es ns = c.in_ok-numbers.ensures.new ∙ ap (put_all es) c.numbers.ensures.all in
    subst (λ (l : Numbers). AreSound k2 l) (sym numbers) (sound_put k0 k1 k2 ns es puts c.numbers.ensures.sound order adds releases)

pub returns-clause-entries : goal.returns-clause-entries
returns-clause-entries g c =
    let k0 = c.args.before.now.0 in
    let ns = c.args.before.now.1 in
    let was = c.args.kinds in
    let k1 = c.in_ok-kinds.kinds in
    let k2 = c.in_ok-kinds-2.kinds in
    let es : Numbers = map seen c.args.entries.now in
    let puts : List (PathOf × g.row.N.Denot) = entries_by was es in
    let adds : AddsAll k0 puts k1 es = adds_counted k0 was k1 es c.requires.added c.in_ok-kinds.ensures in
    let order = adds_order k0 k1 puts es adds c.requires.order in
    let looked : c.deref.result.now ≡ found es ns = c.deref.ensures.value ∙ c.in_ok-numbers.ensures.old ∙ ap (found es) c.numbers.ensures.all in
    let releases : ReleasesAll k1 (found es ns) k2 = subst (λ (os : List (Option ℕ)). ReleasesAll k1 os k2) looked c.in_ok-kinds-2.ensures in
    let numbers : c.in_ok-numbers.numbers ≡ put_all es ns = c.in_ok-numbers.ensures.new ∙ ap (put_all es) c.numbers.ensures.all in
    ap (λ (m : Kept g.row.N.Denot). entries_in m) c.in_ok-map.ensures ∙ ap (λ (l : Numbers). entries_by k2 l) numbers ∙ entries_put k0 k1 k2 ns es puts c.numbers.ensures.sound order adds releases

pub returns-clause-same : goal.returns-clause-same
returns-clause-same g c n none other =
    let k0 = c.args.before.now.0 in
    let ns = c.args.before.now.1 in
    let was = c.args.kinds in
    let k1 = c.in_ok-kinds.kinds in
    let k2 = c.in_ok-kinds-2.kinds in
    let es : Numbers = map seen c.args.entries.now in
    let puts : List (PathOf × g.row.N.Denot) = entries_by was es in
    let adds : AddsAll k0 puts k1 es = adds_counted k0 was k1 es c.requires.added c.in_ok-kinds.ensures in
    let releases : ReleasesAll k1 c.in_ok-numbers.found.items k2 = subst (λ (os : List (Option ℕ)). ReleasesAll k1 os k2) c.deref.ensures.value c.in_ok-kinds-2.ensures in
    ap (λ (m : Kept g.row.N.Denot). used_at m.0 n) c.in_ok-map.ensures ∙ same_put k0 k1 k2 ns es puts c.in_ok-numbers.found.items c.numbers.ensures.sound adds releases n none other

pub returns-clause-numbers : goal.returns-clause-numbers
returns-clause-numbers g c =
    let es : Numbers = map seen c.args.entries.now in
    ap (λ (m : Kept g.row.N.Denot). m.1) c.in_ok-map.ensures ∙ c.in_ok-numbers.ensures.new ∙ ap (put_all es) c.numbers.ensures.all

pub returns-clause-nodes : goal.returns-clause-nodes
returns-clause-nodes g c n x is some =
    let same : c.in_ok-map.map.0 ≡ c.in_ok-kinds-2.kinds = ap (λ (m : Kept g.row.N.Denot). m.0) c.in_ok-map.ensures in
    ap (λ (k : KindsOf g.row.N.Denot). node_at k n) same
    ∙ c.in_ok-kinds-2.ensures.nodes n (subst (λ (k : KindsOf g.row.N.Denot). 0 < count_at k n) same some)
    ∙ c.in_ok-kinds.ensures.nodes n
    ∙ c.requires.added.extends n x is
