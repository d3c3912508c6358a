use Rattle.std.proofs.Common.{◌≡◌, ℕ, ◌<◌, List, Option, map, sym, ap, subst, ◌∙◌}
use Rattle.acl_names.specs.Paths.{PathOf}
use Rattle.path_map.specs.Entries.{seen, found}
use Rattle.path_map.specs.Merged.{without_all}
use Rattle.kinds.specs.Kinds.{KindsOf, node_at, count_at}
use Rattle.kinds.specs.Numbered.{Numbers, Kept, AreSound, entries_by, entries_in}
use Rattle.kinds.specs.Inner.{ReleasesAll}
use Rattle.kinds.specs.Tagged.{SameBut, numbers_found}
use Rattle.kinds.proofs.SameNodes.{same_released}
use Rattle.kinds.proofs.Puts.{sound_without, entries_without}
use Rattle.kinds.proofs.map.KindMap.without_found.Goals as goal

pub of-requires : goal.of-requires
of-requires g c =
    let k0 = c.args.self.now.0 in
    let ns = c.args.self.now.1 in
    let k1 = c.in_ok-kinds.kinds in
    let gone : List (PathOf × g.row.W.Denot) = map seen c.args.gone.now in
    let looked : c.deref.result.now ≡ found gone ns = c.deref.ensures.value ∙ c.in_ok-found.ensures ∙ ap (found gone) c.numbers.ensures.all in
    let shared : c.in_ok-share.field-0 ≡ k0 = c.in_ok-share.ensures ∙ c.kinds.ensures.all in
    let releases : ReleasesAll k0 (found gone ns) k1 =
    subst (λ (k : KindsOf g.row.N.Denot). ReleasesAll k (found gone ns) k1) shared (subst (λ (os : List (Option ℕ)). ReleasesAll c.in_ok-share.field-0 os k1) looked c.in_ok-kinds.ensures) in
    let numbers : c.in_ok-numbers.numbers ≡ without_all gone ns = c.in_ok-numbers.ensures ∙ ap (without_all gone) c.numbers-2.ensures.all in
    subst (λ (l : Numbers). AreSound k1 l) (sym numbers) (sound_without k0 k1 ns gone c.kinds.ensures.sound c.requires releases)

pub returns-clause-entries : goal.returns-clause-entries
returns-clause-entries g c =
    let k0 = c.args.self.now.0 in
    let ns = c.args.self.now.1 in
    let k1 = c.in_ok-kinds.kinds in
    let gone : List (PathOf × g.row.W.Denot) = map seen c.args.gone.now in
    let looked : c.deref.result.now ≡ found gone ns = c.deref.ensures.value ∙ c.in_ok-found.ensures ∙ ap (found gone) c.numbers.ensures.all in
    let shared : c.in_ok-share.field-0 ≡ k0 = c.in_ok-share.ensures ∙ c.kinds.ensures.all in
    let releases : ReleasesAll k0 (found gone ns) k1 =
    subst (λ (k : KindsOf g.row.N.Denot). ReleasesAll k (found gone ns) k1) shared (subst (λ (os : List (Option ℕ)). ReleasesAll c.in_ok-share.field-0 os k1) looked c.in_ok-kinds.ensures) in
    let numbers : c.in_ok-numbers.numbers ≡ without_all gone ns = c.in_ok-numbers.ensures ∙ ap (without_all gone) c.numbers-2.ensures.all in
    ap (λ (m : Kept g.row.N.Denot). entries_in m) c.in_ok-map.ensures ∙ ap (λ (l : Numbers). entries_by k1 l) numbers ∙ entries_without k0 k1 ns gone c.kinds.ensures.sound c.requires releases

pub returns-clause-same : goal.returns-clause-same
returns-clause-same g c =
    let k0 = c.args.self.now.0 in
    let k1 = c.in_ok-kinds.kinds in
    let shared : c.in_ok-share.field-0 ≡ k0 = c.in_ok-share.ensures ∙ c.kinds.ensures.all in
    let releases : ReleasesAll k0 c.in_ok-found.found.items k1 =
    subst (λ (k : KindsOf g.row.N.Denot). ReleasesAll k c.in_ok-found.found.items k1) shared
    (subst (λ (os : List (Option ℕ)). ReleasesAll c.in_ok-share.field-0 os k1) c.deref.ensures.value c.in_ok-kinds.ensures) in
    subst (λ (m : Kept g.row.N.Denot). SameBut (numbers_found c.in_ok-found.found.items) k0 m.0) (sym c.in_ok-map.ensures) (same_released k0 k1 c.in_ok-found.found.items releases)

pub returns-clause-numbers : goal.returns-clause-numbers
returns-clause-numbers g c =
    let gone : List (PathOf × g.row.W.Denot) = map seen c.args.gone.now in
    ap (λ (m : Kept g.row.N.Denot). m.1) c.in_ok-map.ensures ∙ c.in_ok-numbers.ensures ∙ ap (without_all gone) c.numbers-2.ensures.all

pub returns-clause-nodes : goal.returns-clause-nodes
returns-clause-nodes g c n some =
    let k1 = c.in_ok-kinds.kinds in
    let same : c.in_ok-map.map.0 ≡ k1 = ap (λ (m : Kept g.row.N.Denot). m.0) c.in_ok-map.ensures in
    ap (λ (k : KindsOf g.row.N.Denot). node_at k n) same
    ∙ c.in_ok-kinds.ensures.nodes n (subst (λ (k : KindsOf g.row.N.Denot). 0 < count_at k n) same some)
    ∙ ap (λ (k : KindsOf g.row.N.Denot). node_at k n) (c.in_ok-share.ensures ∙ c.kinds.ensures.all)
