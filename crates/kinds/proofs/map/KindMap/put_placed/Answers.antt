use Rattle.std.proofs.Common.{◌≡◌, ℕ, List, map, length, sym, ap, subst, ◌∙◌}
use Rattle.std.specs.List.{AllByRecursion}
use Rattle.std.proofs.lemmas.List.{length-map}
use Rattle.acl_names.specs.Paths.{PathOf}
use Rattle.path_map.specs.Entries.{seen}
use Rattle.path_map.specs.Merged.{put_all}
use Rattle.kinds.specs.Kinds.{KindsOf, IsNode}
use Rattle.kinds.specs.Numbered.{Numbers, entries_by, entries_in, paths_with}
use Rattle.kinds.proofs.SameNodes.{none_placed}
use Rattle.kinds.specs.Placed.{placed, given, ArePlaces, by_place, AddsNodes}
use Rattle.kinds.specs.Counted.{AddsUncounted}
use Rattle.kinds.proofs.PlacedNodes.{all_given, nodes_used, placed_entries, placed_order}
use Rattle.kinds.proofs.ByNumber.{uncounted_placed}
use Rattle.kinds.proofs.map.KindMap.put_placed.Goals as goal

pub entries_numbered-requires : goal.entries_numbered-requires
entries_numbered-requires g c =
    let k0 : KindsOf g.row.N.Denot = c.args.self.now.0 in
    let nodes = map (given k0) c.args.nodes.now in
    let adds : AddsNodes k0 nodes c.in_ok-kinds.numbers.items c.in_ok-kinds.kinds =
    subst (λ (k : KindsOf g.row.N.Denot). AddsNodes k (map (given k) c.args.nodes.now) c.in_ok-kinds.numbers.items c.in_ok-kinds.kinds)
    (c.in_ok-share.ensures ∙ c.kinds.ensures.all) c.in_ok-kinds.ensures in
    let long : length c.args.nodes.now ≡ length c.deref.result.now = sym (length-map c.args.nodes.now (given k0)) ∙ sym adds.long ∙ sym (ap length c.deref.ensures.value) in
    subst (λ m. ArePlaces m (map seen c.args.entries.now)) long c.requires.places

pub put_numbered-requires-clause-added : goal.put_numbered-requires-clause-added
put_numbered-requires-clause-added g c =
    let k0 : KindsOf g.row.N.Denot = c.args.self.now.0 in
    let k1 = c.in_ok-kinds.kinds in
    let numbers = c.in_ok-kinds.numbers.items in
    let nodes = map (given k0) c.args.nodes.now in
    let asked : Numbers = map seen c.args.entries.now in
    let adds : AddsNodes k0 nodes numbers k1 = subst (λ (k : KindsOf g.row.N.Denot). AddsNodes k (map (given k) c.args.nodes.now) numbers k1)
    (c.in_ok-share.ensures ∙ c.kinds.ensures.all) c.in_ok-kinds.ensures in
    let long : length c.args.nodes.now ≡ length numbers = sym (length-map c.args.nodes.now (given k0)) ∙ sym adds.long in
    let are : AllByRecursion (λ n. IsNode k1 n) numbers = nodes_used k0 k1 nodes (all_given k0 c.args.nodes.now c.requires.given) numbers adds in
    let same : map (seen {V = ℕ}) c.deref-2.result.now ≡ by_place numbers asked =
    ap (map (seen {V = ℕ})) c.deref-2.ensures.value ∙ c.in_ok-entries.ensures ∙ ap (λ (ns : List ℕ). by_place ns asked) c.deref.ensures.value in
    subst (λ (es : Numbers). AddsUncounted k0 k1 es) (sym same)
    (uncounted_placed k0 k1 nodes numbers asked adds are (subst (λ m. ArePlaces m asked) long c.requires.places))

pub put_numbered-requires-clause-order : goal.put_numbered-requires-clause-order
put_numbered-requires-clause-order g c =
    let k1 = c.in_ok-kinds.kinds in
    let asked : Numbers = map seen c.args.entries.now in
    let same : map (seen {V = ℕ}) c.deref-2.result.now ≡ by_place c.deref.result.now asked = ap (map (seen {V = ℕ})) c.deref-2.ensures.value ∙ c.in_ok-entries.ensures in
    placed_order k1 c.deref.result.now asked (map seen c.deref-2.result.now) (put_numbered-requires-clause-added g c).used same c.requires.order

pub returns-clause-entries : goal.returns-clause-entries
returns-clause-entries g c =
    let k0 : KindsOf g.row.N.Denot = c.args.self.now.0 in
    let k1 = c.in_ok-kinds.kinds in
    let numbers = c.in_ok-kinds.numbers.items in
    let nodes = map (given k0) c.args.nodes.now in
    let asked : Numbers = map seen c.args.entries.now in
    let adds : AddsNodes k0 nodes numbers k1 = subst (λ (k : KindsOf g.row.N.Denot). AddsNodes k (map (given k) c.args.nodes.now) numbers k1)
    (c.in_ok-share.ensures ∙ c.kinds.ensures.all) c.in_ok-kinds.ensures in
    let same : map (seen {V = ℕ}) c.deref-2.result.now ≡ by_place numbers asked =
    ap (map (seen {V = ℕ})) c.deref-2.ensures.value ∙ c.in_ok-entries.ensures ∙ ap (λ (ns : List ℕ). by_place ns asked) c.deref.ensures.value in
    let puts : entries_by k1 (map seen c.deref-2.result.now) ≡ placed nodes asked =
    ap (λ (es : Numbers). entries_by k1 es) same
    ∙ placed_entries k0 k1 nodes (all_given k0 c.args.nodes.now c.requires.given) numbers adds asked
    (subst (λ m. ArePlaces m asked) (sym (length-map c.args.nodes.now (given k0))) c.requires.places) in
    c.in_ok-map.ensures.entries
    ∙ ap (λ (es : List (PathOf × g.row.N.Denot)). put_all es (entries_in c.args.self.now)) puts

pub returns-clause-same : goal.returns-clause-same
returns-clause-same g c n other found =
    let k0 : KindsOf g.row.N.Denot = c.args.self.now.0 in
    let k1 = c.in_ok-kinds.kinds in
    let numbers = c.in_ok-kinds.numbers.items in
    let nodes = map (given k0) c.args.nodes.now in
    let asked : Numbers = map seen c.args.entries.now in
    let adds : AddsNodes k0 nodes numbers k1 = subst (λ (k : KindsOf g.row.N.Denot). AddsNodes k (map (given k) c.args.nodes.now) numbers k1)
    (c.in_ok-share.ensures ∙ c.kinds.ensures.all) c.in_ok-kinds.ensures in
    let long : length c.args.nodes.now ≡ length numbers = sym (length-map c.args.nodes.now (given k0)) ∙ sym adds.long in
    let same : map (seen {V = ℕ}) c.deref-2.result.now ≡ by_place numbers asked =
    ap (map (seen {V = ℕ})) c.deref-2.ensures.value ∙ c.in_ok-entries.ensures ∙ ap (λ (ns : List ℕ). by_place ns asked) c.deref.ensures.value in
    c.in_ok-map.ensures.same n (ap (paths_with n) same ∙ none_placed n numbers asked (subst (λ m. ArePlaces m asked) long c.requires.places) other) found

pub returns-clause-numbers : goal.returns-clause-numbers
returns-clause-numbers g c =
    let numbers = c.in_ok-kinds.numbers.items in
    let asked : Numbers = map seen c.args.entries.now in
    let same : map (seen {V = ℕ}) c.deref-2.result.now ≡ by_place numbers asked =
    ap (map (seen {V = ℕ})) c.deref-2.ensures.value ∙ c.in_ok-entries.ensures ∙ ap (λ (ns : List ℕ). by_place ns asked) c.deref.ensures.value in
    c.in_ok-map.ensures.numbers ∙ ap (λ (es : Numbers). put_all es c.args.self.now.1) same
