use Rattle.std.proofs.Common.{◌≡◌, ℕ, List, length, sym, ap, subst, ◌∙◌, arith}
use Rattle.kinds.specs.Kinds.{KindsOf, node_at}
use Rattle.kinds.specs.Numbered.{Kept, AreSound, entries_by}
use Rattle.kinds.specs.Renewed.{changed_where}
use Rattle.kinds.specs.Tagged.{is_one, meets, AreTagsOf, ChangesEach}
use Rattle.kinds.proofs.Renewals.{renewed_entries}
use Rattle.kinds.proofs.Tags.{few_files, no_files, renews_tagged, changes_tagged, renewed_pairs, same_where}
use Rattle.kinds.proofs.tagged.TaggedMap.with_tagged.Goals as goal

pub changed_at-requires : goal.changed_at-requires
changed_at-requires g c =
    let tags = g.N.Tagged.tags_of in
    let wanted = c.args.tags.now in
    let k : KindsOf g.row.N.Denot = c.args.self.now.0 in
    let ns = c.args.self.now.1 in
    let sound : AreSound k ns = subst (λ (m : Kept g.row.N.Denot). AreSound m.0 m.1) c.map-before.ensures c.kinds-kinds.ensures.sound in
    let few = few_files tags wanted k c.in_ok-numbers.numbers.items c.in_ok-numbers.ensures.exact ns sound c.in_ok-numbers.ensures.rising in
    let long = ap length c.deref.ensures.value in
    record { room = omega (arith, few, long, c.requires.room) }

pub invariant_of-result : goal.invariant_of-result
invariant_of-result g c =
    let tags = g.N.Tagged.tags_of in
    let wanted = c.args.tags.now in
    let k : KindsOf g.row.N.Denot = c.args.self.now.0 in
    let ns = c.args.self.now.1 in
    let sound : AreSound k ns = subst (λ (m : Kept g.row.N.Denot). AreSound m.0 m.1) c.map-before.ensures c.kinds-kinds.ensures.sound in
    let few = few_files tags wanted k c.in_ok-numbers.numbers.items c.in_ok-numbers.ensures.exact ns sound c.in_ok-numbers.ensures.rising in
    let long = ap length c.deref.ensures.value in
    let f = g.C.NodeChange.changed c.args.change.now in
    let each : ChangesEach f c.in_ok-numbers.numbers.items k c.in_ok-map.map.0 =
    subst (λ (m : Kept g.row.N.Denot). ChangesEach f c.in_ok-numbers.numbers.items m.0 c.in_ok-map.map.0) c.map-before.ensures
    (subst (λ (l : List ℕ). ChangesEach f l c.map-before.result.now.0 c.in_ok-map.map.0) c.deref.ensures.value c.in_ok-map.ensures.kinds) in
    let renews = renews_tagged tags wanted k c.in_ok-numbers.numbers.items c.in_ok-numbers.ensures.exact f c.in_ok-map.map.0 each in
    subst (AreTagsOf tags c.in_ok-map.map.0) (sym c.in_ok-pairs.ensures)
    (renewed_pairs tags (changed_where (λ x. meets (tags x) wanted) f) k c.in_ok-map.map.0 c.pairs.result.now (same_where tags wanted f c.requires.tags) renews c.pairs.ensures)

pub returns-in_err-map-clause-at_most : goal.returns-in_err-map-clause-at_most
returns-in_err-map-clause-at_most g c =
    let tags = g.N.Tagged.tags_of in
    let wanted = c.args.tags.now in
    let k : KindsOf g.row.N.Denot = c.args.self.now.0 in
    let ns = c.args.self.now.1 in
    let sound : AreSound k ns = subst (λ (m : Kept g.row.N.Denot). AreSound m.0 m.1) c.map-before.ensures c.kinds-kinds.ensures.sound in
    let few = few_files tags wanted k c.in_ok-numbers.numbers.items c.in_ok-numbers.ensures.exact ns sound c.in_ok-numbers.ensures.rising in
    let long = ap length c.deref.ensures.value in
    omega (arith, few, long, c.changed_at.ensures.at_most)

pub returns-in_err-pairs-clause-at_most : goal.returns-in_err-pairs-clause-at_most
returns-in_err-pairs-clause-at_most g c =
    let tags = g.N.Tagged.tags_of in
    let wanted = c.args.tags.now in
    let k : KindsOf g.row.N.Denot = c.args.self.now.0 in
    let ns = c.args.self.now.1 in
    let sound : AreSound k ns = subst (λ (m : Kept g.row.N.Denot). AreSound m.0 m.1) c.map-before.ensures c.kinds-kinds.ensures.sound in
    let few = few_files tags wanted k c.in_ok-numbers.numbers.items c.in_ok-numbers.ensures.exact ns sound c.in_ok-numbers.ensures.rising in
    let long = ap length c.deref.ensures.value in
    omega (arith, few, long, c.in_ok-map.ensures.at_most)

pub returns-clause-entries : goal.returns-clause-entries
returns-clause-entries g c =
    let tags = g.N.Tagged.tags_of in
    let wanted = c.args.tags.now in
    let k : KindsOf g.row.N.Denot = c.args.self.now.0 in
    let ns = c.args.self.now.1 in
    let sound : AreSound k ns = subst (λ (m : Kept g.row.N.Denot). AreSound m.0 m.1) c.map-before.ensures c.kinds-kinds.ensures.sound in
    let few = few_files tags wanted k c.in_ok-numbers.numbers.items c.in_ok-numbers.ensures.exact ns sound c.in_ok-numbers.ensures.rising in
    let long = ap length c.deref.ensures.value in
    let f = g.C.NodeChange.changed c.args.change.now in
    let each : ChangesEach f c.in_ok-numbers.numbers.items k c.in_ok-map.map.0 =
    subst (λ (m : Kept g.row.N.Denot). ChangesEach f c.in_ok-numbers.numbers.items m.0 c.in_ok-map.map.0) c.map-before.ensures
    (subst (λ (l : List ℕ). ChangesEach f l c.map-before.result.now.0 c.in_ok-map.map.0) c.deref.ensures.value c.in_ok-map.ensures.kinds) in
    let renews = renews_tagged tags wanted k c.in_ok-numbers.numbers.items c.in_ok-numbers.ensures.exact f c.in_ok-map.map.0 each in
    ap (entries_by c.in_ok-map.map.0) (c.in_ok-map.ensures.paths ∙ ap (λ (m : Kept g.row.N.Denot). m.1) c.map-before.ensures)
    ∙ renewed_entries (changed_where (λ x. meets (tags x) wanted) f) k c.in_ok-map.map.0 ns sound renews

pub returns-clause-few : goal.returns-clause-few
returns-clause-few g c =
    let tags = g.N.Tagged.tags_of in
    let wanted = c.args.tags.now in
    let k : KindsOf g.row.N.Denot = c.args.self.now.0 in
    let ns = c.args.self.now.1 in
    let sound : AreSound k ns = subst (λ (m : Kept g.row.N.Denot). AreSound m.0 m.1) c.map-before.ensures c.kinds-kinds.ensures.sound in
    let few = few_files tags wanted k c.in_ok-numbers.numbers.items c.in_ok-numbers.ensures.exact ns sound c.in_ok-numbers.ensures.rising in
    omega (arith, few, c.len-fetched.ensures, c.in_ok-numbers.numbers.ok)

pub returns-clause-none : goal.returns-clause-none
returns-clause-none g c none =
    let tags = g.N.Tagged.tags_of in
    let wanted = c.args.tags.now in
    let k : KindsOf g.row.N.Denot = c.args.self.now.0 in
    let ns = c.args.self.now.1 in
    let sound : AreSound k ns = subst (λ (m : Kept g.row.N.Denot). AreSound m.0 m.1) c.map-before.ensures c.kinds-kinds.ensures.sound in
    let few = few_files tags wanted k c.in_ok-numbers.numbers.items c.in_ok-numbers.ensures.exact ns sound c.in_ok-numbers.ensures.rising in
    let fetched : length c.in_ok-numbers.numbers.items ≡ c.len-fetched.result = omega (arith, c.len-fetched.ensures, c.in_ok-numbers.numbers.ok) in
    no_files tags wanted k c.in_ok-numbers.numbers.items c.in_ok-numbers.ensures.exact ns sound (fetched ∙ none)

pub returns-clause-at_most : goal.returns-clause-at_most
returns-clause-at_most g c =
    let tags = g.N.Tagged.tags_of in
    let wanted = c.args.tags.now in
    let k : KindsOf g.row.N.Denot = c.args.self.now.0 in
    let ns = c.args.self.now.1 in
    let sound : AreSound k ns = subst (λ (m : Kept g.row.N.Denot). AreSound m.0 m.1) c.map-before.ensures c.kinds-kinds.ensures.sound in
    let few = few_files tags wanted k c.in_ok-numbers.numbers.items c.in_ok-numbers.ensures.exact ns sound c.in_ok-numbers.ensures.rising in
    let long = ap length c.deref.ensures.value in
    omega (arith, few, long, c.in_ok-map.ensures.at_most)

pub returns-clause-kinds : goal.returns-clause-kinds
returns-clause-kinds g c =
    let tags = g.N.Tagged.tags_of in
    let wanted = c.args.tags.now in
    let k : KindsOf g.row.N.Denot = c.args.self.now.0 in
    let f = g.C.NodeChange.changed c.args.change.now in
    let each : ChangesEach f c.in_ok-numbers.numbers.items k c.in_ok-map.map.0 =
    subst (λ (m : Kept g.row.N.Denot). ChangesEach f c.in_ok-numbers.numbers.items m.0 c.in_ok-map.map.0) c.map-before.ensures
    (subst (λ (l : List ℕ). ChangesEach f l c.map-before.result.now.0 c.in_ok-map.map.0) c.deref.ensures.value c.in_ok-map.ensures.kinds) in
    changes_tagged tags wanted k c.in_ok-numbers.numbers.items c.in_ok-numbers.ensures.exact f c.in_ok-map.map.0 each

pub returns-clause-paths : goal.returns-clause-paths
returns-clause-paths g c = c.in_ok-map.ensures.paths ∙ ap (λ (m : Kept g.row.N.Denot). m.1) c.map-before.ensures

pub returns-clause-counted : goal.returns-clause-counted
returns-clause-counted g c =
    let long = ap length c.deref.ensures.value in
    omega (arith, long, c.len-fetched.ensures, c.in_ok-numbers.numbers.ok, c.in_ok-map.ensures.at_most)

pub returns-clause-among : goal.returns-clause-among
returns-clause-among g c n one =
    sym (c.in_ok-numbers.ensures.exact n) ∙ ap (is_one n) (sym c.deref.ensures.value) ∙ c.in_ok-map.ensures.noted.among n (sym (c.rising_numbers-changed.ensures.same n) ∙ one)

pub returns-clause-same : goal.returns-clause-same
returns-clause-same g c n out = c.in_ok-map.ensures.noted.same n (sym (c.rising_numbers-changed.ensures.same n) ∙ out) ∙ ap (λ (m : Kept g.row.N.Denot). node_at m.0 n) c.map-before.ensures
