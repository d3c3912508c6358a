use Rattle.std.proofs.Common.{◌≡◌, ◌<◌, false, true, length, ap, sym, subst, ◌∙◌}
use Rattle.acl_names.specs.Below.{encloses, parent}
use Rattle.path_map.specs.Entries.{seen}
use Rattle.path_map.proofs.Nearest.{Alike, is_root, not_root, root_alone, alike_begins, alike_found, alike_ends, alike_on, alike_shorter}
use Rattle.path_map.proofs.map.PathMap.nearest_above.Goals as goal

pub returns-then-is_root : goal.returns-then-is_root
returns-then-is_root g c = sym (root_alone c.args.path.now c.args.self.now (sym c.borrowed-whole.ensures ∙ is_root c.borrowed-whole.result c.is_root.result c.is_root.ensures c.if-is_root.true))

pub loop-entry-init : goal.loop-entry-init
loop-entry-init g c = alike_begins c.args.path.now c.args.self.now c.parent-top.result
    (λ root. not_root c.borrowed-whole.result c.is_root.result c.is_root.ensures c.if-is_root.false (c.borrowed-whole.ensures ∙ root))
    (c.parent-top.ensures ∙ ap parent c.borrowed-whole.ensures)

pub returns-then-is_within : goal.returns-then-is_within
returns-then-is_within g c =
    let inside : encloses (seen c.in-Some.entry).0 c.loop-entry.top ≡ true = sym c.is_within.ensures ∙ c.if-is_within.true in
    sym (alike_found c.args.path.now c.args.self.now c.loop-entry.top (seen c.in-Some.entry) c.loop-entry.invariant (sym c.in-Some.ensures) inside)

pub loop-entry-smaller : goal.loop-entry-smaller
loop-entry-smaller g c =
    let out : encloses (seen c.in-Some.entry).0 c.loop-entry.top ≡ false = sym c.is_within.ensures ∙ c.if-is_within.false in
    subst (λ q. length q < length c.loop-entry.top) (sym c.common-top.ensures) (alike_shorter c.args.self.now c.loop-entry.top (seen c.in-Some.entry) c.order_law.ensures (sym c.in-Some.ensures) out)

pub loop-entry-preserved : goal.loop-entry-preserved
loop-entry-preserved g c =
    let out : encloses (seen c.in-Some.entry).0 c.loop-entry.top ≡ false = sym c.is_within.ensures ∙ c.if-is_within.false in
    subst (λ q. Alike c.args.path.now q c.args.self.now) (sym c.common-top.ensures)
    (alike_on c.args.self.now c.loop-entry.top (seen c.in-Some.entry) c.order_law.ensures (sym c.in-Some.ensures) out c.args.path.now c.loop-entry.invariant)

pub returns : goal.returns
returns g c = sym (alike_ends c.args.path.now c.args.self.now c.loop-entry.top c.loop-entry.invariant (sym c.in_default.ensures))
