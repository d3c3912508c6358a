use Rattle.std.proofs.Common.{◌≡◌, true, false, sym, subst, ◌∙◌, arith}
use Rattle.std.proofs.lemmas.Grind.{common_steps}
use Rattle.acl_names.specs.Below.{encloses}
use Rattle.path_map.specs.Inner.{From, IsEndOf}
use Rattle.kinds.specs.Numbered.{Numbers}
use Rattle.acl_tree.specs.Changed.{outside}
use Rattle.acl_names.specs.Paths.{PathOf}
use Rattle.acl_tree.proofs.Selected.{Head, head_of}
use Rattle.acl_tree.proofs.Outside.{order_left, end_outside, nothing_within, found_outside, meant_outside}
use Rattle.acl_tree.proofs.walk.Walk.pass_within.Goals as goal

pub invariant_of-self : goal.invariant_of-self
invariant_of-self c = (
  subst (λ (l : Numbers). IsEndOf l c.self.inside.numbers.now) (sym c.after-self-inside.ensures) (end_outside c.args.top.now c.self.inside.numbers.now c.order_law.ensures),
  c.self.invariant.1,
)

pub returns-then-is_within : goal.returns-then-is_within
returns-then-is_within c =
    let i = c.self.inside in
    let top : PathOf = c.args.top.now in
    let p : PathOf = c.in-Some.path.now in
    let head : Head p i.rest = head_of p i.rest (grind (arith, common_steps)) in
    let starts : From top i.rest = subst (λ (w : Numbers × Numbers). From top w.1) (sym c.self.view_is) c.requires in
    let inside : encloses top p ≡ true = sym c.is_within.ensures ∙ c.if-is_within.true in
    let left : c.after-self-inside.result ≡ outside top i.rest = c.after-self-inside.ensures ∙ found_outside top p i.numbers.now i.rest head c.order_law.ensures c.self.invariant.0 starts inside in
    meant_outside i.recursive i.operands.now top i.rest c.after-self-inside.result c.args.self.now c.self.view_is left

pub returns-else-is_within : goal.returns-else-is_within
returns-else-is_within c =
    let i = c.self.inside in
    let top : PathOf = c.args.top.now in
    let p : PathOf = c.in-Some.path.now in
    let head : Head p i.rest = head_of p i.rest (grind (arith, common_steps)) in
    let starts : From top i.rest = subst (λ (w : Numbers × Numbers). From top w.1) (sym c.self.view_is) c.requires in
    let out : encloses top p ≡ false = sym c.is_within.ensures ∙ c.if-is_within.false in
    let same : outside top i.rest ≡ i.rest = nothing_within top p i.rest head (order_left i.rest i.numbers.now c.order_law.ensures c.self.invariant.0) starts out in
    sym c.self.view_is ∙ meant_outside i.recursive i.operands.now top i.rest i.rest c.args.self.now c.self.view_is (sym same)
