use Rattle.std.proofs.Common.{◌≡◌, ◌≢◌, ◌∷◌, ◌-◌, ◌<◌, [], false, List, Less, length, take, drop, sym, ap, subst, ◌∙◌, arith}
use Rattle.std.proofs.lemmas.Grind.{common_steps}
use Rattle.acl_names.specs.Paths.{path_cmp, PathOf}
use Rattle.path_map.specs.Below.{from}
use Rattle.path_map.specs.Inner.{IsEndOf}
use Rattle.kinds.specs.Numbered.{Numbers}
use Rattle.acl_tree.specs.Inner.{Ascend}
use Rattle.acl_tree.specs.Operands.{means, files_meant}
use Rattle.acl_tree.proofs.Selected.{Head, head_of, none_meant, end_of_end, end_after, end_at, sought_meant, sought_end, sought_fewer, passed_meant}
use Rattle.acl_tree.proofs.walk.Walk.next.Goals as goal

pub returns-in_default-operands : goal.returns-in_default-operands
returns-in_default-operands c =
    let i = c.loop-path.self-inside in
    let none : i.operands.now ≡ [] = grind (arith, common_steps) in
    let empty : files_meant i.recursive i.operands.now i.rest ≡ [] = ap (λ ops. files_meant i.recursive ops i.rest) none ∙ none_meant i.recursive i.rest in
    (sym c.loop-path.invariant.meant ∙ empty, empty)

pub invariant_of-self-then-means : goal.invariant_of-self-then-means
invariant_of-self-then-means c =
    let i = c.loop-path.self-inside in
    let p : PathOf = c.in-Some.path.now in
    let head : Head p i.rest = head_of p i.rest (grind (arith, common_steps)) in
    let more : c.next.new.self ≡ head.more = grind (arith, common_steps) in (
      end_of_end c.next.new.self i.rest i.numbers.now (end_after head.entry c.next.new.self i.rest (head.is ∙ ap (λ (l : Numbers). head.entry ∷ l) (sym more))) c.loop-path.invariant.end,
      c.loop-path.invariant.ascend,
    )

pub loop-path-smaller-then-eq : goal.loop-path-smaller-then-eq
loop-path-smaller-then-eq c =
    let i = c.loop-path.self-inside in
    let p : PathOf = c.in-Some.path.now in
    let q : PathOf = c.operand-item.result in
    let ops : List PathOf = i.operands.now in
    let qs : List PathOf = take (length ops - 1) (drop 1 ops) in
    let head : Head p i.rest = head_of p i.rest (grind (arith, common_steps)) in
    let split : ops ≡ q ∷ qs = grind (arith, common_steps) in
    let lt : path_cmp p q ≡ Less = grind (arith, common_steps) in
    let fewer : length (from q i.numbers.now) < length i.rest = sought_fewer i.recursive i.numbers.now i.rest ops qs q p c.loop-path.invariant.order c.loop-path.invariant.end head split lt in
    omega (arith, fewer, ap length c.from-self-inside.ensures)

pub loop-path-preserved-then-eq : goal.loop-path-preserved-then-eq
loop-path-preserved-then-eq c =
    let i = c.loop-path.self-inside in
    let p : PathOf = c.in-Some.path.now in
    let q : PathOf = c.operand-item.result in
    let ops : List PathOf = i.operands.now in
    let qs : List PathOf = take (length ops - 1) (drop 1 ops) in
    let head : Head p i.rest = head_of p i.rest (grind (arith, common_steps)) in
    let split : ops ≡ q ∷ qs = grind (arith, common_steps) in
    let lt : path_cmp p q ≡ Less = grind (arith, common_steps) in
    let rest : c.from-self-inside.result ≡ from q i.numbers.now = c.from-self-inside.ensures in
    record {
      order = c.loop-path.invariant.order;
      end = subst (λ (l : Numbers). IsEndOf l i.numbers.now) (sym rest) (end_at q i.numbers.now c.loop-path.invariant.order);
      ascend = c.loop-path.invariant.ascend;
      meant =
          ap (files_meant i.recursive ops) rest
          ∙ sought_meant i.recursive i.numbers.now i.rest ops qs q p c.loop-path.invariant.order c.loop-path.invariant.end head split lt c.loop-path.invariant.ascend
          ∙ c.loop-path.invariant.meant;
      left =
          end_of_end c.from-self-inside.result i.rest _
          (subst (λ (l : Numbers). IsEndOf l i.rest) (sym rest) (sought_end i.recursive i.numbers.now i.rest ops qs q p c.loop-path.invariant.order c.loop-path.invariant.end head split lt))
          c.loop-path.invariant.left;
    }

pub loop-path-preserved : goal.loop-path-preserved
loop-path-preserved c =
    let i = c.loop-path.self-inside in
    let p : PathOf = c.in-Some.path.now in
    let q : PathOf = c.operand-item.result in
    let ops : List PathOf = i.operands.now in
    let qs : List PathOf = take (length ops - 1) (drop 1 ops) in
    let head : Head p i.rest = head_of p i.rest (grind (arith, common_steps)) in
    let split : ops ≡ q ∷ qs = grind (arith, common_steps) in
    let not_before : path_cmp p q ≢ Less = grind (arith, common_steps) in
    let out : means i.recursive q p ≡ false = sym c.means.ensures ∙ c.if-means.false in
    record {
      order = c.loop-path.invariant.order;
      end = c.loop-path.invariant.end;
      ascend = (subst Ascend split c.loop-path.invariant.ascend).1;
      meant = passed_meant i.recursive i.numbers.now i.rest ops qs q p c.loop-path.invariant.order c.loop-path.invariant.end head split not_before out ∙ c.loop-path.invariant.meant;
      left = c.loop-path.invariant.left;
    }
