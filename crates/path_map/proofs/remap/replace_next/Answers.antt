use Rattle.std.proofs.Common.{◌≡◌, ◌++◌, ◌∷◌, [], map, take, drop, not, true, false, is_some, cond, sym, ap, ◌∙◌, arith, append_assoc}
use Rattle.std.specs.FinMap.{find}
use Rattle.acl_names.specs.Paths.{path_cmp}
use Rattle.path_map.specs.Inner.{same_first}
use Rattle.path_map.proofs.Each.{with_before, with_here}
use Rattle.path_map.proofs.Found.{same_by_find}
use Rattle.path_map.proofs.remap.replace_next.Goals as goal

pub returns-then-is_none-clause-passed : goal.returns-then-is_none-clause-passed
returns-then-is_none-clause-passed g c =
    let none : is_some (find path_cmp c.args.path.now c.args.rest.now) ≡ false = ap is_some (sym c.find_near-before.ensures.found) ∙ c.is_none.ensures ∙ ap not c.if-is_none.true in
    let same : same_first c.args.path.now (drop c.find_near-before.result.0 c.args.rest.now) ≡ 0 =
    same_by_find c.args.path.now c.args.rest.now c.find_near-before.result.0 c.requires c.find_near-before.ensures.start ∙ ap (λ b. cond b 1 0) none
    in record {
      before = c.find_near-before.result.0;
      start = c.find_near-before.ensures.start;
      same = omega (arith, same);
    }

pub returns-clause-passed : goal.returns-clause-passed
returns-clause-passed g c =
    let some : is_some (find path_cmp c.args.path.now c.args.rest.now) ≡ true = ap is_some (sym c.find_near-before.ensures.found) ∙ c.is_none.ensures ∙ ap not c.if-is_none.false in
    let same : same_first c.args.path.now (drop c.find_near-before.result.0 c.args.rest.now) ≡ 1 =
    same_by_find c.args.path.now c.args.rest.now c.find_near-before.result.0 c.requires c.find_near-before.ensures.start ∙ ap (λ b. cond b 1 0) some
    in record {
      before = c.find_near-before.result.0;
      start = c.find_near-before.ensures.start;
      same = omega (arith, same);
    }

pub returns-then-is_none-clause-added : goal.returns-then-is_none-clause-added
returns-then-is_none-clause-added g c =
    c.in_ok-extend_from_slice.ensures.items
    ∙ ap (λ l. c.args.new.now.items ++ l) (
    c.values.ensures ∙ ap (λ l. map (λ e. e.1) l) (c.front.ensures ∙ sym (with_before (c.args.path.now, c.args.value) c.args.rest.now c.find_near-before.result.0 c.find_near-before.ensures.start))
    )

pub returns-clause-added : goal.returns-clause-added
returns-clause-added g c =
    let some : is_some (find path_cmp c.args.path.now c.args.rest.now) ≡ true = ap is_some (sym c.find_near-before.ensures.found) ∙ c.is_none.ensures ∙ ap not c.if-is_none.false in
    let same : same_first c.args.path.now (drop c.find_near-before.result.0 c.args.rest.now) ≡ 1 =
    same_by_find c.args.path.now c.args.rest.now c.find_near-before.result.0 c.requires c.find_near-before.ensures.start ∙ ap (λ b. cond b 1 0) some
    in
    c.in_ok-push-2.ensures.items
    ∙ ap (λ l. l ++ c.args.value ∷ []) (c.in_ok-extend_from_slice.ensures.items ∙ ap (λ l. c.args.new.now.items ++ l) (c.values.ensures ∙ ap (λ l. map (λ e. e.1) l) c.front.ensures))
    ∙ append_assoc c.args.new.now.items (map (λ e. e.1) (take c.find_near-before.result.0 c.args.rest.now)) (c.args.value ∷ [])
    ∙ ap (λ l. c.args.new.now.items ++ l) (sym (with_here (c.args.path.now, c.args.value) c.args.rest.now c.find_near-before.result.0 c.find_near-before.ensures.start same))
