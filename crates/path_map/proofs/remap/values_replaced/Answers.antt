use Rattle.std.proofs.Common.{◌≡◌, ◌++◌, ◌≤◌, [], length, map, drop, sym, ap, subst, ◌∙◌, arith, length-drop}
use Rattle.std.proofs.lemmas.List.{drop_all}
use Rattle.path_map.specs.Entries.{IsInOrder, seen}
use Rattle.path_map.proofs.Each.{with_more, with_none, in_order-drop, passed_in_range}
use Rattle.path_map.proofs.Found.{found_passed}
use Rattle.path_map.proofs.remap.values_replaced.Goals as goal

pub replace_next-requires : goal.replace_next-requires
replace_next-requires g c = subst IsInOrder (sym c.back.ensures) (in_order-drop c.loop-put.at c.args.run.now c.requires.entries)

pub loop-put-preserved : goal.loop-put-preserved
loop-put-preserved g c =
    let n = c.in_ok-at.field-0 in
    let fits : n ≤ length c.back.result = passed_in_range c.back.result c.put-item.result.0.now n c.in_ok-at.ensures.passed in
    let long : length c.back.result ≡ length (drop c.loop-put.at c.args.run.now) = ap length c.back.ensures in
    record {
      in_range = omega (arith, fits, long, length-drop c.loop-put.at c.args.run.now, c.loop-put.invariant.in_range);
      all =
          with_more seen c.args.run.now c.back.result c.args.puts.now c.loop-put.at c.loop-put.put-index n c.put-item.result c.loop-put.new.items _ _
          c.loop-put-test.true c.put-item.is c.requires.puts c.requires.entries c.back.ensures c.in_ok-at.ensures.passed c.in_ok-at.ensures.added c.loop-put.invariant.all;
      was =
          found_passed seen c.args.run.now c.back.result c.args.puts.now c.loop-put.at c.loop-put.put-index n c.put-item.result c.loop-put.was.items _ _
          c.loop-put-test.true c.put-item.is c.requires.puts c.back.ensures c.in_ok-at.ensures.passed c.in_ok-at.ensures.was c.loop-put.invariant.was;
    }

pub returns-clause-values : goal.returns-clause-values
returns-clause-values g c =
    let none : drop c.loop-put.put-index c.args.puts.now ≡ [] = drop_all c.loop-put.put-index c.args.puts.now c.loop-put-test.false in
    c.in_ok-extend_from_slice.ensures.items
    ∙ ap (λ l. c.loop-put.new.items ++ l) (
    c.values.ensures
    ∙ ap (λ l. map (λ e. e.1) l) (c.back-2.ensures ∙ sym (with_none (map seen (drop c.loop-put.put-index c.args.puts.now)) (drop c.loop-put.at c.args.run.now) (ap (map seen) none)))
    )
    ∙ c.loop-put.invariant.all
