use Rattle.std.proofs.Common.{◌≡◌, ◌++◌, ◌∷◌, [], ◌≤◌, length, drop, sym, ap, subst, ◌∙◌, arith, length-drop}
use Rattle.path_map.specs.Entries.{IsInOrder, seen}
use Rattle.path_map.proofs.Each.{in_order-drop}
use Rattle.path_map.proofs.Found.{found_more}
use Rattle.path_map.proofs.chunk.ChunkPart.push_found.Goals as goal

pub find_near-before-requires : goal.find_near-before-requires
find_near-before-requires g c =
    subst IsInOrder (sym c.back-rest.ensures) (in_order-drop c.loop-entry.at c.run-run.result (subst IsInOrder (sym c.run-run.ensures.all) c.run-run.ensures.order))

pub loop-entry-preserved : goal.loop-entry-preserved
loop-entry-preserved g c =
    let k = c.find_near-before.result.0 in
    let fits : k ≤ length c.back-rest.result = c.find_near-before.ensures.start.in_range in
    let long : length c.back-rest.result ≡ length (drop c.loop-entry.at c.run-run.result) = ap length c.back-rest.ensures in
    record {
      in_range = omega (arith, fits, long, length-drop c.loop-entry.at c.run-run.result, c.loop-entry.invariant.in_range);
      all =
          found_more seen c.run-run.result c.back-rest.result c.args.asked.now c.loop-entry.at c.loop-entry.entry-index k c.entry-item.result c.loop-entry.new.items _ _
          c.loop-entry-test.true c.entry-item.is c.requires c.back-rest.ensures c.find_near-before.ensures.start
          (c.in_ok-push.ensures.items ∙ ap (λ o. c.loop-entry.new.items ++ o ∷ []) c.find_near-before.ensures.found) c.loop-entry.invariant.all;
    }
