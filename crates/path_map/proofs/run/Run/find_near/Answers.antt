use Rattle.std.proofs.Common.{◌≡◌, ◌<◌, ◌+◌, Less, Equal, length, get_or, sym, subst, ◌∙◌, arith}
use Rattle.acl_names.specs.Paths.{PathOf, path_cmp}
use Rattle.path_map.specs.Entries.{seen}
use Rattle.path_map.specs.Inner.{IsStart}
use Rattle.path_map.proofs.Zipped.{start_gap, start_here, found_at, none_between}
use Rattle.path_map.proofs.run.Run.find_near.Goals as goal

pub returns-in-Equal-clause-start : goal.returns-in-Equal-clause-start
returns-in-Equal-clause-start g c =
    let lt : c.loop-low.low + c.min-step.result < length c.args.self.now = omega arith in
    let same : path_cmp c.args.path.now (seen c.at-value.result).0 ≡ Equal = sym c.order.ensures ∙ c.in-Equal.is in
    start_here c.args.self.now c.args.path.now (c.loop-low.low + c.min-step.result) (seen c.at-value.result) c.requires lt c.at-value.ensures same

pub returns-in-Equal-clause-found : goal.returns-in-Equal-clause-found
returns-in-Equal-clause-found g c =
    let at = c.loop-low.low + c.min-step.result in
    let lt : at < length c.args.self.now = omega arith in
    let same : path_cmp c.args.path.now (seen c.at-value.result).0 ≡ Equal = sym c.order.ensures ∙ c.in-Equal.is in
    let start : IsStart c.args.self.now c.args.path.now at = start_here c.args.self.now c.args.path.now at (seen c.at-value.result) c.requires lt c.at-value.ensures same in
    sym (found_at c.args.self.now c.args.path.now at (seen c.at-value.result) start lt c.at-value.ensures same)

pub returns-clause-start : goal.returns-clause-start
returns-clause-start g c =
    let same : c.loop-low.high ≡ c.loop-low.low = omega (arith, c.loop-low.invariant.ordered, c.loop-low-test.false) in
    start_gap c.args.self.now c.args.path.now c.loop-low.low c.requires (omega (arith, same, c.loop-low.invariant.in_range)) c.loop-low.invariant.last
    (λ d lt. subst (λ n. path_cmp c.args.path.now (get_or c.args.self.now n d).0 ≡ Less) same (c.loop-low.invariant.next d (omega (arith, same, lt))))

pub returns-clause-found : goal.returns-clause-found
returns-clause-found g c =
    let same : c.loop-low.high ≡ c.loop-low.low = omega (arith, c.loop-low.invariant.ordered, c.loop-low-test.false) in
    let next : (d : PathOf × g.row.V.Denot) → c.loop-low.low < length c.args.self.now → path_cmp c.args.path.now (get_or c.args.self.now c.loop-low.low d).0 ≡ Less =
    λ d lt. subst (λ n. path_cmp c.args.path.now (get_or c.args.self.now n d).0 ≡ Less) same (c.loop-low.invariant.next d (omega (arith, same, lt)))
    in
    sym (none_between c.args.self.now c.args.path.now c.loop-low.low c.requires
    (start_gap c.args.self.now c.args.path.now c.loop-low.low c.requires (omega (arith, same, c.loop-low.invariant.in_range)) c.loop-low.invariant.last next) next)
