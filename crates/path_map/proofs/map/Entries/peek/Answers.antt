use Rattle.std.proofs.Common.{◌≡◌, ◌<◌, ◌++◌, Global, List, [], length, get_or, ap, subst, ◌∙◌, arith}
use Rattle.std.specs.declared.rc.Rc.{Rc}
use Rattle.std.specs.List.{flat_map}
use Rattle.std.proofs.lemmas.Grind.{common_steps}
use Rattle.acl_names.specs.Paths.{PathOf}
use Rattle.path_map.proofs.First.{is_first, is_first_part, none_in_parts, first_of_run, first_of_chunks, first_of_branches, first_of_tops}
use Rattle.path_map.proofs.map.Entries.peek.Goals as goal

abbrev value : {V : Type 0} → Rc (List (PathOf × V)) Global → List (PathOf × V)
value part = part.value

pub returns-then-not-is_empty : goal.returns-then-not-is_empty
returns-then-not-is_empty g c =
    let i = c.self.inside in
    let some : 0 < length i.run = grind (arith, common_steps) in
    let cs = flat_map value i.chunks.now in
    let bs = flat_map value i.branches.now in
    let ts = flat_map value i.tops.now in
    first_of_run c.path.result.now i.run cs bs ts c.args.self.now c.self.view_is (is_first c.path.result.now i.run (cs ++ (bs ++ ts)) some c.path.ensures)

pub returns-in-len1-up : goal.returns-in-len1-up
returns-in-len1-up g c =
    let i = c.self.inside in
    let none : length i.run ≡ 0 = grind (arith, common_steps) in
    let cs = flat_map value i.chunks.now in
    let bs = flat_map value i.branches.now in
    let ts = flat_map value i.tops.now in
    let p = c.first-in-len1-up.result.now in
    let at = c.deref-in-len1-up.ensures in
    first_of_chunks p i.run cs bs ts c.args.self.now c.self.view_is none
    (is_first_part value p i.chunks.now c.chunk-item.result (bs ++ ts) c.in-len1-up.len_at_least c.chunk-item.is
    (subst (λ es. 0 < length es) at c.first-in-len1-up.ensures.some)
    (λ d. c.first-in-len1-up.ensures.path d ∙ ap (λ es. (get_or es 0 d).0) at))

pub returns-in-len1-up-branches : goal.returns-in-len1-up-branches
returns-in-len1-up-branches g c =
    let i = c.self.inside in
    let none : length i.run ≡ 0 = grind (arith, common_steps) in
    let no_chunks : length i.chunks.now ≡ 0 = omega (arith, c.in-empty.len_below) in
    let cs = flat_map value i.chunks.now in
    let bs = flat_map value i.branches.now in
    let ts = flat_map value i.tops.now in
    let p = c.first-in-len1-up-branches.result.now in
    let at = c.deref-in-len1-up-branches.ensures in
    first_of_branches p i.run cs bs ts c.args.self.now c.self.view_is none (none_in_parts value i.chunks.now no_chunks)
    (is_first_part value p i.branches.now c.branch-item.result ts c.in-len1-up-branches.len_at_least c.branch-item.is
    (subst (λ es. 0 < length es) at c.first-in-len1-up-branches.ensures.some)
    (λ d. c.first-in-len1-up-branches.ensures.path d ∙ ap (λ es. (get_or es 0 d).0) at))

pub returns-in-len1-up-tops : goal.returns-in-len1-up-tops
returns-in-len1-up-tops g c =
    let i = c.self.inside in
    let none : length i.run ≡ 0 = grind (arith, common_steps) in
    let no_chunks : length i.chunks.now ≡ 0 = omega (arith, c.in-empty.len_below) in
    let no_branches : length i.branches.now ≡ 0 = omega (arith, c.in-empty-branches.len_below) in
    let cs = flat_map value i.chunks.now in
    let bs = flat_map value i.branches.now in
    let ts = flat_map value i.tops.now in
    let p = c.first.result.now in
    let at = c.deref.ensures in
    first_of_tops p i.run cs bs ts c.args.self.now c.self.view_is none (none_in_parts value i.chunks.now no_chunks) (none_in_parts value i.branches.now no_branches)
    (is_first_part value p i.tops.now c.top-item.result [] c.in-len1-up-tops.len_at_least c.top-item.is
    (subst (λ es. 0 < length es) at c.first.ensures.some)
    (λ d. c.first.ensures.path d ∙ ap (λ es. (get_or es 0 d).0) at))
