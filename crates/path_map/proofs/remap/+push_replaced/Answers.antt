use Rattle.std.proofs.Common.{◌≡◌, ◌<◌, ◌/◌, ◌++◌, length, map, get_or, sym, ap, subst, ◌∙◌, arith}
use Rattle.std.specs.List.{flat_map}
use Rattle.std.proofs.lemmas.Grind.{common_steps}
use Rattle.std.specs.Result.{OnOk}
use Rattle.path_map.specs.Entries.{seen, found}
use Rattle.path_map.proofs.Shared.{nil_map}
use Rattle.path_map.proofs.Joined.{front_order, back_order, order_of_front, order_of_back, parts_added, no_part}
use Rattle.path_map.proofs.Each.{with_joined, with_none}
use Rattle.path_map.proofs.Found.{found_joined}
use Rattle.path_map.proofs.remap.+push_replaced.Goals as goal

pub returns-then-is_empty-clause-entries : goal.returns-then-is_empty-clause-entries
returns-then-is_empty-clause-entries g t c =
    let no_puts : length c.args.puts.now ≡ 0 = grind (arith, common_steps) in
    parts_added (λ r. r.value) g.P.Part.entries_of _ _ _ c.in_ok-share_all.ensures.all
    ∙ ap (λ l. flat_map (λ c. g.P.Part.entries_of c.value) c.args.new.now.items ++ l)
    (sym (with_none _ (flat_map (λ c. g.P.Part.entries_of c.value) c.args.parts.now) (nil_map seen c.args.puts.now no_puts)))

pub push_replaced-requires : goal.push_replaced-requires
push_replaced-requires g t c κs within =
    let less : length c.split_at.result.0.now < t = omega (arith, c.split_at.ensures.front_len, c.in_default.len_at_least) in (
      less,
      (
        within.0,
        (
          within.1,
          (
            order_of_front (λ c. g.P.Part.entries_of c.value)
                (length c.args.parts.now / 2) c.args.parts.now c.split_at.result.0.now c.split_at.result.1.now c.split_at.ensures.front c.split_at.ensures.back c.requires.entries,
            front_order seen c.start.result c.args.puts.now c.split_at-in_default.result.0.now c.split_at-in_default.result.1.now
                c.split_at-in_default.ensures.front c.split_at-in_default.ensures.back c.requires.puts,
          ),
        ),
      ),
    )

pub push_replaced-requires-in_default : goal.push_replaced-requires-in_default
push_replaced-requires-in_default g t c κs within =
    let less : length c.split_at.result.1.now < t = omega (arith, c.split_at.ensures.back_len, c.in_default.len_at_least) in (
      less,
      (
        within.0,
        (
          within.1,
          (
            order_of_back (λ c. g.P.Part.entries_of c.value)
                (length c.args.parts.now / 2) c.args.parts.now c.split_at.result.0.now c.split_at.result.1.now c.split_at.ensures.front c.split_at.ensures.back c.requires.entries,
            back_order seen c.start.result c.args.puts.now c.split_at-in_default.result.0.now c.split_at-in_default.result.1.now
                c.split_at-in_default.ensures.front c.split_at-in_default.ensures.back c.requires.puts,
          ),
        ),
      ),
    )

pub returns-in_ok-push_replaced-in_default-2-clause-entries : goal.returns-in_ok-push_replaced-in_default-2-clause-entries
returns-in_ok-push_replaced-in_default-2-clause-entries g t c =
    let some : 0 < length c.split_at.result.1.now = omega (arith, c.split_at.ensures.back_len, c.in_default.len_at_least) in
    let part = c.index-right-0.result in
    with_joined (λ c. g.P.Part.entries_of c.value) seen (length c.args.parts.now / 2) c.start.result
    c.args.parts.now c.split_at.result.0.now c.split_at.result.1.now
    c.args.puts.now c.split_at-in_default.result.0.now c.split_at-in_default.result.1.now
    part c.first-middle.result.now
    (flat_map (λ c. g.P.Part.entries_of c.value) c.args.new.now.items) (flat_map (λ c. g.P.Part.entries_of c.value) c.push_replaced.new.new.items)
    (flat_map (λ c. g.P.Part.entries_of c.value) c.push_replaced-in_default.new.new.items)
    c.requires.entries c.split_at.ensures.front c.split_at.ensures.back
    some c.index-right-0.is
    (subst (λ n. 0 < n) (ap (λ es. length (g.P.Part.entries_of es)) c.deref-in_default.ensures) c.first-middle.ensures.some)
    (λ d. c.first-middle.ensures.path d ∙ ap (λ es. (get_or (g.P.Part.entries_of es) 0 d).0) c.deref-in_default.ensures)
    c.start.ensures c.split_at-in_default.ensures.front c.split_at-in_default.ensures.back
    c.in_ok-push_replaced-in_default.ensures.entries c.in_ok-push_replaced-in_default-2.ensures.entries

pub returns-in-empty-clause-was : goal.returns-in-empty-clause-was
returns-in-empty-clause-was g t c =
    let none : length c.args.parts.now ≡ 0 = omega (arith, c.in-empty.len_below) in
    subst (λ es. OnOk c.push_none.result (c.push_none.new.new.items ≡ c.args.was.now.items ++ found (map seen c.args.puts.now) es))
    (sym (no_part (λ c. g.P.Part.entries_of c.value) c.args.parts.now none)) c.push_none.ensures

pub returns-in_ok-push_replaced-in_default-2-clause-was : goal.returns-in_ok-push_replaced-in_default-2-clause-was
returns-in_ok-push_replaced-in_default-2-clause-was g t c =
    let some : 0 < length c.split_at.result.1.now = omega (arith, c.split_at.ensures.back_len, c.in_default.len_at_least) in
    let part = c.index-right-0.result in
    found_joined (λ c. g.P.Part.entries_of c.value) seen (length c.args.parts.now / 2) c.start.result
    c.args.parts.now c.split_at.result.0.now c.split_at.result.1.now
    c.args.puts.now c.split_at-in_default.result.0.now c.split_at-in_default.result.1.now
    part c.first-middle.result.now
    c.args.was.now.items c.push_replaced.new.was.items c.push_replaced-in_default.new.was.items
    c.requires.entries c.split_at.ensures.front c.split_at.ensures.back
    some c.index-right-0.is
    (subst (λ n. 0 < n) (ap (λ es. length (g.P.Part.entries_of es)) c.deref-in_default.ensures) c.first-middle.ensures.some)
    (λ d. c.first-middle.ensures.path d ∙ ap (λ es. (get_or (g.P.Part.entries_of es) 0 d).0) c.deref-in_default.ensures)
    c.start.ensures c.split_at-in_default.ensures.front c.split_at-in_default.ensures.back
    c.in_ok-push_replaced-in_default.ensures.was c.in_ok-push_replaced-in_default-2.ensures.was
