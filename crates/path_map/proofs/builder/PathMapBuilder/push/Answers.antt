use Rattle.std.proofs.Common.{◌≡◌, ◌++◌, ◌∷◌, [], length, sym, ap, subst, ◌∙◌, arith, length-append}
use Rattle.std.specs.List.{flat_map}
use Rattle.path_map.specs.Entries.{IsInOrder}
use Rattle.path_map.proofs.Gathered.{one_more}
use Rattle.path_map.proofs.builder.PathMapBuilder.push.Goals as goal

pub invariant_of-self-2 : goal.invariant_of-self-2
invariant_of-self-2 g c =
    let same : length c.make_room.new.values.items ≡ length c.make_room.new.paths.items = c.in_ok-make_room.ensures.gathered.same in
    let paths : length c.push_both.new.paths.items ≡ length (c.make_room.new.paths.items ++ c.args.path ∷ []) = ap length c.in_ok-push_both.ensures.paths in
    let values : length c.push_both.new.values.items ≡ length (c.make_room.new.values.items ++ c.args.value ∷ []) = ap length c.in_ok-push_both.ensures.values in
    record {
      order =
          subst IsInOrder
          (sym (one_more (flat_map (λ c. c.value) c.make_room.new.chunks.items) _ _ _ _ c.args.path c.args.value same c.in_ok-push_both.ensures.paths c.in_ok-push_both.ensures.values
          ∙ ap (λ l. l ++ (c.args.path, c.args.value) ∷ []) (c.in_ok-make_room.ensures.same ∙ c.self.view_is)))
          c.requires;
      same = omega (arith, same, paths, values, length-append c.make_room.new.paths.items (c.args.path ∷ []), length-append c.make_room.new.values.items (c.args.value ∷ []));
      few = omega (arith, values, length-append c.make_room.new.values.items (c.args.value ∷ []), c.in_ok-make_room.ensures.room);
    }

pub returns : goal.returns
returns g c =
    one_more (flat_map (λ c. c.value) c.make_room.new.chunks.items) _ _ _ _ c.args.path c.args.value c.in_ok-make_room.ensures.gathered.same
    c.in_ok-push_both.ensures.paths c.in_ok-push_both.ensures.values
    ∙ ap (λ l. l ++ (c.args.path, c.args.value) ∷ []) (c.in_ok-make_room.ensures.same ∙ c.self.view_is)
