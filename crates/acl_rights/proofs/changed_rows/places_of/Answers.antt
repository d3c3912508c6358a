use Rattle.std.proofs.Common.{◌≡◌, ◌+◌, ◌++◌, [], ◌∷◌, ℕ, List, map, take, sym, ap, subst, ◌∙◌}
use Rattle.std.proofs.lemmas.List.{map-append}
use Rattle.acl_names.specs.Paths.{PathOf}
use Rattle.path_map.specs.Entries.{seen}
use Rattle.acl_entry.specs.declared.label.Label.{Label}
use Rattle.acl_rights.specs.KindRows.{with_label, borrowed_labels, ArePlaced}
use Rattle.acl_rights.proofs.RowsOfKinds.{placed_more, items_more}
use Rattle.acl_rights.proofs.changed_rows.places_of.Goals as goal

pub loop-path-preserved : goal.loop-path-preserved
loop-path-preserved c =
    let i = c.loop-path.path-index in
    let done : List (PathOf × Label) = map with_label (take i c.args.paths.now) in
    let p : PathOf × Label = with_label c.path-item.result in
    let old : List (PathOf × ℕ) = map seen c.loop-path.places.items in
    let more : map with_label (take (i + 1) c.args.paths.now) ≡ done ++ p ∷ [] = items_more with_label c.args.paths.now i c.path-item.result c.loop-path-test.true c.path-item.is in
    let pushed : map seen c.push.new.self.items ≡ old ++ (p.0, c.in_ok-last.last) ∷ [] =
    ap (map seen) c.in_ok-push.ensures.items ∙ map-append seen c.loop-path.places.items ((c.path-item.result.0, c.in_ok-last.last) ∷ []) in
    subst (λ (ps : List (PathOf × Label)). ArePlaced ps (borrowed_labels c.place_of.new.labels.items) (map seen c.push.new.self.items)) (sym more)
    (subst (λ (es : List (PathOf × ℕ)). ArePlaced (done ++ p ∷ []) (borrowed_labels c.place_of.new.labels.items) es) (sym pushed)
    (placed_more done (borrowed_labels c.loop-path.labels.items) (borrowed_labels c.place_of.new.labels.items) old p.0 p.1 c.in_ok-last.last c.loop-path.invariant c.in_ok-last.ensures))
