use Rattle.std.proofs.Common.{◌++◌, ◌∷◌, [], map, append_assoc, append-nil, sym, ap, ◌∙◌}
use Rattle.std.proofs.lemmas.List.{map-append}
use Rattle.path_map.specs.Entries.{seen}
use Rattle.path_classes.proofs.classes_within.push_all.Goals as goal

pub loop-entry-preserved : goal.loop-entry-preserved
loop-entry-preserved c =
    ap (λ l. map seen l ++ c.next.new.self) c.in_ok-push.ensures.items
    ∙ ap (λ l. l ++ c.next.new.self) (map-append seen c.loop-entry.all.items (c.in-Some.entry ∷ []))
    ∙ append_assoc (map seen c.loop-entry.all.items) (seen c.in-Some.entry ∷ []) c.next.new.self
    ∙ ap (λ l. map seen c.loop-entry.all.items ++ l) (sym c.in-Some.ensures)
    ∙ c.loop-entry.invariant

pub returns : goal.returns
returns c = sym (append-nil (map seen c.loop-entry.all.items)) ∙ ap (λ l. map seen c.loop-entry.all.items ++ l) (sym c.in_default.ensures.0) ∙ c.loop-entry.invariant
