use Rattle.std.proofs.Common.{rules, ◌≡◌, [], ◌∷◌, length, sym, ap, ◌∙◌}
use Rattle.std.proofs.lemmas.List.{length-map, map-append}
use Rattle.acl_rights.specs.KindRows.{borrowed_labels}
use Rattle.acl_rights.proofs.RowsOfKinds.{newly_placed}
use Rattle.acl_rights.proofs.changed_rows.place_of.Goals as goal

pub returns : goal.returns
returns c =
    let same : c.len-at.result ≡ length c.args.labels.now.items = search rules in
    newly_placed c.args.label.now (borrowed_labels c.args.labels.now.items) (borrowed_labels c.push.new.self.items) c.len-at.result
    (ap borrowed_labels c.in_ok-push.ensures.items ∙ map-append (λ l. l.now) c.args.labels.now.items (c.args.label ∷ []))
    (same ∙ sym (length-map c.args.labels.now.items (λ l. l.now)))
