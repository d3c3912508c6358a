use Rattle.std.proofs.Common.{◌≡◌, ◌<◌, true, [], ◌∷◌, length, map, drop, refl, sym, ap, ◌∙◌, arith}
use Rattle.std.specs.Prelude.{◌==◌}
use Rattle.std.proofs.lemmas.Bool.{eqb-true}
use Rattle.std.proofs.lemmas.Grind.{common_steps}
use Rattle.acl_names.specs.Paths.{PathOf}
use Rattle.path_map.specs.Entries.{seen}
use Rattle.path_map.specs.Merged.{has}
use Rattle.kinds.specs.Numbered.{entries_in}
use Rattle.path_classes.proofs.RelabelledFile.{no_item}
use Rattle.acl_rights.specs.KindRows.{with_label}
use Rattle.acl_rights.proofs.RootLast.{first_and_others}
use Rattle.acl_rights.proofs.changed_rows.begin_with_root.Goals as goal

is_root : (p : PathOf) → (length p == 0) ≡ true → p ≡ []
is_root [] h = refl
is_root (x ∷ p) h = absurd (omega (arith, eqb-true (length (x ∷ p)) 0 h))

pub returns : goal.returns
returns g c holds =
    let x = c.index-changed-0.result in
    let long : 0 < length c.args.changed.now = grind (arith, common_steps) in
    let short : length c.args.gone.now ≡ 0 = grind (arith, common_steps) in
    let root : x.0.now ≡ [] = is_root x.0.now (sym (c.is_root.ensures ∙ ap (λ (p : PathOf). length p == 0) c.borrowed.ensures) ∙ c.if-not-is_root.false) in
    record {
      label = x.1.now;
      others = map with_label (drop 1 c.args.changed.now);
      first = ap (map with_label) (first_and_others c.args.changed.now x long c.index-changed-0.is) ∙ ap (λ (p : PathOf). (p, x.1.now) ∷ map with_label (drop 1 c.args.changed.now)) root;
      there = ap (λ (p : PathOf). has p (entries_in c.args.rows.now.rows)) (sym root) ∙ sym c.has_row.ensures ∙ holds;
      none = ap (map seen) (no_item c.args.gone.now short);
    }
