use Rattle.std.proofs.Common.{◌∷◌, [], List, sym, ap, ◌∙◌}
use Rattle.std.specs.Borrow.{Bor}
use Rattle.std.proofs.lemmas.List.{map-append}
use Rattle.acl_names.specs.Paths.{PathOf}
use Rattle.path_classes.specs.ClassesWithin.{paths_seen}
use Rattle.path_classes.specs.Tops.{is_in_last}
use Rattle.path_classes.proofs.TopsOf.{adds_new, adds_none}
use Rattle.path_classes.proofs.top_paths.push_top.Goals as goal

pub returns-then-is_in_last : goal.returns-then-is_in_last
returns-then-is_in_last c =
    adds_none (paths_seen c.args.tops.now.items) c.args.path.now c.requires.tops
    (ap (λ (l : List (Bor PathOf)). is_in_last (paths_seen l) c.args.path.now) (sym c.deref.ensures.value) ∙ sym c.is_in_last.ensures ∙ c.if-is_in_last.true)

pub returns : goal.returns
returns c =
    adds_new (paths_seen c.args.tops.now.items) (paths_seen c.push.new.self.items) c.args.path.now c.requires.tops c.requires.after
    (ap (λ (l : List (Bor PathOf)). is_in_last (paths_seen l) c.args.path.now) (sym c.deref.ensures.value) ∙ sym c.is_in_last.ensures ∙ c.if-is_in_last.false)
    (ap paths_seen c.in_ok-push.ensures.items ∙ map-append (λ (p : Bor PathOf). p.now) c.args.tops.now.items (c.args.path ∷ []))
