use Rattle.std.proofs.Common.{◌++◌, ◌∷◌, [], take, map, sym, ap, ◌∙◌}
use Rattle.std.proofs.lemmas.List.{map-append}
use Rattle.path_map.specs.Entries.{seen}
use Rattle.path_classes.proofs.Walks.{take_seen}
use Rattle.path_classes.proofs.class_walk.put.Goals as goal

pub returns : goal.returns
returns c =
    ap (map seen) (c.in_ok-push.ensures.items ∙ ap (λ l. l ++ (c.args.path, c.args.class) ∷ []) c.truncate.ensures.items)
    ∙ map-append seen (take c.args.depth c.args.files.now.items) ((c.args.path, c.args.class) ∷ [])
    ∙ ap (λ l. l ++ (c.args.path.now, c.args.class) ∷ []) (sym (take_seen seen c.args.depth c.args.files.now.items))
