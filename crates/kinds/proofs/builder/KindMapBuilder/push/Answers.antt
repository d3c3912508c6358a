use Rattle.std.proofs.Common.{[], ◌∷◌, ◌++◌, List, sym, ap, subst, ◌∙◌}
use Rattle.acl_names.specs.Paths.{PathOf}
use Rattle.path_map.specs.Entries.{IsInOrder}
use Rattle.kinds.specs.Numbered.{Numbers, entries_by}
use Rattle.kinds.specs.Inner.{AddsBut}
use Rattle.kinds.proofs.InTurn.{given_entries, given_more, given_order}
use Rattle.kinds.proofs.builder.KindMapBuilder.push.Goals as goal

pub push-requires : goal.push-requires
push-requires g c =
    let was = c.self.inside.numbering in
    let new = c.in_ok-numbering.numbering in
    given_order ([], []) was.kinds new.kinds c.self.inside.numbers c.args.path c.args.node new.last was.last was.pending new.pending c.self.invariant c.in_ok-numbering.ensures
    (subst (λ (es : List (PathOf × g.row.N.Denot)). IsInOrder (es ++ (c.args.path, c.args.node) ∷ [])) (sym c.self.view_is) c.requires)

pub invariant_of-result : goal.invariant_of-result
invariant_of-result g c =
    let was = c.self.inside.numbering in
    let new = c.in_ok-numbering.numbering in
    subst (λ (ns : Numbers). AddsBut ([], []) (entries_by new.kinds ns) new.kinds ns new.last new.pending) (sym c.in_ok-push.ensures)
    (given_more ([], []) was.kinds new.kinds c.self.inside.numbers c.args.path c.args.node new.last was.last was.pending new.pending c.self.invariant c.in_ok-numbering.ensures)

pub returns : goal.returns
returns g c =
    let was = c.self.inside.numbering in
    let new = c.in_ok-numbering.numbering in
    ap (entries_by new.kinds) c.in_ok-push.ensures
    ∙ given_entries ([], []) was.kinds new.kinds c.self.inside.numbers c.args.path c.args.node new.last was.last was.pending new.pending c.self.invariant c.in_ok-numbering.ensures
    ∙ ap (λ (es : List (PathOf × g.row.N.Denot)). es ++ (c.args.path, c.args.node) ∷ []) c.self.view_is
