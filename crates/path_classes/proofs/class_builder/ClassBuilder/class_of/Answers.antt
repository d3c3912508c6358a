use Rattle.std.proofs.Common.{ℕ, ◌∷◌, [], List, sym, subst}
use Rattle.kinds.specs.Tagged.{numbers_found}
use Rattle.path_classes.specs.ClassBuilding.{IsKnown, AreRight}
use Rattle.path_classes.proofs.Growing.{known_finds, known_more, same_more}
use Rattle.path_classes.proofs.class_builder.ClassBuilder.class_of.Goals as goal

pub returns-in-Some-clause-finds : goal.returns-in-Some-clause-finds
returns-in-Some-clause-finds c =
    known_finds c.args.sources.now.rows.now c.args.self.classes c.args.self.known.items c.args.above c.args.kind c.in-Some.class c.requires.known
    (subst (λ (l : List ℕ). IsKnown c.args.self.classes l c.args.above c.args.kind c.in-Some.class) c.deref.ensures.value c.in-Some.ensures)

pub returns-clause-known : goal.returns-clause-known
returns-clause-known c =
    subst (AreRight c.args.sources.now.rows.now c.in_ok-classes.classes) (sym c.in_ok-push.ensures.items)
    (known_more c.args.sources.now.rows.now c.args.self.classes c.in_ok-classes.classes c.args.above c.args.kind c.in_ok-classes.class c.in_ok-classes.ensures c.args.self.known.items c.requires.known)

pub returns-in-Some-clause-begun : goal.returns-in-Some-clause-begun
returns-in-Some-clause-begun c first h = h

pub returns-clause-begun : goal.returns-clause-begun
returns-clause-begun c first h =
    same_more c.args.self.begun.items (numbers_found (c.args.above ∷ [])) c.push_found.new.new.items first c.args.self.classes c.in_ok-classes.classes c.in_ok-push_found.ensures h
    c.in_ok-classes.ensures.others
