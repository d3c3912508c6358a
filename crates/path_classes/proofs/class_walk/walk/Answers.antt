use Rattle.std.proofs.Common.{◌≡◌, ◌∷◌, [], ℕ, List, map, take, refl, sym, ap, subst, ◌∙◌}
use Rattle.std.specs.Borrow.{Bor}
use Rattle.std.specs.Option.{option_or}
use Rattle.std.proofs.lemmas.List.{map-append}
use Rattle.acl_names.specs.Paths.{PathOf}
use Rattle.path_map.specs.Entries.{seen}
use Rattle.kinds.specs.Numbered.{Numbers}
use Rattle.path_classes.specs.Walks.{AllBefore, IsLeftAbove, last_of}
use Rattle.path_classes.proofs.Making.{step_before, step_row, step_above, step_made, made_none, made_all}
use Rattle.path_classes.proofs.class_walk.walk.Goals as goal

pub loop-path-init : goal.loop-path-init
loop-path-init c = record {
  made =
      made_none c.args.sources.now.rows.now c.args.files c.args.files c.args.over c.args.builder.classes (map seen c.new-made.result.items) (map seen c.new-stack.result.items)
      (ap (map seen) c.new-made.ensures.items) (ap (map seen) c.new-stack.ensures.items) refl;
  known = c.requires.known;
  begun = λ first h. h;
}

pub depth_above-depth-requires : goal.depth_above-depth-requires
depth_above-depth-requires c =
    let stack : Numbers = map seen c.loop-path.stack.items in
    record {
      before =
          subst (λ (fs : List (Bor PathOf × ℕ)). AllBefore c.in-Some.path.now (map seen fs)) (sym c.deref.ensures.value)
          (step_before c.args.sources.now.rows.now c.args.files c.requires.order c.args.over c.args.builder.classes c.loop-path.builder.classes (map seen c.loop-path.made.items) c.loop-path.rest stack
          c.in-Some.path.now c.in-Some.kind c.next.new.self c.in-Some.ensures c.loop-path.invariant.made);
    }

pub class_of-requires-clause-row : goal.class_of-requires-clause-row
class_of-requires-clause-row c =
    step_row c.args.sources.now.rows.now c.args.files c.requires.order c.args.over c.args.builder.classes c.loop-path.builder.classes
    (map seen c.loop-path.made.items) c.loop-path.rest (map seen c.loop-path.stack.items)
    c.in-Some.path.now c.in-Some.kind c.next.new.self c.in-Some.ensures c.loop-path.invariant.made c.requires.used

pub class_of-requires-clause-above : goal.class_of-requires-clause-above
class_of-requires-clause-above c =
    let stack : Numbers = map seen c.loop-path.stack.items in
    let depth : ℕ = c.depth_above-depth.result in
    let left : IsLeftAbove c.in-Some.path.now stack (take depth stack) =
    subst (λ (fs : List (Bor PathOf × ℕ)). IsLeftAbove c.in-Some.path.now (map seen fs) (take depth (map seen fs))) c.deref.ensures.value c.depth_above-depth.ensures.left in
    let above : c.last_class-above.result ≡ option_or (last_of (take depth stack)) c.args.over =
    c.last_class-above.ensures ∙ ap (λ (fs : List (Bor PathOf × ℕ)). option_or (last_of (take depth (map seen fs))) c.args.over) c.deref-in-Some.ensures.value in
    step_above c.args.sources.now.rows.now c.args.files c.requires.order c.args.over c.args.builder.classes c.loop-path.builder.classes (map seen c.loop-path.made.items) c.loop-path.rest stack
    c.in-Some.path.now c.in-Some.kind c.next.new.self c.in-Some.ensures c.loop-path.invariant.made depth left c.last_class-above.result above c.requires.over

pub loop-path-preserved : goal.loop-path-preserved
loop-path-preserved c =
    let stack : Numbers = map seen c.loop-path.stack.items in
    let depth : ℕ = c.depth_above-depth.result in
    let left : IsLeftAbove c.in-Some.path.now stack (take depth stack) =
    subst (λ (fs : List (Bor PathOf × ℕ)). IsLeftAbove c.in-Some.path.now (map seen fs) (take depth (map seen fs))) c.deref.ensures.value c.depth_above-depth.ensures.left in
    let above : c.last_class-above.result ≡ option_or (last_of (take depth stack)) c.args.over =
    c.last_class-above.ensures ∙ ap (λ (fs : List (Bor PathOf × ℕ)). option_or (last_of (take depth (map seen fs))) c.args.over) c.deref-in-Some.ensures.value in
    record {
      made =
          step_made c.args.sources.now.rows.now c.args.files c.requires.order c.args.over c.args.builder.classes c.loop-path.builder.classes (map seen c.loop-path.made.items) c.loop-path.rest stack
          c.in-Some.path.now c.in-Some.kind c.next.new.self c.in-Some.ensures c.loop-path.invariant.made depth left c.last_class-above.result above
          c.in_ok-next.next.classes c.in_ok-next.class c.in_ok-next.ensures.finds
          (map seen c.push.new.self.items) (map seen c.put.new.files.items)
          (ap (map seen) c.in_ok-push.ensures.items ∙ map-append seen c.loop-path.made.items ((c.in-Some.path, c.in_ok-next.class) ∷ []))
          c.in_ok-put.ensures;
      known = c.in_ok-next.ensures.known;
      begun = λ first h. c.in_ok-next.ensures.begun first (c.loop-path.invariant.begun first h);
    }

pub returns-clause-walked : goal.returns-clause-walked
returns-clause-walked c =
    made_all c.args.sources.now.rows.now c.args.files c.args.over c.args.builder.classes c.loop-path.builder.classes
    (map seen c.loop-path.made.items) c.loop-path.rest (map seen c.loop-path.stack.items)
    c.in_default.ensures.0 c.loop-path.invariant.made

pub class_of-requires-clause-kept : goal.class_of-requires-clause-kept
class_of-requires-clause-kept c = λ n lt. c.loop-path.invariant.made.widens.right n (c.requires.kept n lt)

pub returns-clause-begun : goal.returns-clause-begun
returns-clause-begun c = c.loop-path.invariant.begun
