use Rattle.std.proofs.Common.{◌≡◌, ◌<◌, ◌+◌, ◌∷◌, [], ℕ, List, take, length, get_or, sym, ap, subst, ◌∙◌, take_all, arith, is_some}
use Rattle.std.specs.Prelude.{count_by}
use Rattle.std.specs.List.Sorted.{IsStrictlyIncreasing}
use Rattle.std.proofs.lemmas.List.{take_more}
use Rattle.acl_names.specs.Paths.{PathOf}
use Rattle.kinds.specs.Numbered.{entries_in}
use Rattle.kinds.specs.Tagged.{meets}
use Rattle.path_classes.specs.declared.path_class.PathClass.{PathClass}
use Rattle.path_classes.specs.ClassTags.{below_tag, class_tags}
use Rattle.path_classes.specs.FoundClasses.{is_below_some}
use Rattle.path_classes.proofs.PathsBelow.{is_new, none_touched, one_more, same_touched}
use Rattle.path_classes.proofs.rerowed_classes.paths_below.Goals as goal

pub loop-class-init : goal.loop-class-init
loop-class-init c = none_touched (entries_in c.args.classes.now)

pub loop-class-preserved : goal.loop-class-preserved
loop-class-preserved c =
    let items : List ℕ = c.as_slice-class-items.result.now in
    let i : ℕ = c.loop-class.class-index in
    let es : List (PathOf × PathClass) = entries_in c.args.classes.now in
    let n : ℕ = get_or items i 0 in
    let lt : i < length items = omega arith in
    let rises : IsStrictlyIncreasing items = subst IsStrictlyIncreasing (sym c.as_slice-class-items.ensures.value) c.rising_numbers-above.ensures.rising in
    let one = one_more n (take i items) (is_new items i 0 rises lt) es in
    let more : c.in_ok-more.more ≡ count_by (λ (e : PathOf × PathClass). meets (class_tags (is_some e.1.search) e.1.above e.1.kind) (below_tag n ∷ [])) es =
    c.in_ok-more.ensures ∙ ap (λ (t : ℕ). count_by (λ (e : PathOf × PathClass). meets (class_tags (is_some e.1.search) e.1.above e.1.kind) (t ∷ [])) es) c.in_ok-tag.ensures in
    c.in-Some.ensures.1 ∙ (λ k. c.loop-class.invariant k + more k) ∙ sym one
    ∙ ap (λ (l : List ℕ). count_by (λ (e : PathOf × PathClass). is_below_some l e.1) es) (sym (take_more items i 0 lt))

pub returns : goal.returns
returns c =
    let items : List ℕ = c.as_slice-class-items.result.now in
    let i : ℕ = c.loop-class.class-index in
    let es : List (PathOf × PathClass) = entries_in c.args.classes.now in
    c.loop-class.invariant
    ∙ ap (λ (l : List ℕ). count_by (λ (e : PathOf × PathClass). is_below_some l e.1) es) (take_all i items (omega arith) ∙ c.as_slice-class-items.ensures.value)
    ∙ (λ k. count_by (λ (e : PathOf × PathClass). same_touched c.rising_numbers-above.result.items c.args.above.items c.rising_numbers-above.ensures.same e.1 k) es)
