use Rattle.std.proofs.Common.{ℕ, List, sym, subst, ◌∙◌}
use Rattle.kinds.specs.Numbered.{Kept}
use Rattle.kinds.specs.Tagged.{SameTagsBut, AreSettled}
use Rattle.kinds.proofs.Tags.{settled_all}
use Rattle.kinds.proofs.tagged.TaggedMap.after_tags.Goals as goal

pub invariant_of-result : goal.invariant_of-result
invariant_of-result g c =
    let tags = g.N.Tagged.tags_of in
    let old = c.args.self.now.0 in
    let k = c.args.map.0 in
    let numbers = c.rising_numbers-numbers.result.items in
    let same : SameTagsBut tags numbers old k = λ n h. c.requires n (sym (c.rising_numbers-numbers.ensures.same n) ∙ h) in
    let settled : AreSettled tags old k numbers c.in_ok-gone.gone.items c.in_ok-gone.new.items =
    subst (λ (m : Kept g.row.N.Denot). AreSettled tags m.0 k numbers c.in_ok-gone.gone.items c.in_ok-gone.new.items) c.map.ensures
    (subst (λ (ns : List ℕ). AreSettled tags c.map.result.now.0 k ns c.in_ok-gone.gone.items c.in_ok-gone.new.items) c.deref.ensures.value c.in_ok-gone.ensures) in
    settled_all tags old k numbers c.in_ok-gone.gone.items c.in_ok-gone.new.items c.pairs.result.now c.in_ok-left.left c.in_ok-pairs.pairs c.pairs.ensures same
    settled c.in_ok-left.ensures c.in_ok-pairs.ensures
