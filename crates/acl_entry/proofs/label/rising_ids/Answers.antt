use Rattle.std.proofs.Common.{◌≡◌, ℕ, List, eqb, nat_cmp, subst, sym, ap, ◌∙◌}
use Rattle.std.specs.FinSet as sets
use Rattle.std.specs.FinSet.{FinSet, contains-from_list_nat}
use Rattle.std.specs.List.{dedup}
use Rattle.std.specs.List.Sorted.{IsStrictlyIncreasing}
use Rattle.std.proofs.lemmas.List.Filters.{dedup_is}
use Rattle.std.proofs.lemmas.Map.Keys.{IsStrictlyIncreasing-dedup}
use Rattle.acl_entry.proofs.Groups.{from_list-dedup}
use Rattle.acl_entry.specs.Mentions.{is_one_of}
use Rattle.acl_entry.proofs.label.rising_ids.Goals as goal

pub returns-clause-rising : goal.returns-clause-rising
returns-clause-rising c =
    let sorted = c.sort.new.self.items in
    let is : c.dedup.new.self.items ≡ dedup eqb sorted = dedup_is eqb sorted _ c.dedup.ensures.filtered in
    subst IsStrictlyIncreasing (sym is) (IsStrictlyIncreasing-dedup sorted c.in_ok-sort.ensures.sorted)

pub returns-clause-set : goal.returns-clause-set
returns-clause-set c =
    let sorted = c.sort.new.self.items in
    let is : c.dedup.new.self.items ≡ dedup eqb sorted = dedup_is eqb sorted _ c.dedup.ensures.filtered in
    ap (λ (l : List ℕ). sets.from_list {R = nat_cmp} l) is ∙ from_list-dedup c.args.ids.items sorted c.in_ok-sort.ensures.permutation

pub returns-clause-same : goal.returns-clause-same
returns-clause-same c gid =
    let sorted = c.sort.new.self.items in
    let is : c.dedup.new.self.items ≡ dedup eqb sorted = dedup_is eqb sorted _ c.dedup.ensures.filtered in
    ap (λ (l : List ℕ). is_one_of gid l) is
    ∙ sym (contains-from_list_nat (dedup eqb sorted) gid)
    ∙ ap (λ (s : FinSet nat_cmp). sets.contains s gid) (from_list-dedup c.args.ids.items sorted c.in_ok-sort.ensures.permutation)
    ∙ contains-from_list_nat c.args.ids.items gid
