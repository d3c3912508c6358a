use Rattle.std.proofs.Common.{◌≡◌, ◌∷◌, ◌++◌, ◌&&◌, [], List, ℕ, false, None, Some, cond, ap, subst, ◌∙◌, arith}
use Rattle.std.specs.Prelude.{option_and_then, option_map, slice_get}
use Rattle.std.specs.Option.{option_map_or}
use Rattle.acl_entry.specs.Check.{has}
use Rattle.acl_names.specs.Paths.{PathOf}
use Rattle.acl_edit.specs.declared.node.Node.{Node}
use Rattle.acl_tree.specs.Found.{FoundFile, found_file}
use Rattle.acl_tree.specs.Inner.{next_file_below}
use Rattle.path_map.specs.Entries.{seen}
use Rattle.facl_answers.specs.BothStates.{front}
use Rattle.facl_answers.specs.Inner.{RowedFile, rowed_files}
use Rattle.facl_answers.proofs.WalkedTexts.{no_files}
use Rattle.facl_counts.specs.BelowText.{is_of_kind}
use Rattle.facl_counts.specs.Listed.{is_listed, left_within}
use Rattle.facl_counts.specs.Sums.{TakesWithin}
use Rattle.facl_counts.proofs.ClassFiles.{first_is}
use Rattle.facl_counts.proofs.FirstListed.{listing_ends, listing_full, listing_more, listing_starts}
use Rattle.facl_counts.proofs.listed.collect_files.Goals as goal

pub loop-alloc-init : goal.loop-alloc-init
loop-alloc-init c = listing_starts c.args.listing.now c.args.found.now.items (left_within c.args.top.now c.args.walk.now)

pub returns-in_default : goal.returns-in_default
returns-in_default c =
    let walk = c.loop-alloc.walk in
    let over : TakesWithin c.args.top.now walk.classes None c.next_within.new.classes =
    subst (λ o. TakesWithin c.args.top.now walk.classes (option_map seen o) c.next_within.new.classes) c.in_default.is c.in_ok-class.ensures in
    listing_ends c.args.listing.now c.args.found.now.items c.loop-alloc.found.items (left_within c.args.top.now c.args.walk.now) (left_within c.args.top.now walk)
    (ap (rowed_files walk.files) over.0) c.loop-alloc.invariant

pub returns-in_default-next : goal.returns-in_default-next
returns-in_default-next c =
    let walk = c.loop-alloc.walk in
    listing_ends c.args.listing.now c.args.found.now.items c.loop-alloc.found.items (left_within c.args.top.now c.args.walk.now) (left_within c.args.top.now walk)
    (ap (λ files. rowed_files files (front c.args.top.now walk.classes.1)) c.in_default-next.ensures.steps.0 ∙ no_files (front c.args.top.now walk.classes.1)) c.loop-alloc.invariant

pub loop-alloc-preserved : goal.loop-alloc-preserved
loop-alloc-preserved c =
    let l = c.args.listing.now in
    let top = c.args.top.now in
    let walk = c.loop-alloc.walk in
    let classes = c.next_within.new.classes in
    let files = c.next.new.self in
    let class = c.in-Some.class in
    let taken : TakesWithin top walk.classes (Some (c.in-Some.field-0-0.now, class)) classes =
    subst (λ o. TakesWithin top walk.classes (option_map seen o) classes) c.in-Some.is c.in_ok-class.ensures in
    let entry : PathOf × Node = (c.in-Some-next.path.now, c.in-Some-next.node.now) in
    let file : RowedFile = (found_file (next_file_below entry.0 files) entry, taken.1.row) in
    let first : left_within top walk ≡ file ∷ rowed_files files (front top classes.1) =
    λ i. rowed_files (c.in-Some-next.ensures.steps i) (first_is top walk.classes classes c.in-Some.field-0-0.now class taken i)
    in
    let verdict : c.cell-verdict.result ≡ slice_get taken.1.row l.user =
    c.cell-verdict.ensures ∙ ap (option_and_then (λ (row : List ℕ). slice_get row l.user)) taken.1.has
    in
    let is : c.is_listed-is_listed.result ≡ is_listed l file =
    c.is_listed-is_listed.ensures ∙ ap (λ o. is_of_kind l.asked.kind entry.1 && option_map_or (λ n. has n l.asked.request) o false) verdict
    in
    listing_more l c.args.found.now.items c.loop-alloc.found.items c.push_if.new.found.items (left_within top c.args.walk.now) (left_within top walk)
    (rowed_files files (front top classes.1)) file c.is_listed-is_listed.result first is (omega (arith, c.loop-alloc-test.true, c.len.ensures))
    (c.in_ok-push_if.ensures ∙ ap (λ (f : FoundFile). c.loop-alloc.found.items ++ cond c.is_listed-is_listed.result (f ∷ []) []) c.before-in-loop-alloc.ensures) c.loop-alloc.invariant

pub returns : goal.returns
returns c =
    listing_full c.args.listing.now c.args.found.now.items c.loop-alloc.found.items (left_within c.args.top.now c.args.walk.now) (left_within c.args.top.now c.loop-alloc.walk)
    (omega (arith, c.loop-alloc-test.false, c.len.ensures)) c.loop-alloc.invariant
