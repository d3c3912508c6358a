use Rattle.std.proofs.Common.{◌≡◌, [], ◌∷◌, ◌++◌, reverse, ap, sym, subst, ◌∙◌, arith, append_assoc, append-nil}
use Rattle.std.proofs.lemmas.Grind.{common_steps}
use Rattle.std.proofs.lemmas.List.{reverse-reverse}
use Rattle.std.proofs.lemmas.Result.{IfOk-weaker}
use Rattle.path_map.proofs.Chunks.{in_order-left}
use Rattle.acl_tree.specs.Files.{Files}
use Rattle.path_map.specs.Entries.{IsInOrder}
use Rattle.acl_tree.specs.Inner.{files_from, next_below}
use Rattle.acl_tree.specs.Loading.{node_of}
use Rattle.acl_tree.proofs.Loaded.{reverse-end}
use Rattle.acl_tree.proofs.records.map_of.Goals as goal

pub loop-entry-init : goal.loop-entry-init
loop-entry-init c =
    (λ i. c.new-files.ensures i ++ files_from (reverse (c.reverse.ensures.items i))) ∙ ap files_from (reverse-reverse c.args.sorted.items)

pub push-requires : goal.push-requires
push-requires c =
    let left = c.pop.new.self.items in
    let is : c.is_followed_below-has_below.result ≡ next_below c.in-Some.entry.path (reverse left) =
    c.is_followed_below-has_below.ensures ∙ ap (λ l. next_below c.in-Some.entry.path (reverse l)) c.deref.ensures.value
    in
    let file : c.in_ok-file.file ≡ (c.in-Some.entry.path, node_of (next_below c.in-Some.entry.path (reverse left)) c.in-Some.entry) =
    c.in_ok-file.ensures ∙ ap (λ b. (c.in-Some.entry.path, node_of b c.in-Some.entry)) is
    in
    let step : c.loop-entry.files ++ files_from (c.in-Some.entry ∷ reverse left) ≡ files_from c.args.sorted.items =
    ap (λ rs. c.loop-entry.files ++ files_from rs) (sym (ap (λ l. reverse l) c.in-Some.ensures.items ∙ reverse-end left c.in-Some.entry)) ∙ c.loop-entry.invariant
    in
    let whole : (c.loop-entry.files ++ c.in_ok-file.file ∷ []) ++ files_from (reverse left) ≡ files_from c.args.sorted.items =
    ap (λ e. (c.loop-entry.files ++ e ∷ []) ++ files_from (reverse left)) file
    ∙ append_assoc c.loop-entry.files ((c.in-Some.entry.path, node_of (next_below c.in-Some.entry.path (reverse left)) c.in-Some.entry) ∷ []) (files_from (reverse left))
    ∙ step
    in
    in_order-left (c.loop-entry.files ++ c.in_ok-file.file ∷ []) (files_from (reverse left)) (subst (λ (es : Files). IsInOrder es) (sym whole) c.requires)

pub loop-entry-preserved : goal.loop-entry-preserved
loop-entry-preserved c =
    let left = c.pop.new.self.items in
    let is : c.is_followed_below-has_below.result ≡ next_below c.in-Some.entry.path (reverse left) =
    c.is_followed_below-has_below.ensures ∙ ap (λ l. next_below c.in-Some.entry.path (reverse l)) c.deref.ensures.value
    in
    let file : c.in_ok-file.file ≡ (c.in-Some.entry.path, node_of (next_below c.in-Some.entry.path (reverse left)) c.in-Some.entry) =
    c.in_ok-file.ensures ∙ ap (λ b. (c.in-Some.entry.path, node_of b c.in-Some.entry)) is
    in
    (λ i. c.in_ok-files.ensures i ++ files_from (reverse (c.free_moved.ensures i)))
    ∙ ap (λ e. (c.loop-entry.files ++ e ∷ []) ++ files_from (reverse left)) file
    ∙ append_assoc c.loop-entry.files ((c.in-Some.entry.path, node_of (next_below c.in-Some.entry.path (reverse left)) c.in-Some.entry) ∷ []) (files_from (reverse left))
    ∙ ap (λ rs. c.loop-entry.files ++ files_from rs) (sym (ap (λ l. reverse l) c.in-Some.ensures.items ∙ reverse-end left c.in-Some.entry))
    ∙ c.loop-entry.invariant

pub returns : goal.returns
returns c =
    let none : c.loop-entry.left.items ≡ [] = grind (arith, common_steps) in
    IfOk-weaker c.finish.result _ _ (λ map made. made
    ∙ sym (append-nil c.loop-entry.files)
    ∙ ap (λ rs. c.loop-entry.files ++ files_from (reverse rs)) (sym none)
    ∙ c.loop-entry.invariant) c.finish.ensures
