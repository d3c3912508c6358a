use Rattle.std.proofs.Common.{◌≡◌, ◌-◌, [], ◌∷◌, List, length, take, drop, sym, ap, subst, ◌∙◌, append-nil, arith}
use Rattle.std.proofs.lemmas.Grind.{common_steps}
use Rattle.acl_tree.specs.Edits.{and_others}
use Rattle.acl_tree.specs.Inner.{RestoredFile, SomeEdited, restored, restore_each}
use Rattle.acl_tree.proofs.Left.{put_more}
use Rattle.acl_tree.proofs.restore.restore_each.Goals as goal

pub loop-rest-preserved : goal.loop-rest-preserved
loop-rest-preserved c =
    let rest : List RestoredFile = c.loop-rest.rest.now in
    let x : RestoredFile = c.restored-item.result in
    let more : List RestoredFile = take (length rest - 1) (drop 1 rest) in
    let split : x ∷ more ≡ rest = grind (arith, common_steps) in
    let one = c.in_ok-puts-2.ensures.made in
    record {
      before = c.in_ok-puts-2.ensures.before ∙ c.loop-rest.invariant.before;
      touched = c.in_ok-puts-2.ensures.touched c.loop-rest.invariant.touched;
      made = λ ms h.
          put_more (λ x. x.0) restored c.args.found.now more x c.loop-rest.puts.1 c.in_ok-puts-2.puts.1 ms one.node one.made one.puts
          (λ ks some. c.loop-rest.invariant.made ks (subst (λ l. SomeEdited (λ x. x.0) restored l ks) split some)) h;
      refused = λ fault h. c.loop-rest.invariant.refused fault (ap restore_each (sym split) ∙ (λ i. and_others x.0.0 (one.made i) (h i)));
    }

pub returns-clause-made : goal.returns-clause-made
returns-clause-made c =
    let none : [] ≡ c.loop-rest.rest.now = grind (arith, common_steps) in
    let tt_or : SomeEdited (λ x. x.0) restored c.loop-rest.rest.now [] = subst (λ l. SomeEdited (λ x. x.0) restored l []) none tt in
    subst (λ l. SomeEdited (λ x. x.0) restored c.args.found.now l) (append-nil c.loop-rest.puts.1) (c.loop-rest.invariant.made [] tt_or)
