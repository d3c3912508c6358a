use Rattle.std.proofs.Common.{◌≡◌, ◌-◌, [], ◌∷◌, ◌++◌, length, take, subst, ap, ◌∙◌, arith, length-append}
use Rattle.std.proofs.lemmas.Grind.{common_steps}
use Rattle.std.proofs.Math.Seq.{take-append_seam}
use Rattle.acl_text.specs.DumpWriting.{shown, effective_text}
use Rattle.acl_text.proofs.Appending.{both_added}
use Rattle.acl_text.proofs.dump_writing.push_line.Goals as goal

pub returns-in_err-push : goal.returns-in_err-push
returns-in_err-push g c =
    let start = c.args.text.now.items in
    let text = shown (g.N.Names.naming c.args.names.now) c.args.which c.args.entry.now in
    let effective = effective_text c.args.how c.args.mask.now c.args.entry.now (c.len.result - c.len-before.result) in
    let written =
    both_added start text effective c.push_front_and_entry.new.text.items c.push_comment.new.text.items c.in_ok-push_front_and_entry.ensures c.in_ok-push_comment.ensures in
    let begins = ap (take (length start)) written ∙ take-append_seam start (text ++ effective) in
    grind (arith, common_steps, begins)

pub returns : goal.returns
returns g c =
    let start = c.args.text.now.items in
    let text = shown (g.N.Names.naming c.args.names.now) c.args.which c.args.entry.now in
    let new = c.push.new.self.items in
    let effective = effective_text c.args.how c.args.mask.now c.args.entry.now (c.len.result - c.len-before.result) in
    let bytes : c.len.result - c.len-before.result ≡ length text = omega (arith, ap length c.in_ok-push_front_and_entry.ensures, length-append start text) in
    let ended = both_added c.push_front_and_entry.new.text.items effective (10 ∷ []) c.push_comment.new.text.items new c.in_ok-push_comment.ensures c.in_ok-push.ensures.items in
    subst (λ n. new ≡ start ++ (text ++ (effective_text c.args.how c.args.mask.now c.args.entry.now n ++ 10 ∷ []))) bytes
    (both_added start text (effective ++ 10 ∷ []) c.push_front_and_entry.new.text.items new c.in_ok-push_front_and_entry.ensures ended)
