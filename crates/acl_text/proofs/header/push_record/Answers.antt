use Rattle.std.proofs.Common.{[], ◌∷◌, ◌++◌, length, take, ap, ◌∙◌, arith}
use Rattle.std.proofs.lemmas.Grind.{common_steps}
use Rattle.std.proofs.Math.Seq.{take-append_seam}
use Rattle.acl_text.specs.declared.fault.Which.TheVariants.{Access}
use Rattle.acl_text.specs.declared.effective.Effective.TheVariants.{WhereMasked}
use Rattle.acl_text.specs.DumpWriting.{header_text, list_text, default_text}
use Rattle.acl_text.proofs.Appending.{both_added}
use Rattle.acl_text.proofs.header.push_record.Goals as goal

pub returns-in_err-append_default : goal.returns-in_err-append_default
returns-in_err-append_default g c =
    let naming = g.N.Names.naming c.args.names.now in
    let r = c.args.dump_record.now in
    let start = c.args.text.now.items in
    let header = header_text naming r.path r.slash r.owner r.group r.flags in
    let list = list_text naming WhereMasked Access r.access in
    let listed = c.in_ok-append_list.ensures ∙ ap (λ acl. c.append_header.new.text.items ++ list_text naming WhereMasked Access acl) c.get-access.ensures in
    let written = both_added start header list c.append_header.new.text.items c.append_list.new.text.items c.in_ok-append_header.ensures listed in
    let begins = ap (take (length start)) written ∙ take-append_seam start (header ++ list) in
    grind (arith, common_steps, begins)

pub returns-in_err-push : goal.returns-in_err-push
returns-in_err-push g c =
    let naming = g.N.Names.naming c.args.names.now in
    let r = c.args.dump_record.now in
    let start = c.args.text.now.items in
    let header = header_text naming r.path r.slash r.owner r.group r.flags in
    let list = list_text naming WhereMasked Access r.access in
    let dacl = default_text naming WhereMasked r.dacl in
    let listed = c.in_ok-append_list.ensures ∙ ap (λ acl. c.append_header.new.text.items ++ list_text naming WhereMasked Access acl) c.get-access.ensures in
    let lists = both_added c.append_header.new.text.items list dacl c.append_list.new.text.items c.append_default.new.text.items listed c.in_ok-append_default.ensures in
    let written = both_added start header (list ++ dacl) c.append_header.new.text.items c.append_default.new.text.items c.in_ok-append_header.ensures lists in
    let begins = ap (take (length start)) written ∙ take-append_seam start (header ++ (list ++ dacl)) in
    grind (arith, common_steps, begins)

pub returns : goal.returns
returns g c =
    let naming = g.N.Names.naming c.args.names.now in
    let r = c.args.dump_record.now in
    let header = header_text naming r.path r.slash r.owner r.group r.flags in
    let list = list_text naming WhereMasked Access r.access in
    let dacl = default_text naming WhereMasked r.dacl in
    let new = c.push.new.self.items in
    let listed = c.in_ok-append_list.ensures ∙ ap (λ acl. c.append_header.new.text.items ++ list_text naming WhereMasked Access acl) c.get-access.ensures in
    let ended = both_added c.append_list.new.text.items dacl (10 ∷ []) c.append_default.new.text.items new c.in_ok-append_default.ensures c.in_ok-push.ensures.items in
    let lists = both_added c.append_header.new.text.items list (dacl ++ 10 ∷ []) c.append_list.new.text.items new listed ended in
    both_added c.args.text.now.items header (list ++ (dacl ++ 10 ∷ [])) c.append_header.new.text.items new c.in_ok-append_header.ensures lists
