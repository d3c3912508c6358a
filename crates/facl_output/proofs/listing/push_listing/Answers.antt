use Rattle.std.proofs.Common.{Bool, sym, subst}
use Rattle.acl_names.specs.Appends.{Appends}
use Rattle.facl_output.specs.Listings.{names_shown, files_text}
use Rattle.facl_output.proofs.listing.push_listing.Goals as goal

pub returns-then-options : goal.returns-then-options
returns-then-options g c =
    subst (λ (b : Bool). Appends c.push_files.result c.args.text.now c.push_files.new.text (files_text (names_shown b (g.N.Names.naming c.args.names.now)) c.args.options.now c.args.files.now))
    (sym c.if-options.true) c.push_files.ensures

pub returns-else-options : goal.returns-else-options
returns-else-options g c =
    subst (λ (b : Bool). Appends c.push_files-else-options.result c.args.text.now c.push_files-else-options.new.text
    (files_text (names_shown b (g.N.Names.naming c.args.names.now)) c.args.options.now c.args.files.now))
    (sym c.if-options.false) c.push_files-else-options.ensures
