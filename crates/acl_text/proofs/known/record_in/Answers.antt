use Rattle.std.proofs.Common.{Ok, ap, ◌∙◌}
use Rattle.acl_text.proofs.SameBodies.{read_says}
use Rattle.acl_text.proofs.known.record_in.Goals as goal

pub returns-in_ok-record_of-in-Some : goal.returns-in_ok-record_of-in-Some
returns-in_ok-record_of-in-Some g c =
    read_says (g.N.Names.naming c.args.reading.now.names.now) c.args.reading.now.dump_use c.args.draft c.in-Some.draft c.in_ok-record_of-in-Some.field-0 1 c.args.text.now c.requires
    (c.in_ok-add_lines.ensures ∙ ap (λ d. Ok d) c.in-Some.is) c.in_ok-record_of-in-Some.ensures
