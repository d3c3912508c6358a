use Rattle.acl_text.proofs.WrittenLists.{short_again}
use Rattle.acl_text.proofs.writing.write_short.Goals as goal

pub returns-clause-read_again : goal.returns-clause-read_again
returns-clause-read_again g c = λ named want takes.
    rw (c.in_ok-push_short.ensures, c.new-text.ensures.items, c.entries.ensures.all)
    (let ids = rw c.entries.ensures.all at c.entries.ensures.ids in
    short_again (g.N.Names.naming c.args.names.now) c.args.acl.now c.entries.ensures.valid ids named want takes)
