use Rattle.acl_text.proofs.WrittenLists.{long_again}
use Rattle.acl_text.proofs.writing.write_long.Goals as goal

pub returns-clause-read_again : goal.returns-clause-read_again
returns-clause-read_again g c = λ named want takes.
    rw (c.in_ok-push_long.ensures, c.new-text.ensures.items, c.entries.ensures.all)
    (let ids = rw c.entries.ensures.all at c.entries.ensures.ids in
    long_again (g.N.Names.naming c.args.names.now) c.args.acl.now c.entries.ensures.valid ids named want takes)
