use Rattle.acl_text.proofs.KnownBodies.{closed_more}
use Rattle.acl_text.proofs.known.read_alone.Goals as goal

pub returns-clause-more : goal.returns-clause-more
returns-clause-more g c =
    closed_more (g.N.Names.naming c.args.reading.now.names.now) c.args.reading.now.dump_use c.args.records.now.items c.close.new.records.items c.add_record.new.draft c.in_ok-close.ensures.closed
