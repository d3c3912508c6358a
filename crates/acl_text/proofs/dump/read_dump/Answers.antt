use Rattle.std.proofs.Common.{◌≡◌, [], None, true, sym, subst, ◌∙◌}
use Rattle.std.specs.Prelude.{IfOk}
use Rattle.acl_text.specs.OwnPaths.{have_own_paths}
use Rattle.std.specs.List.{IsDistinct}
use Rattle.acl_text.specs.InTurn.{Gives}
use Rattle.acl_text.specs.Records.{lines_of, same_path}
use Rattle.acl_text.specs.RoundTrips.{paths}
use Rattle.acl_text.proofs.OwnPaths.{dump_apart, given_ok}
use Rattle.acl_text.proofs.WatchedPaths.{watched_alike, watched_dump}
use Rattle.acl_text.proofs.dump.read_dump.Goals as goal

pub returns-then-branch-clause-made : goal.returns-then-branch-clause-made
returns-then-branch-clause-made g c =
    let naming = g.N.Names.naming c.args.names.now in
    let apart = subst (λ records. IsDistinct same_path (paths records)) c.deref.ensures.value (c.in_ok-are_apart-in-Ok.ensures.0 c.if-branch.true) in
    sym (watched_dump naming c.args.dump_use c.args.bytes.now)
    ∙ watched_alike naming c.args.dump_use (lines_of c.args.bytes.now) [] None c.in-Ok.records.items c.in-Ok.ensures apart

pub returns-clause-made : goal.returns-clause-made
returns-clause-made g c =
    subst (λ r. Gives (λ records. records.items) c.read_stream.result r)
    (watched_dump (g.N.Names.naming c.args.names.now) c.args.dump_use c.args.bytes.now) c.read_stream.ensures

pub returns-then-branch-clause-apart : goal.returns-then-branch-clause-apart
returns-then-branch-clause-apart g c =
    subst (λ r. IfOk r (λ records. have_own_paths records ≡ true)) (returns-then-branch-clause-made g c)
    (dump_apart (g.N.Names.naming c.args.names.now) c.args.dump_use c.args.bytes.now)

pub returns-clause-apart : goal.returns-clause-apart
returns-clause-apart g c =
    given_ok (λ records. records.items) c.read_stream.result _ _ (returns-clause-made g c)
    (dump_apart (g.N.Names.naming c.args.names.now) c.args.dump_use c.args.bytes.now)
