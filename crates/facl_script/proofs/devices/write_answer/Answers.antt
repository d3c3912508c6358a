use Rattle.std.proofs.Common.{[], take, refl, inl, inr}
use Rattle.std.proofs.KnownBytes.{Appends-nil}
use Rattle.std.proofs.lemmas.Result.{err_from_is_err_and}
use Rattle.facl_script.proofs.devices.write_answer.Goals as goal

pub returns-in_err-write_whole-clause-writes : goal.returns-in_err-write_whole-clause-writes
returns-in_err-write_whole-clause-writes g c =
    let p = err_from_is_err_and c.from_residual.result c.from_residual.ensures.1 in
    let h = c.in_err-write_whole.ensures.writes in
    rw (p.1, p.2)
    (record { part_out = take h.1.0 c.args.to_out.now; part_err = []; part = inl (h.1.0, h.1.1, refl, refl); writes = record { out_grows = h.1.2; err_grows = Appends-nil _ } }, h.2)

pub returns-in_err-write_whole-2-clause-writes : goal.returns-in_err-write_whole-2-clause-writes
returns-in_err-write_whole-2-clause-writes g c =
    let p = err_from_is_err_and c.from_residual-in_err-write_whole-2.result c.from_residual-in_err-write_whole-2.ensures.1 in
    let h = c.in_err-write_whole-2.ensures.writes in
    rw (p.1, p.2) (
      record {
        part_out = c.args.to_out.now;
        part_err = take h.1.0 c.args.to_err.now;
        part = inr (h.1.0, h.1.1, refl, refl);
        writes =
            record { out_grows = c.in_ok-write_whole.ensures.writes.0; err_grows = h.1.2 };
      },
      h.2,
    )
