use Rattle.std.proofs.Common.{[], ◌∷◌, append_assoc, codes}
use Rattle.std.proofs.KnownBytes.{Appends-trans}
use Rattle.std.proofs.lemmas.Result.{on_ok_weaker}
use Rattle.facl_program.proofs.fault.write_unread.Goals as goal

pub returns-clause-ok : goal.returns-clause-ok
returns-clause-ok g c =
    let name = rw c.as_bytes.ensures.value at c.in_ok-write_whole-2.ensures.writes.0 in
    on_ok_weaker c.write_whole-3.result
    (λ last. rw (append_assoc c.args.file.now (codes ": cannot read") (10 ∷ []))
    (Appends-trans _ _ _ _ _ (Appends-trans _ _ _ _ _ c.in_ok-write_whole.ensures.writes.0 name) last))
    c.write_whole-3.ensures.writes.0
