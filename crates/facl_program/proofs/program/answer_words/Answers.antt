use Rattle.std.proofs.Common.{rules, map, string_bytes}
use Rattle.std.proofs.lemmas.Result.{err_from_is_err_and}
use Rattle.facl.specs.acl_rights.Deciders.{judging}
use Rattle.facl_program.specs.Files.{texts_of}
use Rattle.facl_program.specs.Words.{names_of}
use Rattle.facl_program.proofs.Ran.{stopped, ran}
use Rattle.facl_program.proofs.program.answer_words.Goals as goal

pub returns-in_err-state-clause-fault : goal.returns-in_err-state-clause-fault
returns-in_err-state-clause-fault g c =
    let J = judging g.J.Judge.verdict_of g.J.Judge.decider_of in
    let p = err_from_is_err_and c.from_residual-in_err-state.result c.from_residual-in_err-state.ensures.1 in
    rw (p.1, p.2)
    (stopped J (g.S.FileStore.bytes_of c.args.store.now) (map string_bytes c.args.words.now) c.setup.result (names_of c.in_ok-files.files) (texts_of c.in_ok-texts.texts)
    c.in_ok-files.ensures c.in_ok-texts.ensures.ok c.setup.ensures c.in_err-state.field-0.0 _ _ c.in_err-state.ensures
    (record { reads = search rules; writes_out = search rules; writes_err = search rules }))

pub returns-clause-ok : goal.returns-clause-ok
returns-clause-ok g c =
    ran (judging g.J.Judge.verdict_of g.J.Judge.decider_of) (g.S.FileStore.bytes_of c.args.store.now) (map string_bytes c.args.words.now)
    c.setup.result (names_of c.in_ok-files.files) (texts_of c.in_ok-texts.texts)
    c.in_ok-files.ensures c.in_ok-texts.ensures.ok c.setup.ensures _ c.in_ok-status.status (g.R.Feed.remaining c.args.reader.now) _ _ _
    c.in_ok-state.ensures c.in_ok-status.ensures.ok
