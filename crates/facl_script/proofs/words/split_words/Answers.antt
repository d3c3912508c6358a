use Rattle.std.proofs.Common.{sym, ◌∙◌, ap, inl, inr}
use Rattle.std.proofs.lemmas.Result.{MatchResult-weaker}
use Rattle.facl_script.specs.Words.{words_of}
use Rattle.facl_script.proofs.WordLemmas.{split_text, split_open, split_bytes}
use Rattle.facl_script.proofs.words.split_words.Goals as goal

pub returns-in-Ok : goal.returns-in-Ok
returns-in-Ok c =
    let line = c.args.line.now in
    let same = c.in-Ok.ensures.cases.0 in
    let utf8 = c.in-Ok.ensures.cases.1 in
    MatchResult-weaker c.split_text.result c.split_text.ensures
    (λ words h. split_text line _ utf8 (sym (ap words_of same) ∙ h))
    (λ fault h. elim h [ inl e ↦ inl e | inr e ↦ inr (rw e.0 (split_open line utf8 (sym (ap words_of same) ∙ e.1))) ])

pub returns-in-Err : goal.returns-in-Err
returns-in-Err c = inr (split_bytes c.args.line.now c.in-Err.ensures.cases.0)
