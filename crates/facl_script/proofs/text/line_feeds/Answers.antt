use Rattle.std.proofs.Common.{sym, ap, ◌∙◌, length}
use Rattle.std.proofs.lemmas.List.Sums.{length-filter}
use Rattle.memchr.specs.Find.{is_byte}
use Rattle.memchr.proofs.lemmas.CallerLemmas.{length-places}
use Rattle.facl_script.proofs.text.line_feeds.Goals as goal

pub returns : goal.returns
returns c =
    let bytes = c.args.bytes.now in
    c.count.ensures ∙ ap length c.memchr_iter.ensures.value ∙ length-places (is_byte 10) bytes ∙ sym (length-filter (is_byte 10) bytes)
