use Rattle.std.proofs.Common.{sym, ap, ◌∙◌}
use Rattle.std.proofs.lemmas.Slice.Eq.{slice_eq-Decides}
use Rattle.acl_entry.specs.Lists.{entries, map_of}
use Rattle.acl_entry.proofs.Maps.{map_of-entries}
use Rattle.acl_entry.proofs.Same.{entry_decided}
use Rattle.acl_entry.proofs.acl.Acl.same.Goals as goal

pub returns : goal.returns
returns c =
    let reported = slice_eq-Decides entry_decided c.entries.result.now c.entries-2.result.now c.eq.result c.eq.ensures in
    let mine = c.entries.ensures.all in
    let theirs = c.entries-2.ensures.all in (
      λ yes. sym (map_of-entries c.args.self.now) ∙ ap map_of (sym mine ∙ reported.0 yes ∙ theirs) ∙ map_of-entries c.args.other.now,
      λ same. reported.1 (mine ∙ ap entries same ∙ sym theirs),
    )
