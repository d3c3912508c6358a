use Rattle.std.proofs.Common.{sym, subst}
use Rattle.std.specs.Prelude.{option_map}
use Rattle.path_classes.specs.NumberedRows.{FilesLeft, HasRow}
use Rattle.path_classes.proofs.numbered_files.NumberedFiles.row.Goals as goal

pub shared_row-requires : goal.shared_row-requires
shared_row-requires c =
    subst (λ o. HasRow c.self.inside.labels.now (option_map (λ k. k.now) o) c.args.number) c.in-None.is
    (subst (λ (f : FilesLeft). HasRow f.rows f.classes c.args.number) (sym c.self.view_is) c.requires)
