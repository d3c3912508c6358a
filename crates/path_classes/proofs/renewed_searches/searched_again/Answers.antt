use Rattle.std.proofs.Common.{sym}
use Rattle.path_classes.proofs.renewed_searches.searched_again.Goals as goal

pub searchers_of-requires : goal.searchers_of-requires
searchers_of-requires c = c.requires c.in-Some.class.now (sym c.in-Some.ensures)
