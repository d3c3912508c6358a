use Rattle.std.proofs.Common.{◌≡◌, ◌++◌, take, drop, length}
use Rattle.path_classes.specs.Searching.{searches_kept}
use Rattle.path_classes.proofs.searchers.keep_searches.Given as goal

abbrev pub invariant-loop-at : goal.invariant-loop-at
invariant-loop-at l = record {
  long : length l.users ≡ length l.initial.users;
  rest : drop l.at l.users ≡ drop l.at l.initial.users;
  done : take l.at l.users ++ searches_kept (drop l.at l.cells) (drop l.at l.initial.users) ≡ searches_kept l.cells l.initial.users;
}
