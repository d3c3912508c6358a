use Rattle.std.proofs.Common.{◌≡◌, ◌+◌, ◌*◌, ◌<◌, map, take, length}
use Rattle.acl_rights.proofs.judge.Judge.verdicts.Given as goal

-- the users before this place were judged on this file, and all users on the files before
abbrev pub invariant-loop-at : goal.invariant-loop-at
invariant-loop-at g l = record {
  row : take l.at l.row ≡ map (λ u. g.Self.Judge.verdict_of u l.label) (map (λ s. s.value) (take l.at l.user-items));
  asked : g.Self.Judge.asked_of l.self ≡ g.Self.Judge.asked_of l.fn.self + (l.counter * length l.users + l.at);
}

-- the row is whole after the first file
abbrev pub invariant-loop : goal.invariant-loop
invariant-loop g l = record {
  row : 0 < l.counter → l.row ≡ map (λ u. g.Self.Judge.verdict_of u l.label) l.users;
  asked : g.Self.Judge.asked_of l.self ≡ g.Self.Judge.asked_of l.fn.self + l.counter * length l.users;
}
