-- Files after an edit: their numbers have nodes, and the counts of their files.
use Rattle.std.proofs.Common.{◌≡◌, ℕ, ◌<◌, List, Ok, sym, ap, ◌∙◌, arith}
use Rattle.std.specs.List.{AllByRecursion}
use Rattle.path_map.specs.Entries.{IsInOrder}
use Rattle.path_map.specs.Changed.{with_values}
use Rattle.path_map.specs.Merged.{put_all}
use Rattle.path_map.proofs.Merges.{in_order-put_all}
use Rattle.kinds.specs.declared.memo.Met.{Met}
use Rattle.kinds.specs.Kinds.{KindsOf, node_at, count_at, IsNode}
use Rattle.kinds.specs.Numbered.{Numbers, entries_by, paths_with, AreUsed, AreSound}
use Rattle.kinds.specs.Inner.{AreAmong}
use Rattle.kinds.specs.Memo.{NodeEdit, edit_each, AreEdited, ArePut, IsEdited, Moves}
use Rattle.kinds.proofs.EntriesBy.{all_weaker, entries_same, entries_extend, used_extend}
use Rattle.kinds.proofs.Replaced.{there, put_all_there, puts_counted, used_same}
use Rattle.kinds.proofs.Counts.{count_put_all, found_among, sorted_paths, used_put_all, entries_put_all, kept_entries, kept_used}

module _ {N : Type 0} where
  -- the new numbers of those that were seen have nodes
  pub met_used : {F : Type 0} (edit : NodeEdit N F) (k0 k1 : KindsOf N) (met : List Met) → AllByRecursion (λ m. IsEdited edit k0 k1 m.old m.new) met → AllByRecursion (λ m. IsNode k1 m.new) met
  met_used edit k0 k1 met h = all_weaker (λ m. IsEdited edit k0 k1 m.old m.new) (λ m. IsNode k1 m.new) (λ m h. (h.edited, h.is_after)) met h

module _ {N F : Type 0} (edit : NodeEdit N F) (k0 k1 k2 : KindsOf N) (ns done puts : Numbers) (met : List Met)
    (sound : AreSound k0 ns) (order : IsInOrder done) (among : AreAmong ns done) (edited : AreEdited edit k0 done k1 met puts) (moves : Moves k1 met k2) where
  pub puts_order : IsInOrder puts
  puts_order = sorted_paths puts done edited.paths ∙ order

  counted : (n : ℕ) → count_at k2 n ≡ paths_with n (put_all puts ns)
  counted n =
      let c = moves.counts n in
      let before = edited.counts n in
      let now = sound.counted n in
      let olds = edited.olds n in
      let news = edited.news n in
      let all = count_put_all n puts ns puts_order sound.order in
      let found = found_among n ns puts done edited.paths among in
      omega (arith, c, before, now, olds, news, all, found)

  used_between : AreUsed k1 (put_all puts ns)
  used_between = used_put_all k1 puts ns edited.used (used_extend k0 k1 ns edited.extends sound.used)

  pub sound_after : AreSound k2 (put_all puts ns)
  sound_after = record {
    order = in_order-put_all puts ns sound.order;
    used = kept_used k1 k2 moves.nodes (put_all puts ns) counted used_between;
    counted = counted;
  }

  pub entries_after : entries_by k2 (put_all puts ns) ≡ put_all (entries_by k1 puts) (entries_by k0 ns)
  entries_after =
      kept_entries k1 k2 moves.nodes (put_all puts ns) counted
      ∙ entries_put_all k1 puts ns edited.used (used_extend k0 k1 ns edited.extends sound.used)
      ∙ ap (put_all (entries_by k1 puts)) (entries_extend k0 k1 ns edited.extends sound.used)

  same_nodes : AllByRecursion (λ e. node_at k2 e.1 ≡ node_at k1 e.1) puts
  same_nodes = all_weaker (λ e. 0 < count_at k2 e.1) (λ e. node_at k2 e.1 ≡ node_at k1 e.1) (λ e h. moves.nodes e.1 h) puts (puts_counted (count_at k2) puts ns puts_order counted)

  -- the nodes that the edit made are kept
  puts_kept : entries_by k2 puts ≡ entries_by k1 puts
  puts_kept = entries_same k1 k2 puts same_nodes

  pub edits_are : edit_each edit (entries_by k0 done) ≡ Ok (entries_by k2 puts)
  edits_are = edited.made ∙ ap (λ l. Ok l) (sym puts_kept)

  pub numbers_after : with_values puts ns ≡ put_all puts ns
  numbers_after = sym (put_all_there puts ns puts_order sound.order (there ns puts done edited.paths among))

  pub are_put : ArePut (k0, ns) (k2, put_all puts ns) puts
  are_put = record {
    used = used_same k1 k2 puts same_nodes edited.used;
    put = entries_after ∙ ap (λ l. put_all l (entries_by k0 ns)) (sym puts_kept);
  }
