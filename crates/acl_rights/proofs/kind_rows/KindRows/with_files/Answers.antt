use Rattle.std.proofs.Common.{ℕ, ◌++◌, List, length, map, sym, ap, subst, arith}
use Rattle.std.specs.Prelude.{count_by}
use Rattle.std.proofs.lemmas.List.{length-map}
use Rattle.acl_names.specs.Paths.{PathOf}
use Rattle.acl_entry.specs.declared.label.Label.{Label}
use Rattle.path_map.specs.Entries.{IsInOrder, seen}
use Rattle.kinds.specs.Numbered.{Kept, AreSound, entries_in}
use Rattle.path_classes.specs.declared.label_row.LabelRow.{LabelRow}
use Rattle.path_classes.specs.ClassedRows.{paths_of}
use Rattle.path_classes.specs.KindRows.{RowedPaths}
use Rattle.acl_rights.specs.KindRows.{with_label, AreRowsOf, BeginWithRoot}
use Rattle.acl_rights.proofs.Counted.{few_counted, entries_long}
use Rattle.acl_rights.proofs.RootLast.{cost_parted, rows_with, order_root, order_others, rows_twice, both_counted, all_inside}
use Rattle.acl_rights.proofs.kind_rows.KindRows.with_files.Goals as goal

pub split_at-requires : goal.split_at-requires
split_at-requires g c =
    let b = c.begin_with_root.ensures c.if-not-begin_with_root.false in
    omega (arith, ap length b.first, length-map c.args.changed.now with_label)

pub with_labels-requires-2 : goal.with_labels-requires-2
with_labels-requires-2 g c =
    let s = c.split_at in
    let cost = cost_parted (length s.result.0.now) (length s.result.1.now) (length c.args.changed.now) (length c.args.users.now) s.ensures.front_len s.ensures.back_len in
    record {
      room = omega (arith, cost, c.requires.room);
      known = c.requires.known;
      changed =
          order_others (entries_in c.args.self.now.rows) c.args.changed.now s.result.0.now s.result.1.now (map seen c.args.gone.now) (c.begin_with_root.ensures c.if-not-begin_with_root.false)
          s.ensures.front s.ensures.back c.requires.changed;
      gone = c.requires.gone;
    }

pub with_labels-requires-3 : goal.with_labels-requires-3
with_labels-requires-3 g c =
    let V = g.J.Judge.verdict_of in
    let s = c.split_at in
    let cost = cost_parted (length s.result.0.now) (length s.result.1.now) (length c.args.changed.now) (length c.args.users.now) s.ensures.front_len s.ensures.back_len in
    record {
      room = omega (arith, cost, c.requires.room, c.with_labels-2.ensures.at_most);
      known =
          subst (λ (es : RowedPaths). AreRowsOf V c.args.users.now es) (sym c.in_ok-between.ensures.rows)
          (rows_with V c.args.users.now (map with_label s.result.1.now) (map seen c.args.gone.now) (entries_in c.args.self.now.rows) c.requires.known);
      changed =
          order_root (entries_in c.args.self.now.rows) c.args.changed.now s.result.0.now s.result.1.now (map seen c.args.gone.now) (c.begin_with_root.ensures c.if-not-begin_with_root.false)
          s.ensures.front s.ensures.back;
      gone = c.requires.gone;
    }

pub len-files-requires : goal.len-files-requires
len-files-requires g c =
    let s = c.split_at in
    let rows = rows_twice g.J.Judge.verdict_of c.args.users.now c.args.self.now.rows c.in_ok-between.between.rows c.in_ok-new.new.rows c.args.changed.now s.result.0.now s.result.1.now
    (map seen c.args.gone.now) (c.begin_with_root.ensures c.if-not-begin_with_root.false) s.ensures.front s.ensures.back
    (subst (λ (k : Kept LabelRow). IsInOrder (entries_in k)) c.rows.ensures c.order_law.ensures) c.requires.changed c.in_ok-between.ensures.rows c.in_ok-new.ensures.rows in
    omega (arith, ap length rows, ap (λ (k : Kept LabelRow). length (entries_in k)) c.rows-4.ensures, c.requires.few)

pub returns : goal.returns
returns g c =
    let V = g.J.Judge.verdict_of in
    let us = c.args.users.now in
    let s = c.split_at in
    let cost = cost_parted (length s.result.0.now) (length s.result.1.now) (length c.args.changed.now) (length us) s.ensures.front_len s.ensures.back_len in
    let old : Kept LabelRow = c.args.self.now.rows in
    let mid : Kept LabelRow = c.in_ok-between.between.rows in
    let new : Kept LabelRow = c.in_ok-new.new.rows in
    let labels = c.args.changed.now in
    let gone = map seen c.args.gone.now in
    let b : BeginWithRoot (entries_in old) (map with_label labels) gone = c.begin_with_root.ensures c.if-not-begin_with_root.false in
    let order_old = subst (λ (k : Kept LabelRow). IsInOrder (entries_in k)) c.rows.ensures c.order_law.ensures in
    let sound_mid : AreSound mid.0 mid.1 = subst (λ (k : Kept LabelRow). AreSound k.0 k.1) c.rows-2.ensures c.kinds-between.ensures.sound in
    let sound_new : AreSound new.0 new.1 = subst (λ (k : Kept LabelRow). AreSound k.0 k.1) c.rows-3.ensures c.kinds-new.ensures.sound in
    let same = ap (λ (k : Kept LabelRow). length (entries_in k)) c.rows-4.ensures in
    record {
      rows =
          rows_twice V us old mid new labels s.result.0.now s.result.1.now gone b s.ensures.front s.ensures.back order_old c.requires.changed
          c.in_ok-between.ensures.rows c.in_ok-new.ensures.rows;
      least = λ differs stays.
          let sum = both_counted V us old mid new labels s.result.0.now s.result.1.now gone b s.ensures.front s.ensures.back order_old c.requires.changed
          c.in_ok-between.ensures.rows c.in_ok-new.ensures.rows sound_mid.used sound_new.used
          c.in_ok-between.count c.in_ok-new.more c.in_ok-between.ensures.least c.in_ok-new.ensures.least differs stays in
          let few = few_counted (λ (e : PathOf × ℕ). differs e.0) new.1 in
          let long = entries_long new.0 new.1 sound_new.used in
          c.sum_up_to.ensures.least (count_by (λ (e : PathOf × ℕ). differs e.0) new.1) sum (omega (arith, few, long, same, c.len-files.ensures));
      most =
          let whole = all_inside (paths_of (map with_label labels) ++ paths_of gone) (paths_of b.others ++ paths_of gone)
          (ap (λ (ls : List (PathOf × Label)). paths_of ls ++ paths_of gone) b.first) (entries_in new) in
          omega (arith, whole, same, c.len-files.ensures, c.sum_up_to.ensures.most);
      at_most = omega (arith, cost, c.with_labels-2.ensures.at_most, c.with_labels-3.ensures.at_most);
    }
