use Rattle.std.proofs.Common.{◌≡◌, ℕ, ◌+◌, ◌++◌, ◌<◌, ◌≤◌, Bool, true, false, cond, List, length, nat_lt, refl, sym, ap, subst, ◌∙◌, arith}
use Rattle.std.specs.Prelude.{count_by, slice_set}
use Rattle.std.specs.List.Sorted.{IsStrictlyIncreasing}
use Rattle.acl_names.specs.Paths.{PathOf}
use Rattle.acl_entry.specs.Mentions.{mentions, meets}
use Rattle.acl_entry.specs.Person.{Person}
use Rattle.kinds.specs.Numbered.{Kept, Numbers, AreSound, entries_in}
use Rattle.kinds.specs.Tagged.{is_one, tags_at}
use Rattle.path_classes.specs.ClassedRows.{AreCounted, AllInside}
use Rattle.path_classes.specs.ClassesWithin.{inside}
use Rattle.path_classes.specs.ClassedRows.{ChangesRows}
use Rattle.acl_rights.proofs.Inside.{paths}
use Rattle.acl_rights.proofs.MovedRows.{groups_of, mentioning, changes_rows, all_labelled, inside_lying}
use Rattle.kinds.specs.Renewed.{changed_where}
use Rattle.path_classes.specs.declared.label_row.LabelRow.{LabelRow}
use Rattle.acl_rights.specs.Rows.{Verdict}
use Rattle.acl_rights.specs.KindRows.{each_row, mentions_any, asked_again}
use Rattle.acl_rights.proofs.RowsOfKinds.{again_where}
use Rattle.acl_rights.proofs.kind_rows.KindRows.with_user_updated.Goals as goal

label_stays : (V : Verdict) (at : ℕ) (u : Person) (r : LabelRow) → mentions (asked_again V at u r).label ≡ mentions r.label
label_stays V at u r = by (nat_lt at (length r.row))
  where
    by : (b : Bool) → mentions (cond b (record { label = r.label; row = slice_set r.row at (V u r.label) }) r).label ≡ mentions r.label
    by true = refl
    by false = refl

abbrev count_of : List (PathOf × LabelRow) → List ℕ → ℕ
count_of es groups = count_by (λ (e : PathOf × LabelRow). meets (mentions e.1.label) groups) es

pub with_tagged-requires : goal.with_tagged-requires
with_tagged-requires g c =
    let same : c.deref.result.now ≡ c.args.groups.now = c.deref.ensures.value ∙ c.in_ok-push_groups.ensures ∙ ap (λ l. l ++ c.args.groups.now) c.new-tags.ensures.items in
    let J = g.J.Judge.asked_of in
    record {
      room =
          subst (λ (k : Kept LabelRow). J c.args.judge.now + count_of (entries_in k) c.deref.result.now < 18446744073709551616) (sym c.rows-before.ensures)
          (subst (λ (l : List ℕ). J c.args.judge.now + count_of (entries_in c.args.self.now.rows) l < 18446744073709551616) (sym same) c.requires.room);
      tags = label_stays g.J.Judge.verdict_of c.args.moved.now.at c.args.moved.now.user.now;
    }

pub with_rows-requires : goal.with_rows-requires
with_rows-requires g c =
    let V = g.J.Judge.verdict_of in
    let before : Kept LabelRow = c.rows-before.result.now in
    record {
      rising = subst IsStrictlyIncreasing (sym c.deref-2.ensures.value) c.in_ok-updated.ensures.rising;
      changes =
          subst (λ (ls : List ℕ). ChangesRows c.args.self.now.rows ls c.in_ok-updated.updated) (sym c.deref-2.ensures.value)
          (subst (λ (k : Kept LabelRow). ChangesRows k c.in_ok-updated.labels.items c.in_ok-updated.updated) c.rows-before.ensures
          (changes_rows (asked_again V c.args.moved.now.at c.args.moved.now.user.now) c.deref.result.now c.in_ok-updated.labels.items before c.in_ok-updated.updated c.in_ok-updated.ensures.kinds
          c.in_ok-updated.ensures.paths c.in_ok-updated.ensures.same));
    }

pub returns-in_err-updated-clause-at_most : goal.returns-in_err-updated-clause-at_most
returns-in_err-updated-clause-at_most g c =
    let same : c.deref.result.now ≡ c.args.groups.now = c.deref.ensures.value ∙ c.in_ok-push_groups.ensures ∙ ap (λ l. l ++ c.args.groups.now) c.new-tags.ensures.items in
    let J = g.J.Judge.asked_of in
    subst (λ (l : List ℕ). J c.with_tagged.new.state ≤ J c.args.judge.now + count_of (entries_in c.args.self.now.rows) l) same
    (subst (λ (k : Kept LabelRow). J c.with_tagged.new.state ≤ J c.args.judge.now + count_of (entries_in k) c.deref.result.now) c.rows-before.ensures c.with_tagged.ensures.at_most)

pub returns-in_err-rows-clause-at_most : goal.returns-in_err-rows-clause-at_most
returns-in_err-rows-clause-at_most g c =
    let same : c.deref.result.now ≡ c.args.groups.now = c.deref.ensures.value ∙ c.in_ok-push_groups.ensures ∙ ap (λ l. l ++ c.args.groups.now) c.new-tags.ensures.items in
    let J = g.J.Judge.asked_of in
    subst (λ (l : List ℕ). J c.with_tagged.new.state ≤ J c.args.judge.now + count_of (entries_in c.args.self.now.rows) l) same
    (subst (λ (k : Kept LabelRow). J c.with_tagged.new.state ≤ J c.args.judge.now + count_of (entries_in k) c.deref.result.now) c.rows-before.ensures c.in_ok-updated.ensures.at_most)

pub returns-clause-at_most : goal.returns-clause-at_most
returns-clause-at_most g c =
    let same : c.deref.result.now ≡ c.args.groups.now = c.deref.ensures.value ∙ c.in_ok-push_groups.ensures ∙ ap (λ l. l ++ c.args.groups.now) c.new-tags.ensures.items in
    let J = g.J.Judge.asked_of in
    subst (λ (l : List ℕ). J c.with_tagged.new.state ≤ J c.args.judge.now + count_of (entries_in c.args.self.now.rows) l) same
    (subst (λ (k : Kept LabelRow). J c.with_tagged.new.state ≤ J c.args.judge.now + count_of (entries_in k) c.deref.result.now) c.rows-before.ensures c.in_ok-updated.ensures.at_most)

pub returns-clause-rows : goal.returns-clause-rows
returns-clause-rows g c =
    let same : c.deref.result.now ≡ c.args.groups.now = c.deref.ensures.value ∙ c.in_ok-push_groups.ensures ∙ ap (λ l. l ++ c.args.groups.now) c.new-tags.ensures.items in
    let V = g.J.Judge.verdict_of in
    let es = entries_in c.args.self.now.rows in
    let made : entries_in c.in_ok-updated.updated
    ≡ each_row (changed_where (mentions_any c.deref.result.now) (asked_again V c.args.moved.now.at c.args.moved.now.user.now)) (entries_in c.rows-before.result.now) =
    c.in_ok-updated.ensures.entries in
    ap (λ (k : Kept LabelRow). entries_in k) c.in_ok-rows.ensures.rows
    ∙ made
    ∙ ap (λ (k : Kept LabelRow). each_row (changed_where (mentions_any c.deref.result.now) (asked_again V c.args.moved.now.at c.args.moved.now.user.now)) (entries_in k)) c.rows-before.ensures
    ∙ ap (λ (l : List ℕ). each_row (changed_where (mentions_any l) (asked_again V c.args.moved.now.at c.args.moved.now.user.now)) es) same
    ∙ ap (λ (f : LabelRow → LabelRow). each_row f es) (again_where V c.args.moved.now.at c.args.moved.now.user.now c.args.groups.now)

pub returns-clause-few : goal.returns-clause-few
returns-clause-few g c =
    let same : c.deref.result.now ≡ c.args.groups.now = c.deref.ensures.value ∙ c.in_ok-push_groups.ensures ∙ ap (λ l. l ++ c.args.groups.now) c.new-tags.ensures.items in
    subst (λ (l : List ℕ). c.in_ok-updated.looked ≤ count_of (entries_in c.args.self.now.rows) l) same
    (subst (λ (k : Kept LabelRow). c.in_ok-updated.looked ≤ count_of (entries_in k) c.deref.result.now) c.rows-before.ensures c.in_ok-updated.ensures.few)

pub returns-clause-least : goal.returns-clause-least
returns-clause-least g c = subst (λ (k : Kept LabelRow). AreCounted c.args.self.now.rows k c.in_ok-rows.refreshed) (sym c.in_ok-rows.ensures.rows) c.in_ok-rows.ensures.least

pub returns-clause-most : goal.returns-clause-most
returns-clause-most g c =
    let same : c.deref.result.now ≡ c.args.groups.now = c.deref.ensures.value ∙ c.in_ok-push_groups.ensures ∙ ap (λ l. l ++ c.args.groups.now) c.new-tags.ensures.items in
    let old : Kept LabelRow = c.args.self.now.rows in
    let groups = c.args.groups.now in
    let labels : List ℕ = c.in_ok-updated.labels.items in
    let among : (n : ℕ) → is_one n labels ≡ true → meets (tags_at groups_of old.0 n) groups ≡ true =
    λ n one. (λ i. meets (tags_at groups_of (sym c.rows-before.ensures i).0 n) (sym same i)) ∙ c.in_ok-updated.ensures.among n one in
    let sound : AreSound old.0 old.1 = subst (λ (k : Kept LabelRow). AreSound k.0 k.1) (c.map.ensures ∙ c.rows-before.ensures) c.kinds-kinds.ensures.sound in
    let tops : List PathOf = paths (mentioning groups (entries_in old)) in
    let numbers : c.in_ok-updated.updated.1 ≡ old.1 = c.in_ok-updated.ensures.paths ∙ ap (λ (k : Kept LabelRow). k.1) c.rows-before.ensures in
    let labelled : AllInside c.deref-2.result.now tops c.in_ok-updated.updated.1 =
    subst (λ (ls : List ℕ). AllInside ls tops c.in_ok-updated.updated.1) (sym c.deref-2.ensures.value)
    (subst (AllInside labels tops) (sym numbers) (all_labelled groups labels old.0 among old.1 sound.used)) in
    let le = c.in_ok-rows.ensures.most tops labelled in
    let long = ap (λ (ns : Numbers). length (inside tops ns)) numbers ∙ inside_lying groups old.0 old.1 sound.used in
    omega (arith, le, long)
