-- Rows where files have other labels and others are gone, by their labels' numbers.
use Rattle.std.proofs.Common.{◌≡◌, ℕ, ◌+◌, ◌<◌, ◌||◌, ◌++◌, Bool, true, false, true≢false, not, cond, List, [], ◌∷◌, length, map, filter, is_some, Option, Some, None, refl, sym, ap, subst, ◌∙◌, arith}
use Rattle.std.specs.Prelude.{slice_get, ◌==◌}
use Rattle.std.specs.Borrow.{Bor}
use Rattle.std.specs.List.{AllByRecursion}
use Rattle.std.specs.Option.{option_or}
use Rattle.std.specs.Ordering.{is_eq}
use Rattle.std.specs.FinMap.{find}
use Rattle.std.proofs.lemmas.Bool.{eq-eqb}
use Rattle.std.proofs.lemmas.List.Folds.{list_any-append}
use Rattle.std.proofs.lemmas.List.Sums.{length-filter}
use Rattle.acl_names.specs.Paths.{path_cmp, PathOf}
use Rattle.acl_entry.specs.declared.label.Label.{Label}
use Rattle.path_map.specs.Entries.{IsInOrder, seen}
use Rattle.path_map.specs.Merged.{has, put_all, without_all}
use Rattle.path_map.proofs.Rows.{find_put_all}
use Rattle.kinds.specs.Kinds.{KindsOf, node_at, count_at, IsNode}
use Rattle.kinds.specs.Numbered.{Kept, Numbers, AreUsed, AreSound, entries_by, paths_with, one_if}
use Rattle.kinds.specs.Tagged.{is_one}
use Rattle.path_classes.specs.declared.label_row.LabelRow.{LabelRow}
use Rattle.path_classes.specs.ClassedRows.{PutsRows, paths_of}
use Rattle.path_classes.specs.ClassesWithin.{is_inside, inside}
use Rattle.path_classes.proofs.Maps.{map_twice}
use Rattle.acl_rights.specs.KindRows.{with_label, labels_at, some_labels}
use Rattle.acl_rights.proofs.Counted.{entries_counted}
use Rattle.acl_rights.proofs.RowCounts.{finds}

-- ---- paths of places, and of what is put

pub placed_paths : (ls : List Label) (es : Numbers) (changed : List (Bor PathOf × Bor Label)) → labels_at ls es ≡ some_labels (map with_label changed)
    → paths_of es ≡ paths_of (map (seen {V = Bor Label}) changed)
placed_paths ls es changed are =
    sym (map_twice (λ (e : PathOf × ℕ). (e.0, slice_get ls e.1)) (λ (e : PathOf × Option Label). e.0) es)
    ∙ ap (map (λ (e : PathOf × Option Label). e.0)) are
    ∙ map_twice (λ (e : PathOf × Label). (e.0, Some e.1)) (λ (e : PathOf × Option Label). e.0) (map with_label changed)
    ∙ map_twice with_label (λ (e : PathOf × Label). e.0) changed
    ∙ sym (map_twice (seen {V = Bor Label}) (λ (e : PathOf × Bor Label). e.0) changed)

has_paths : {A B : Type 0} (p : PathOf) (es : List (PathOf × A)) (fs : List (PathOf × B)) → paths_of es ≡ paths_of fs → has p es ≡ has p fs
has_paths p [] [] h = refl
has_paths p [] (f ∷ fs) h = cc
has_paths p (e ∷ es) [] h = cc
has_paths {A = A} {B = B} p (e ∷ es) (f ∷ fs) h =
    let first : e.0 ≡ f.0 = cc in
    let rest : paths_of es ≡ paths_of fs = cc in
    by (is_eq (path_cmp p e.0)) (is_eq (path_cmp p f.0)) (ap (λ q. is_eq (path_cmp p q)) first) (has_paths p es fs rest)
  where
    by : (b c : Bool) → b ≡ c → has p es ≡ has p fs → is_some (cond b (Some e.1) (find path_cmp p es)) ≡ is_some (cond c (Some f.1) (find path_cmp p fs))
    by true true same more = refl
    by true false same more = cc
    by false true same more = cc
    by false false same more = more

-- ---- paths that are neither put nor gone

all_kept : {A : Type 0} (P Q : A → Type 0) (test : A → Bool) (es : List A) → AllByRecursion P es → ((e : A) → P e → test e ≡ true → Q e) → AllByRecursion Q (filter test es)
all_kept P Q test [] all h = tt
all_kept {A = A} P Q test (e ∷ es) all h = by (test e) refl (all_kept P Q test es all.1 h)
  where
    by : (b : Bool) → test e ≡ b → AllByRecursion Q (filter test es) → AllByRecursion Q (cond b (e ∷ filter test es) (filter test es))
    by true is more = (h e all.0 is, more)
    by false is more = more

both : {A : Type 0} (P Q : A → Type 0) (es : List A) → AllByRecursion P es → AllByRecursion Q es → AllByRecursion (λ e. P e × Q e) es
both P Q [] h k = tt
both P Q (e ∷ es) h k = ((h.0, k.0), both P Q es h.1 k.1)

-- a number that a path has is counted
found_counted : (p : PathOf) (n : ℕ) (es : Numbers) → find path_cmp p es ≡ Some n → 0 < paths_with n es
found_counted p n [] is = cc
found_counted p n (e ∷ es) is = by (is_eq (path_cmp p e.0)) is (found_counted p n es)
  where
    by : (b : Bool) → cond b (Some e.1) (find path_cmp p es) ≡ Some n → (find path_cmp p es ≡ Some n → 0 < paths_with n es) → 0 < one_if n e.1 + paths_with n es
    by true here more =
        let same : e.1 ≡ n = cc in
        let one : one_if n e.1 ≡ 1 = ap (λ b. cond b 1 0) (eq-eqb e.1 n same) in
        omega (arith, one)
    by false there more = let k = more there in omega (arith, k)

module _ {V W : Type 0} (old left new : Kept LabelRow) (changed : List (PathOf × V)) (gone : List (PathOf × W)) (puts : Numbers) (puts_order : IsInOrder puts)
    (paths : paths_of puts ≡ paths_of changed)
    (sound_left : AreSound left.0 left.1) (sound_new : AreSound new.0 new.1) (numbers_left : left.1 ≡ without_all gone old.1) (numbers_new : new.1 ≡ put_all puts left.1)
    (nodes_left : (n : ℕ) → 0 < count_at left.0 n → node_at left.0 n ≡ node_at old.0 n)
    (nodes_new : (n : ℕ) (x : LabelRow) → node_at left.0 n ≡ Some x → 0 < count_at new.0 n → node_at new.0 n ≡ Some x) where
  nothing : (p : PathOf) → not (has p changed) ≡ true → find path_cmp p puts ≡ None
  nothing p h = by (find path_cmp p puts) (ap not (has_paths p puts changed paths) ∙ h)
    where
      by : (o : Option ℕ) → not (is_some o) ≡ true → o ≡ None
      by None h = refl
      by (Some n) h = cc

  stays : (e : PathOf × ℕ) → (find path_cmp e.0 left.1 ≡ Some e.1) × IsNode left.0 e.1 → not (has e.0 changed) ≡ true → node_at new.0 e.1 ≡ node_at old.0 e.1
  stays e h out =
      let was = found_counted e.0 e.1 left.1 h.0 in
      let here : find path_cmp e.0 new.1 ≡ Some e.1 = ap (find path_cmp e.0) numbers_new ∙ find_put_all e.0 puts left.1 puts_order ∙ (λ i. option_or (nothing e.0 out i) (h.0 i)) in
      let is = found_counted e.0 e.1 new.1 here in
      nodes_new e.1 h.1.0 h.1.1 (subst (λ n. 0 < n) (sym (sound_new.counted e.1)) is)
      ∙ sym h.1.1
      ∙ nodes_left e.1 (subst (λ n. 0 < n) (sym (sound_left.counted e.1)) was)

  pub puts_rows : PutsRows old changed gone new
  puts_rows = record {
    puts = puts;
    paths = paths;
    numbers = numbers_new ∙ ap (put_all puts) numbers_left;
    kept =
        subst (λ (es : Numbers). AllByRecursion (λ (e : PathOf × ℕ). node_at new.0 e.1 ≡ node_at old.0 e.1) (without_all changed es)) numbers_left
        (all_kept (λ e. (find path_cmp e.0 left.1 ≡ Some e.1) × IsNode left.0 e.1) (λ e. node_at new.0 e.1 ≡ node_at old.0 e.1) (λ e. not (has e.0 changed)) left.1
        (both (λ e. find path_cmp e.0 left.1 ≡ Some e.1) (λ e. IsNode left.0 e.1) left.1 (finds left.1 [] left.1 refl sound_left.order) sound_left.used)
        stays);
  }

-- as many numbers are inside as entries
pub inside_entries : {N : Type 0} (tops : List PathOf) (k : KindsOf N) (ns : Numbers) → AreUsed k ns → length (inside tops ns) ≡ length (inside tops (entries_by k ns))
inside_entries {N = N} tops k ns used =
    length-filter (λ (e : PathOf × ℕ). is_inside tops e.0) ns
    ∙ entries_counted k (is_inside tops) ns used
    ∙ sym (length-filter (λ (e : PathOf × N). is_inside tops e.0) (entries_by k ns))

pub label_paths : (changed : List (Bor PathOf × Bor Label)) → paths_of (map (seen {V = Bor Label}) changed) ≡ paths_of (map with_label changed)
label_paths changed = map_twice (seen {V = Bor Label}) (λ (e : PathOf × Bor Label). e.0) changed ∙ sym (map_twice with_label (λ (e : PathOf × Label). e.0) changed)

-- ---- numbers of two lists

neither : (a b : Bool) → (a || b) ≡ false → (a ≡ false) × (b ≡ false)
neither true b h = absurd (true≢false h)
neither false b h = (refl, h)

-- a number that is none of two lists in a row
pub none_of : (n : ℕ) (xs ys all : List ℕ) → all ≡ xs ++ ys → is_one n all ≡ false → (is_one n xs ≡ false) × (is_one n ys ≡ false)
none_of n xs ys all is h = neither (is_one n xs) (is_one n ys) (sym (list_any-append (λ m. m == n) xs ys) ∙ sym (ap (is_one n) is) ∙ h)
