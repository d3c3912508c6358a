-- The lines of `below`, out of the rows of the files at or below some paths.
use Rattle.std.proofs.Common.{◌≡◌, ℕ, zero, suc, ◌+◌, ◌<◌, Bool, true, false, cond, ◌&&◌, ◌||◌, IsTrue, Option, Some, None, refl, sym, ap, subst, ◌∙◌, arith}
use Rattle.std.proofs.Common.{List, [], ◌∷◌, ◌++◌, append-nil, append_assoc, drop, filter, get_or, length, map}
use Rattle.std.specs.Prelude.{option_map, slice_get, count_by, decimal}
use Rattle.std.specs.Option.{option_map_or}
use Rattle.std.specs.List.{find, flat_map}
use Rattle.std.specs.Ordering.{is_eq, is_lt}
use Rattle.std.specs.FinMap.{is_sorted}
use Rattle.std.specs.FinMap.Entries.{below_all}
use Rattle.std.proofs.lemmas.Bool.{and_parts}
use Rattle.std.proofs.lemmas.Cmp.{tied_itself}
use Rattle.std.proofs.lemmas.List.{length-map}
use Rattle.std.proofs.lemmas.List.Sums.{length-filter}
use Rattle.std.proofs.lemmas.Option.{slice_get-map}
use Rattle.acl_entry.specs.Check.{has}
use Rattle.acl_entry.specs.Perms.{Perms}
use Rattle.acl_names.specs.Names.{escaped}
use Rattle.acl_names.specs.Paths.{path_cmp, PathOf}
use Rattle.acl_names.proofs.PathOrder.{path_total}
use Rattle.acl_names.proofs.Basics.{is_less}
use Rattle.acl_text.specs.declared.rows.PasswdRow.{PasswdRow}
use Rattle.acl_edit.specs.declared.node.Kind.{Kind}
use Rattle.acl_edit.specs.declared.node.Node.{Node}
use Rattle.path_map.specs.Below.{holds_below}
use Rattle.path_map.specs.Entries.{IsInOrder}
use Rattle.path_map.proofs.Places.{above}
use Rattle.acl_tree.specs.Files.{Files}
use Rattle.acl_tree.specs.Found.{FoundFile, found_file, found_in, files_found}
use Rattle.acl_tree.specs.Operands.{is_file}
use Rattle.acl_tree.specs.State.{State}
use Rattle.acl_tree.proofs.Follows.{before_it}
use Rattle.path_classes.specs.Rows.{Rows, grants, grants_to}
use Rattle.acl_rights.specs.Rows.{Verdict}
use Rattle.acl_rights.specs.Verdicts.{granted}
use Rattle.facl_answers.specs.Answers.{file_line}
use Rattle.facl_answers.proofs.GrantedFiles.{cell_granted, cells_granted, same_items}
use Rattle.facl_counts.specs.BelowText.{is_of_kind, below_line, granted_below, below_text}
use Rattle.facl_counts.specs.CountTexts.{count_text}
use Rattle.facl_counts.specs.Sums.{Sum, lines_by, rows_of_kind, sum_in, sum_line, sum_lines, AreSums}

-- ---- one file of all

abbrev asked_alone : PathOf → PathOf × Node → Bool
asked_alone p e = is_file false (p ∷ []) e.0

-- no later file has the path
none_after : (p : PathOf) (es : Files) → IsTrue (below_all path_cmp p es) → filter (asked_alone p) es ≡ []
none_after p [] h = refl
none_after p (e ∷ es) h =
    let parts = and_parts (is_lt (path_cmp p e.0)) (below_all path_cmp p es) h in
    ap (λ b. cond (b || false) (e ∷ filter (asked_alone p) es) (filter (asked_alone p) es)) (ap is_eq (above p e.0 (is_less (path_cmp p e.0) parts.0)))
    ∙ none_after p es parts.1

alone : (done : Files) (e : PathOf × Node) (more : Files) → IsInOrder (done ++ e ∷ more) → filter (asked_alone e.0) (done ++ e ∷ more) ≡ e ∷ []
alone [] e more order =
    let parts = and_parts (below_all path_cmp e.0 more) (is_sorted path_cmp more) order in
    ap (λ b. cond (b || false) (e ∷ filter (asked_alone e.0) more) (filter (asked_alone e.0) more)) (ap is_eq (tied_itself path_total e.0))
    ∙ ap (λ (l : Files). e ∷ l) (none_after e.0 more parts.0)
alone (x ∷ done) e more order =
    let parts = and_parts (below_all path_cmp x.0 (done ++ e ∷ more)) (is_sorted path_cmp (done ++ e ∷ more)) order in
    ap (λ b. cond (b || false) (x ∷ filter (asked_alone e.0) (done ++ e ∷ more)) (filter (asked_alone e.0) (done ++ e ∷ more))) (ap is_eq (before_it x.0 done e more parts.0))
    ∙ alone done e more parts.1

-- a file is one of some
record IsOneOf (t es : Files) (file : FoundFile) : Type 0 where
  done : Files
  entry : PathOf × Node
  more : Files
  parts : es ≡ done ++ entry ∷ more
  is : file ≡ found_file (holds_below t entry.0) entry

one_later : (t es : Files) (e : PathOf × Node) (file : FoundFile) → IsOneOf t es file → IsOneOf t (e ∷ es) file
one_later t es e file one = record { done = e ∷ one.done; entry = one.entry; more = one.more; parts = ap (λ (l : Files). e ∷ l) one.parts; is = one.is }

module _ (t : Files) (asked test : PathOf × Node → Bool) where
  abbrev passing : List FoundFile → List FoundFile
  passing files = filter (λ (file : FoundFile). test (file.path, file.node)) files

  -- the first of those that pass is one of all
  first_is : (es : Files) (file : FoundFile) (rest : List FoundFile) → passing (found_in t (filter asked es)) ≡ file ∷ rest → IsOneOf t es file
  first_is [] file rest h = absurd (cc h)
  first_is (e ∷ es) file rest h = by (asked e) h (first_is es file rest)
    where
      here : (b : Bool) → cond b (found_file (holds_below t e.0) e ∷ passing (found_in t (filter asked es))) (passing (found_in t (filter asked es))) ≡ file ∷ rest
          → (passing (found_in t (filter asked es)) ≡ file ∷ rest → IsOneOf t es file) → IsOneOf t (e ∷ es) file
      here true h more = record { done = []; entry = e; more = es; parts = refl; is = cc h }
      here false h more = one_later t es e file (more h)

      by : (b : Bool) → passing (found_in t (cond b (e ∷ filter asked es) (filter asked es))) ≡ file ∷ rest
          → (passing (found_in t (filter asked es)) ≡ file ∷ rest → IsOneOf t es file) → IsOneOf t (e ∷ es) file
      by true h more = here (test e) h more
      by false h more = one_later t es e file (more h)

one_found : (t : Files) (file : FoundFile) → IsInOrder t → IsOneOf t t file → files_found false (file.path ∷ []) t ≡ file ∷ []
one_found t file order one =
    ap (λ (f : FoundFile). files_found false (f.path ∷ []) t) one.is
    ∙ ap (λ (es : Files). found_in t (filter (asked_alone one.entry.0) es)) one.parts
    ∙ ap (found_in t) (alone one.done one.entry one.more (subst IsInOrder one.parts order))
    ∙ ap (λ (f : FoundFile). f ∷ []) (sym one.is)

abbrev first_path : List PathOf → Option PathOf
first_path [] = None
first_path (p ∷ ps) = Some p

-- the sum out of files
abbrev pub sum_of_files : List FoundFile → Sum
sum_of_files files = (length files, first_path (map (λ (f : FoundFile). f.path) files))

found_first : (test : PathOf × List ℕ → Bool) (rows : Rows) → option_map (λ (r : PathOf × List ℕ). r.0) (find test rows) ≡ first_path (map (λ (r : PathOf × List ℕ). r.0) (filter test rows))
found_first test [] = refl
found_first test (r ∷ rows) = by (test r) (found_first test rows)
  where
    by : (b : Bool) → option_map (λ (r : PathOf × List ℕ). r.0) (find test rows) ≡ first_path (map (λ (r : PathOf × List ℕ). r.0) (filter test rows))
        → option_map (λ (r : PathOf × List ℕ). r.0) (cond b (Some r) (find test rows)) ≡ first_path (map (λ (r : PathOf × List ℕ). r.0) (cond b (r ∷ filter test rows) (filter test rows)))
    by true more = refl
    by false more = more

-- ---- rows and what they grant

module _ (V : Verdict) (along : Bool) (s : State) where
  abbrev t : Files
  t = s.tree.files

  abbrev cells : PathOf × Node → List ℕ
  cells e = cells_granted V s along e

  module _ (q : Perms) (kind : Option Kind) (paths : List PathOf) where
    abbrev asked : PathOf × Node → Bool
    asked e = is_file true paths e.0

    abbrev asked_rows : Rows → Rows
    asked_rows rows = filter (λ (r : PathOf × List ℕ). is_file true paths r.0) rows

    module _ (user : ℕ) (row : PasswdRow) (is : slice_get s.people.users user ≡ Some row) where
      abbrev is_granted : PathOf × Node → Bool
      is_granted e = has (granted V along s row e) q

      abbrev test : PathOf × Node → Bool
      test e = is_of_kind kind e.1 && is_granted e

      grants_is : (e : PathOf × Node) → grants q user (cells e) ≡ is_granted e
      grants_is e = ap (λ o. option_map_or (λ c. has c q) o false) (cell_granted V s along e user ∙ ap (option_map (λ r. granted V along s r e)) is)

      abbrev rows_with_kind : Files → Rows
      rows_with_kind es = map {B = PathOf × List ℕ} (λ (e : PathOf × Node). (e.0, cells e)) (filter (λ (e : PathOf × Node). is_of_kind kind e.1) es)

      abbrev of_rows : Files → Rows
      of_rows es = filter (grants_to q user) (asked_rows (rows_with_kind es))

      abbrev of_files : Files → List FoundFile
      of_files es = passing t asked test (found_in t (filter asked es))

      same_paths : (es : Files) → map (λ (r : PathOf × List ℕ). r.0) (of_rows es) ≡ map (λ (f : FoundFile). f.path) (of_files es)
      same_paths [] = refl
      same_paths (e ∷ es) = by (is_of_kind kind e.1) refl (same_paths es)
        where
          here : (a b : Bool) → a ≡ b → map (λ (r : PathOf × List ℕ). r.0) (of_rows es) ≡ map (λ (f : FoundFile). f.path) (of_files es)
              → map (λ (r : PathOf × List ℕ). r.0) (cond a ((e.0, cells e) ∷ of_rows es) (of_rows es))
              ≡ map (λ (f : FoundFile). f.path) (cond b (found_file (holds_below t e.0) e ∷ of_files es) (of_files es))
          here true true h more = ap (λ l. e.0 ∷ l) more
          here true false h more = absurd (cc h)
          here false true h more = absurd (cc h)
          here false false h more = more

          -- a file of the kind
          of_it : (b : Bool) → is_of_kind kind e.1 ≡ true → map (λ (r : PathOf × List ℕ). r.0) (of_rows es) ≡ map (λ (f : FoundFile). f.path) (of_files es)
              → map (λ (r : PathOf × List ℕ). r.0) (filter (grants_to q user) (cond b ((e.0, cells e) ∷ asked_rows (rows_with_kind es)) (asked_rows (rows_with_kind es))))
              ≡ map (λ (f : FoundFile). f.path) (passing t asked test (found_in t (cond b (e ∷ filter asked es) (filter asked es))))
          of_it true is more = here (grants q user (cells e)) (test e) (grants_is e ∙ sym (ap (λ k. k && is_granted e) is)) more
          of_it false is more = more

          -- a file of another kind
          not_counted : (b : Bool) → b ≡ false → map (λ (r : PathOf × List ℕ). r.0) (of_rows es) ≡ map (λ (f : FoundFile). f.path) (of_files es)
              → map (λ (r : PathOf × List ℕ). r.0) (of_rows es) ≡ map (λ (f : FoundFile). f.path) (cond b (found_file (holds_below t e.0) e ∷ of_files es) (of_files es))
          not_counted true h more = absurd (cc h)
          not_counted false h more = more

          of_other : (b : Bool) → is_of_kind kind e.1 ≡ false → map (λ (r : PathOf × List ℕ). r.0) (of_rows es) ≡ map (λ (f : FoundFile). f.path) (of_files es)
              → map (λ (r : PathOf × List ℕ). r.0) (of_rows es) ≡ map (λ (f : FoundFile). f.path) (passing t asked test (found_in t (cond b (e ∷ filter asked es) (filter asked es))))
          of_other true is more = not_counted (test e) (ap (λ k. k && is_granted e) is) more
          of_other false is more = more

          by : (b : Bool) → is_of_kind kind e.1 ≡ b → map (λ (r : PathOf × List ℕ). r.0) (of_rows es) ≡ map (λ (f : FoundFile). f.path) (of_files es)
              → map (λ (r : PathOf × List ℕ). r.0) (filter (grants_to q user) (asked_rows (map {B = PathOf × List ℕ} (λ (x : PathOf × Node). (x.0, cells x))
              (cond b (e ∷ filter (λ (x : PathOf × Node). is_of_kind kind x.1) es) (filter (λ (x : PathOf × Node). is_of_kind kind x.1) es)))))
              ≡ map (λ (f : FoundFile). f.path) (passing t asked test (found_in t (cond (asked e) (e ∷ filter asked es) (filter asked es))))
          by true is more = of_it (asked e) is more
          by false is more = of_other (asked e) is more

      -- the sum of the user
      sum_is : sum_in q user (asked_rows (rows_of_kind V along s kind)) ≡ sum_of_files (granted_below V along s q kind paths row)
      sum_is =
          let passes = filter (grants_to q user) (asked_rows (rows_of_kind V along s kind)) in
          let same : map (λ (r : PathOf × List ℕ). r.0) passes ≡ map (λ (f : FoundFile). f.path) (granted_below V along s q kind paths row) = same_paths t in
          let count : count_by (grants_to q user) (asked_rows (rows_of_kind V along s kind)) ≡ length (granted_below V along s q kind paths row) =
          sym (length-filter (grants_to q user) (asked_rows (rows_of_kind V along s kind)))
          ∙ sym (length-map passes (λ (r : PathOf × List ℕ). r.0))
          ∙ ap length same
          ∙ length-map (granted_below V along s q kind paths row) (λ (f : FoundFile). f.path)
          in
          let first = found_first (grants_to q user) (asked_rows (rows_of_kind V along s kind)) ∙ ap first_path same in
          λ i. (count i, first i)

      line_is : IsInOrder t → (name : List ℕ) → sum_line t name (sum_of_files (granted_below V along s q kind paths row)) ≡ below_line name (granted_below V along s q kind paths row)
      line_is order name = by (granted_below V along s q kind paths row) refl
        where
          by : (files : List FoundFile) → granted_below V along s q kind paths row ≡ files → sum_line t name (sum_of_files files) ≡ below_line name files
          by [] is = refl
          by (file ∷ rest) is =
              let more : suc (length rest) ≡ 1 + length rest = omega arith in
              ap (λ n. count_text n name ++ flat_map file_line (files_found false (file.path ∷ []) t)) more
              ∙ append_assoc (decimal (1 + length rest) ++ 32 ∷ []) (name ++ 32 ∷ []) (flat_map file_line (files_found false (file.path ∷ []) t))
              ∙ append_assoc (decimal (1 + length rest)) (32 ∷ []) ((name ++ 32 ∷ []) ++ flat_map file_line (files_found false (file.path ∷ []) t))
              ∙ ap (λ (l : List ℕ). decimal (1 + length rest) ++ (32 ∷ l)) (append_assoc name (32 ∷ []) (flat_map file_line (files_found false (file.path ∷ []) t)))
              ∙ ap (λ (files : List FoundFile). decimal (1 + length rest) ++ (32 ∷ (name ++ (32 ∷ flat_map file_line files)))) (one_found t file order (first_is t asked test t file rest is))
              ∙ ap (λ (l : List ℕ). decimal (1 + length rest) ++ (32 ∷ (name ++ (32 ∷ l)))) (append-nil (file_line file))

-- ---- all lines

pub each_line : {A : Type 0} (line : List ℕ → Sum → List ℕ) (name : A → List ℕ) (sum : A → Sum) (xs : List A) → lines_by line (map name xs) (map sum xs) ≡ flat_map (λ x. line (name x) (sum x)) xs
each_line line name sum [] = refl
each_line line name sum (x ∷ xs) = ap (λ (l : List ℕ). line (name x) (sum x) ++ l) (each_line line name sum xs)

no_more_sums : (line : List ℕ → Sum → List ℕ) (names : List (List ℕ)) → lines_by line names [] ≡ []
no_more_sums line [] = refl
no_more_sums line (name ∷ names) = refl

drop_none : (k : ℕ) → drop {A = Sum} k [] ≡ []
drop_none zero = refl
drop_none (suc k) = refl

none_left : (sums : List Sum) (i : ℕ) → None ≡ slice_get sums i → (drop i sums ≡ []) × (drop (i + 1) sums ≡ [])
none_left [] i h = (drop_none i, drop_none (i + 1))
none_left (sum ∷ sums) zero h = absurd (cc h)
none_left (sum ∷ sums) (suc i) h =
    let on : suc i + 1 ≡ suc (i + 1) = omega arith in
    let more = none_left sums i h in
    (more.0, ap (λ k. drop k (sum ∷ sums)) on ∙ more.1)

-- the line of one user more
sums_step : (line : List ℕ → Sum → List ℕ) (names : List (List ℕ)) (sums : List Sum) (i : ℕ) (d : List ℕ) (s : Sum) → i < length names → Some s ≡ slice_get sums i
    → lines_by line (drop i names) (drop i sums) ≡ line (get_or names i d) s ++ lines_by line (drop (i + 1) names) (drop (i + 1) sums)
sums_step line [] sums i d s lt here = absurd (omega (arith, lt))
sums_step line (name ∷ names) [] i d s lt here = absurd (cc here)
sums_step line (name ∷ names) (sum ∷ sums) zero d s lt here = let same : s ≡ sum = cc in ap (λ x. line name x ++ lines_by line names sums) (sym same)
sums_step line (name ∷ names) (sum ∷ sums) (suc i) d s lt here =
    let on : suc i + 1 ≡ suc (i + 1) = omega arith in
    sums_step line names sums i d s (omega (arith, lt)) here
    ∙ ap (λ k. line (get_or names i d) s ++ lines_by line (drop k (name ∷ names)) (drop k (sum ∷ sums))) (sym on)

pub name_at : {A : Type 0} (items : A → List ℕ) (names : List A) (i : ℕ) (d : A) → i < length names → get_or (map items names) i (items d) ≡ items (get_or names i d)
name_at items [] i d lt = absurd (omega (arith, lt))
name_at items (name ∷ names) zero d lt = refl
name_at items (name ∷ names) (suc i) d lt = name_at items names i d (omega (arith, lt))

module _ {A : Type 0} (line : List ℕ → Sum → List ℕ) (items : A → List ℕ) (names : List A) (sums : List Sum) (i : ℕ) (text new all : List ℕ) where
  pub sums_more : (name d : A) (s : Sum) → i < length names → name ≡ get_or names i d → Some s ≡ slice_get sums i → new ≡ text ++ line (items name) s
      → text ++ lines_by line (drop i (map items names)) (drop i sums) ≡ all → new ++ lines_by line (drop (i + 1) (map items names)) (drop (i + 1) sums) ≡ all
  sums_more name d s lt is here wrote so_far =
      let ns = map items names in
      let within : i < length ns = omega (arith, lt, length-map names items) in
      let named : items name ≡ get_or ns i (items d) = ap items is ∙ sym (name_at items names i d lt) in
      (λ j. (wrote ∙ ap (λ n. text ++ line n s) named) j ++ lines_by line (drop (i + 1) ns) (drop (i + 1) sums))
      ∙ append_assoc text (line (get_or ns i (items d)) s) (lines_by line (drop (i + 1) ns) (drop (i + 1) sums))
      ∙ ap (λ l. text ++ l) (sym (sums_step line ns sums i (items d) s within here))
      ∙ so_far

  -- no sum is left
  pub sums_over : None ≡ slice_get sums i → new ≡ text → text ++ lines_by line (drop i (map items names)) (drop i sums) ≡ all
      → new ++ lines_by line (drop (i + 1) (map items names)) (drop (i + 1) sums) ≡ all
  sums_over none is so_far =
      let ns = map items names in
      let left = none_left sums i none in
      let later = ap (lines_by line (drop (i + 1) ns)) left.1 ∙ no_more_sums line (drop (i + 1) ns) in
      let here = ap (lines_by line (drop i ns)) left.0 ∙ no_more_sums line (drop i ns) in
      (λ j. is j ++ (later ∙ sym here) j) ∙ so_far

same_at : {A C : Type 0} (g h : A → List C) (xs : List A) → ((i : ℕ) (x : A) → slice_get xs i ≡ Some x → g x ≡ h x) → flat_map g xs ≡ flat_map h xs
same_at g h [] same = refl
same_at g h (x ∷ xs) same = λ i. same 0 x refl i ++ same_at g h xs (λ n y is. same (suc n) y is) i

module _ (V : Verdict) (along : Bool) (s : State) (q : Perms) (kind : Option Kind) (paths : List PathOf) where
  abbrev sum_of_row : PasswdRow → Sum
  sum_of_row row = sum_of_files (granted_below V along s q kind paths row)

  -- the sums of all users
  pub all_sums : {A : Type 0} (f : A → List ℕ) (users : List A) (sums : List Sum) → map f users ≡ map (λ row. escaped row.name) s.people.users
      → AreSums q (filter (λ row. is_file true paths row.0) (rows_of_kind V along s kind)) users sums → sums ≡ map sum_of_row s.people.users
  all_sums {A} f users sums names are = same_items sums (map sum_of_row s.people.users) one
    where
      rows : Rows
      rows = filter (λ (row : PathOf × List ℕ). is_file true paths row.0) (rows_of_kind V along s kind)

      -- there is a name where there is a user
      here : (user : ℕ) → option_map (λ (a : A). sum_in q user rows) (slice_get users user) ≡ option_map (λ (row : PasswdRow). sum_in q user rows) (slice_get s.people.users user)
      here user = by (slice_get users user) (slice_get s.people.users user) (sym (slice_get-map f users user) ∙ ap (λ l. slice_get l user) names
          ∙ slice_get-map (λ (row : PasswdRow). escaped row.name) s.people.users user)
        where
          by : (o : Option A) (p : Option PasswdRow) → option_map f o ≡ option_map (λ (row : PasswdRow). escaped row.name) p → option_map (λ (a : A). sum_in q user rows) o
              ≡ option_map (λ (row : PasswdRow). sum_in q user rows) p
          by None None h = refl
          by None (Some row) h = absurd (cc h)
          by (Some a) None h = absurd (cc h)
          by (Some a) (Some row) h = refl

      one : (user : ℕ) → slice_get sums user ≡ slice_get (map sum_of_row s.people.users) user
      one user = are user ∙ here user ∙ by (slice_get s.people.users user) refl ∙ sym (slice_get-map sum_of_row s.people.users user)
        where
          by : (o : Option PasswdRow) → slice_get s.people.users user ≡ o → option_map (λ (row : PasswdRow). sum_in q user rows) o ≡ option_map sum_of_row o
          by None is = refl
          by (Some row) is = ap Some (sum_is V along s q kind paths user row is)

  -- their lines
  pub below_lines : IsInOrder s.tree.files → {A : Type 0} (f : A → List ℕ) (users : List A) (sums : List Sum) → map f users ≡ map (λ row. escaped row.name) s.people.users
      → AreSums q (filter (λ row. is_file true paths row.0) (rows_of_kind V along s kind)) users sums → sum_lines s.tree.files (map f users) sums ≡ below_text V along s q kind paths
  below_lines order f users sums names are =
      (λ i. sum_lines s.tree.files (names i) (all_sums f users sums names are i))
      ∙ each_line (sum_line s.tree.files) (λ row. escaped row.name) sum_of_row s.people.users
      ∙ same_at (λ row. sum_line s.tree.files (escaped row.name) (sum_of_row row)) (λ row. below_line (escaped row.name) (granted_below V along s q kind paths row)) s.people.users
      (λ user row is. line_is V along s q kind paths user row is order (escaped row.name))

-- there is no line only where there are no files
pub no_line : (user : List ℕ) (files : List FoundFile) → below_line user files ≡ [] → files ≡ []
no_line user [] h = refl
no_line user (file ∷ files) h = absurd (not_empty (decimal (1 + length files)) h)
  where
    not_empty : (number : List ℕ) → number ++ (32 ∷ (user ++ (32 ∷ file_line file))) ≡ [] → ⊥
    not_empty [] h = absurd (cc h)
    not_empty (c ∷ number) h = absurd (cc h)

-- ---- what `may` lists, and what is at or below some paths

pub filter_both : {A : Type 0} (f g : A → Bool) (xs : List A) → filter (λ x. f x && g x) xs ≡ filter f (filter g xs)
filter_both f g [] = refl
filter_both f g (x ∷ xs) = by (f x) refl (g x) (filter_both f g xs)
  where
    by : (b : Bool) → f x ≡ b → (c : Bool) → filter (λ y. f y && g y) xs ≡ filter f (filter g xs)
        → cond (b && c) (x ∷ filter (λ y. f y && g y) xs) (filter (λ y. f y && g y) xs) ≡ filter f (cond c (x ∷ filter g xs) (filter g xs))
    by true is true more = ap (λ l. x ∷ l) more ∙ sym (ap (λ b. cond b (x ∷ filter f (filter g xs)) (filter f (filter g xs))) is)
    by true is false more = more
    by false is true more = more ∙ sym (ap (λ b. cond b (x ∷ filter f (filter g xs)) (filter f (filter g xs))) is)
    by false is false more = more

module _ (t : Files) (asked : PathOf → Bool) (test : PathOf × Node → Bool) where
  abbrev tested : List FoundFile → List FoundFile
  tested files = filter (λ (file : FoundFile). test (file.path, file.node)) files

  abbrev asked_files : List FoundFile → List FoundFile
  asked_files files = filter (λ (file : FoundFile). asked file.path) files

  -- two filters, in either order
  pub both_filters : (es : Files) → tested (found_in t (filter (λ e. asked e.0) es)) ≡ asked_files (tested (found_in t es))
  both_filters [] = refl
  both_filters (e ∷ es) = by (asked e.0) refl (both_filters es)
    where
      file : FoundFile
      file = found_file (holds_below t e.0) e

      these : List FoundFile
      these = tested (found_in t (filter (λ x. asked x.0) es))

      those : List FoundFile
      those = tested (found_in t es)

      one : (a b : Bool) → asked e.0 ≡ a → these ≡ asked_files those → cond a (cond b (file ∷ these) these) these ≡ asked_files (cond b (file ∷ those) those)
      one true true h more = ap (λ (l : List FoundFile). file ∷ l) more ∙ ap (λ c. cond c (file ∷ asked_files those) (asked_files those)) (sym h)
      one true false h more = more
      one false true h more = more ∙ ap (λ c. cond c (file ∷ asked_files those) (asked_files those)) (sym h)
      one false false h more = more

      by : (a : Bool) → asked e.0 ≡ a → these ≡ asked_files those
          → tested (found_in t (cond a (e ∷ filter (λ x. asked x.0) es) (filter (λ x. asked x.0) es))) ≡ asked_files (cond (test e) (file ∷ those) those)
      by true h more = one true (test e) h more
      by false h more = one false (test e) h more
