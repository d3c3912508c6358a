-- Labels that keep their numbers, and get the rows of numbers of a tree.
use Rattle.std.proofs.Common.{◌≡◌, ℕ, suc, List, [], ◌∷◌, length, map, get_or, slice_set, Option, Some, None, refl, sym, ap, ◌∙◌}
use Rattle.std.proofs.Math.ListN.{get_or-map}
use Rattle.std.proofs.lemmas.List.{get_or-set_other}
use Rattle.acl_names.specs.Paths.{PathOf}
use Rattle.acl_names.proofs.Basics.{none_is_not_some}
use Rattle.kinds.specs.Kinds.{KindsOf}
use Rattle.kinds.specs.Numbered.{Numbers, entries_by, with_node, AreUsed}
use Rattle.kinds.specs.Placed.{placed}
use Rattle.kinds.specs.Given.{HaveNodes}
use Rattle.kinds.proofs.Chosen.{paths_same, length_same}
use Rattle.acl_edit.specs.declared.node.Node.{Node}
use Rattle.path_classes.specs.declared.label_row.LabelRow.{LabelRow}
use Rattle.acl_rights.specs.KindRows.{AsManyAreSame}
use Rattle.acl_rights.specs.KeptLabels.{row_by, rows_by, IsRowAt, HaveRows, Keeps}

-- a number that is put where none is leaves the others as they are
pub keeps_put : (old : List (Option ℕ)) (at number : ℕ) → get_or old at None ≡ None → Keeps old (slice_set old at (Some number))
keeps_put old at number none label m is =
    get_or-set_other old at label (Some number) None (λ same. none_is_not_some m (sym none ∙ ap (λ n. get_or old n None) (sym same) ∙ is)) ∙ is

module _ (rows : List (Option LabelRow)) where
  -- one file more has the row of its label
  pub rows_more : (old new : List (Option ℕ)) (e f : PathOf × ℕ) (es fs all_es all_fs : Numbers) → Keeps old new → IsRowAt rows new e.1 f.1
      → ((ms : List (Option ℕ)) → Keeps old ms → HaveRows rows ms (e ∷ es) (f ∷ fs) → HaveRows rows ms all_es all_fs)
      → (ms : List (Option ℕ)) → Keeps new ms → HaveRows rows ms es fs → HaveRows rows ms all_es all_fs
  rows_more old new e f es fs all_es all_fs more at before ms keeps rest =
      before ms (λ label number is. keeps label number (more label number is))
      (record { first = at.first; kept = keeps e.1 at.first at.kept; row = at.row }, rest)

  module _ (numbers : List (Option ℕ)) where
    here : (label number : ℕ) (at : IsRowAt rows numbers label number) → get_or (rows_by rows numbers) label None ≡ Some at.row.row
    here label number at = get_or-map (row_by rows) numbers label None ∙ ap (row_by rows) at.kept ∙ at.row.one

    -- each label gets a row
    pub rows_have : (es fs : Numbers) → HaveRows rows numbers es fs → HaveNodes (rows_by rows numbers) es
    rows_have [] fs h = tt
    rows_have (e ∷ es) [] h = absurd h
    rows_have (e ∷ es) (f ∷ fs) h = ((h.0.row.row, here e.1 f.1 h.0), rows_have es fs h.1)

    rows_long : (es fs : Numbers) → HaveRows rows numbers es fs → length es ≡ length fs
    rows_long [] [] h = refl
    rows_long [] (f ∷ fs) h = absurd h
    rows_long (e ∷ es) [] h = absurd h
    rows_long (e ∷ es) (f ∷ fs) h = ap suc (rows_long es fs h.1)

    -- they are those of the files, where both have the same paths
    rows_same : (es fs : Numbers) → HaveRows rows numbers es fs → map (λ e. e.0) es ≡ map (λ e. e.0) fs → placed (rows_by rows numbers) es ≡ placed rows fs
    rows_same [] [] h paths = refl
    rows_same [] (f ∷ fs) h paths = absurd h
    rows_same (e ∷ es) [] h paths = absurd h
    rows_same (e ∷ es) (f ∷ fs) h paths =
        let first : e.0 ≡ f.0 = cc in
        let rest : map (λ e. e.0) es ≡ map (λ e. e.0) fs = cc in
        λ i. with_node (first i) ((here e.1 f.1 h.0 ∙ sym h.0.row.same) i) (rows_same es fs h.1 rest i)

    pub rows_placed : (labels : KindsOf LabelRow) (files : KindsOf Node) (es fs : Numbers) → AreUsed labels es → AreUsed files fs
        → AsManyAreSame (entries_by labels es) (entries_by files fs) → HaveRows rows numbers es fs → placed (rows_by rows numbers) es ≡ placed rows fs
    rows_placed labels files es fs used used_too same h =
        let long : length (entries_by labels es) ≡ length (entries_by files fs) = length_same labels es used ∙ rows_long es fs h ∙ sym (length_same files fs used_too) in
        rows_same es fs h (sym (paths_same labels es used) ∙ same long ∙ paths_same files fs used_too)
