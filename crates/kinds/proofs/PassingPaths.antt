-- Paths whose nodes pass a test, by a table of the numbers.
use Rattle.std.proofs.Common.{◌≡◌, ℕ, zero, suc, Bool, true, false, cond, List, [], ◌∷◌, map, get_or, Option, None, refl, sym, ap, ◌∙◌}
use Rattle.std.specs.Prelude.{filter}
use Rattle.acl_names.specs.Paths.{PathOf}
use Rattle.kinds.specs.Kinds.{KindsOf}
use Rattle.kinds.specs.Numbered.{Numbers, entries_by, AreUsed}
use Rattle.kinds.specs.Passing.{passed}
use Rattle.kinds.proofs.EntriesBy.{entry_first}

pub table_read : {A : Type 0} (g : Option A → Bool) → g None ≡ false → (xs : List (Option A)) (n : ℕ) → get_or (map g xs) n false ≡ g (get_or xs n None)
table_read g none [] n = sym none
table_read g none (x ∷ xs) zero = refl
table_read g none (x ∷ xs) (suc n) = table_read g none xs n

module _ {N : Type 0} (test : N → Bool) (k : KindsOf N) where
  -- the paths that the table gives are those of the entries that pass
  pub paths_passing : (ns : Numbers) → AreUsed k ns → map (λ e. e.0) (filter (λ e. get_or (map (passed test) k.0) e.1 false) ns) ≡ map (λ e. e.0) (filter (λ e. test e.1) (entries_by k ns))
  paths_passing [] used = refl
  paths_passing (e ∷ ns) used =
      let x = used.0.0 in
      let here : get_or (map (passed test) k.0) e.1 false ≡ test x = table_read (passed test) refl k.0 e.1 ∙ ap (passed test) used.0.1 in
      ap (λ b. map (λ e. e.0) (cond b (e ∷ rest) rest)) here
      ∙ by (test x) (paths_passing ns used.1)
      ∙ ap (λ es. map (λ e. e.0) (filter (λ e. test e.1) es)) (sym (entry_first k e ns x used.0.1))
    where
      rest : Numbers
      rest = filter (λ e. get_or (map (passed test) k.0) e.1 false) ns

      left : List (PathOf × N)
      left = filter (λ e. test e.1) (entries_by k ns)

      by : (b : Bool) → map (λ e. e.0) rest ≡ map (λ e. e.0) left → map (λ e. e.0) (cond b (e ∷ rest) rest) ≡ map (λ e. e.0) (cond b ((e.0, used.0.0) ∷ left) left)
      by true h = ap (λ l. e.0 ∷ l) h
      by false h = h
