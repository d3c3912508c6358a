-- The first operand that is no path.
use Rattle.std.proofs.Common.{◌≡◌, ◌≤◌, ◌+◌, ℕ, zero, suc, List, [], ◌∷◌, Option, Some, None, Result, Ok, Err, refl, sym, ap, ◌∙◌, arith}
use Rattle.std.specs.Prelude.{ok_or}
use Rattle.acl_names.specs.Paths.{path_of, PathOf}
use Rattle.acl_names.proofs.Basics.{none_is_not_some, ok_is_not_err}
use Rattle.facl_output.specs.declared.fault.LineFault.{LineFault}
use Rattle.facl_script.specs.Forms.{Text}
use Rattle.facl.specs.ToolParts.{IsNoPath}
use Rattle.facl_tools.specs.Operands.{bad_operand, path_at, paths_from}
use Rattle.facl.proofs.Outcomes.{err_eq, err_before, no_value}
use Rattle.acl_text.specs.Results.{◌>>=◌}

-- the first of some operands that is no path, where the first of them has this place
pub record IsFirstBad (words : List Text) (at : ℕ) (f : LineFault) : Type 0 where
  pub n : ℕ
  pub bad : IsNoPath words n
  pub is : f ≡ bad_operand (at + n)
  pub first : (m : ℕ) → IsNoPath words m → n ≤ m

from_zero : (n : ℕ) → 0 ≤ n
from_zero n = omega arith

one_more : (m n : ℕ) → m ≤ n → suc m ≤ suc n
one_more m n h = omega arith

at_start : (at : ℕ) → at ≡ at + 0
at_start at = omega arith

one_on : (at n : ℕ) → (at + 1) + n ≡ at + suc n
one_on at n = omega arith

-- an operand of the rest
of_rest : (w : Text) (ws : List Text) (n : ℕ) → IsNoPath (w ∷ ws) (suc n) → IsNoPath ws n
of_rest w ws n bad = record { word = bad.word; at = bad.at; means_none = bad.means_none }

of_all : (w : Text) (ws : List Text) (n : ℕ) → IsNoPath ws n → IsNoPath (w ∷ ws) (suc n)
of_all w ws n bad = record { word = bad.word; at = bad.at; means_none = bad.means_none }

not_first : (w : Text) (ws : List Text) (p : PathOf) → path_of w ≡ Some p → IsNoPath (w ∷ ws) 0 → ⊥
not_first w ws p is bad = no_value path_of w bad.word p bad.at is bad.means_none

later : (at : ℕ) (w : Text) (ws : List Text) (p : PathOf) (f : LineFault) → path_of w ≡ Some p → IsFirstBad ws (at + 1) f → IsFirstBad (w ∷ ws) at f
later at w ws p f is b = record {
  n = suc b.n;
  bad = of_all w ws b.n b.bad;
  is = b.is ∙ ap bad_operand (one_on at b.n);
  first = λ m bad. after_it m bad;
}
  where
    after_it : (m : ℕ) → IsNoPath (w ∷ ws) m → suc b.n ≤ m
    after_it zero bad = absurd (not_first w ws p is bad)
    after_it (suc m) bad = one_more b.n m (b.first m (of_rest w ws m bad))

pub first_bad : (at : ℕ) (words : List Text) (f : LineFault) → paths_from at words ≡ Err f → IsFirstBad words at f
first_bad at [] f h = absurd (ok_is_not_err _ f h)
first_bad at (w ∷ ws) f h = by (path_of w) refl h (λ g k. first_bad (at + 1) ws g k)
  where
    by : (o : Option PathOf) → path_of w ≡ o
        → (ok_or o (bad_operand at) >>= λ path. paths_from (at + 1) ws >>= λ paths. Ok (path ∷ paths)) ≡ Err f
        → ((g : LineFault) → paths_from (at + 1) ws ≡ Err g → IsFirstBad ws (at + 1) g) → IsFirstBad (w ∷ ws) at f
    by None is h rest = record {
      n = 0;
      bad = record { word = w; at = refl; means_none = is };
      is = sym (err_eq _ (bad_operand at) f refl h) ∙ ap bad_operand (at_start at);
      first = λ m _. from_zero m;
    }
    by (Some p) is h rest = later at w ws p f is (rest f (err_before (λ paths. p ∷ paths) (paths_from (at + 1) ws) f h))

pub all_paths : (at : ℕ) (words : List Text) (paths : List PathOf) → paths_from at words ≡ Ok paths → (n : ℕ) → IsNoPath words n → ⊥
all_paths at [] paths h n bad = none_is_not_some bad.word bad.at
all_paths at (w ∷ ws) paths h n bad = by (path_of w) refl h (λ ps k m bad. all_paths (at + 1) ws ps k m bad)
  where
    inner : (p : PathOf) → path_of w ≡ Some p → (r : Result (List PathOf) LineFault) → paths_from (at + 1) ws ≡ r
        → (r >>= λ paths. Ok (p ∷ paths)) ≡ Ok paths
        → ((ps : List PathOf) → paths_from (at + 1) ws ≡ Ok ps → (m : ℕ) → IsNoPath ws m → ⊥) → (m : ℕ) → IsNoPath (w ∷ ws) m → ⊥
    inner p is (Err g) e h rest m bad = ok_is_not_err paths g (sym h)
    inner p is (Ok ps) e h rest zero bad = not_first w ws p is bad
    inner p is (Ok ps) e h rest (suc m) bad = rest ps e m (of_rest w ws m bad)

    by : (o : Option PathOf) → path_of w ≡ o
        → (ok_or o (bad_operand at) >>= λ path. paths_from (at + 1) ws >>= λ paths. Ok (path ∷ paths)) ≡ Ok paths
        → ((ps : List PathOf) → paths_from (at + 1) ws ≡ Ok ps → (m : ℕ) → IsNoPath ws m → ⊥) → ⊥
    by None is h rest = ok_is_not_err paths (bad_operand at) (sym h)
    by (Some p) is h rest = inner p is (paths_from (at + 1) ws) refl h rest n bad

-- operands are read as this: as the fault of the first that is no path, or all are paths
pub record Reads {A : Type 0} (words : List Text) (read : Result A LineFault) : Type 0 where
  pub bad : (f : LineFault) → read ≡ Err f → IsFirstBad words 1 f
  pub good : (a : A) → read ≡ Ok a → (n : ℕ) → IsNoPath words n → ⊥

pub reads_files : (words : List Text) → Reads words (paths_from 1 words)
reads_files words = record { bad = λ f h. first_bad 1 words f h; good = λ paths h n bad. all_paths 1 words paths h n bad }

abbrev one_path : Result PathOf LineFault → Result (List PathOf) LineFault
one_path r = r >>= λ path. Ok (path ∷ [])

pub reads_file : (word : Text) → Reads (word ∷ []) (path_at 1 word)
reads_file word = record {
  bad = λ f h. first_bad 1 (word ∷ []) f (ap one_path h);
  good = λ path h n bad. all_paths 1 (word ∷ []) (path ∷ []) (ap one_path h) n bad;
}
