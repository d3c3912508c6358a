-- Counts by other keys say what the counts say.
use Rattle.std.proofs.Common.{◌≡◌, ◌+◌, arith, Bool, true, false, cond, List, [], ◌∷◌, ◌++◌, append_assoc, Option, Some, None, refl, sym, ap, ◌∙◌}
use Rattle.std.specs.Prelude.{option_map}
use Rattle.std.specs.List.{find}
use Rattle.std.specs.Option.{option_map_or}
use Rattle.acl_names.specs.Paths.{PathOf}
use Rattle.facl_answers.specs.BothStates.{Sides}
use Rattle.path_classes.specs.Tallies.{Tallied, SaysAs, count_where, first_where}
use Rattle.facl_counts.specs.InnerGains.{keyed, rekeyed}

abbrev Ts : Type 0
Ts = List (Tallied Sides)

abbrev first_of : Option (Tallied Sides) → Option PathOf
first_of o = option_map (λ t. t.first) o

module _ (key_of : Sides → Option Sides) where
  -- a test of the other key, where there is one
  abbrev tested : (Sides → Bool) → Sides → Bool
  tested test key = option_map_or test (key_of key) false

  count_rekeyed : (test : Sides → Bool) (ts : Ts) → count_where test (rekeyed key_of ts) ≡ count_where (tested test) ts
  count_rekeyed test [] = refl
  count_rekeyed test (t ∷ ts) = by (key_of t.key) (count_rekeyed test ts)
    where
      by : (o : Option Sides) → count_where test (rekeyed key_of ts) ≡ count_where (tested test) ts
          → count_where test (keyed o t.count t.first ++ rekeyed key_of ts) ≡ cond (option_map_or test o false) t.count 0 + count_where (tested test) ts
      by None more = omega (arith, more)
      by (Some key) more = ap (λ n. cond (test key) t.count 0 + n) more

  first_rekeyed : (test : Sides → Bool) (ts : Ts) → first_where test (rekeyed key_of ts) ≡ first_where (tested test) ts
  first_rekeyed test [] = refl
  first_rekeyed test (t ∷ ts) = by (key_of t.key) (first_rekeyed test ts)
    where
      here : (key : Sides) (b : Bool) → first_where test (rekeyed key_of ts) ≡ first_where (tested test) ts
          → first_of (cond b (Some (record { key = key; count = t.count; first = t.first })) (find (λ u. test u.key) (rekeyed key_of ts)))
          ≡ first_of (cond b (Some t) (find (λ u. tested test u.key) ts))
      here key true more = refl
      here key false more = more

      by : (o : Option Sides) → first_where test (rekeyed key_of ts) ≡ first_where (tested test) ts
          → first_where test (keyed o t.count t.first ++ rekeyed key_of ts) ≡ first_of (cond (option_map_or test o false) (Some t) (find (λ u. tested test u.key) ts))
      by None more = more
      by (Some key) more = here key (test key) more

  pub says_rekeyed : (xs ys : Ts) → SaysAs xs ys → SaysAs (rekeyed key_of xs) (rekeyed key_of ys)
  says_rekeyed xs ys says = record {
    counts = λ test. count_rekeyed test xs ∙ says.counts (tested test) ∙ sym (count_rekeyed test ys);
    firsts = λ test. first_rekeyed test xs ∙ says.firsts (tested test) ∙ sym (first_rekeyed test ys);
  }

  pub rekeyed_append : (xs ys : Ts) → rekeyed key_of (xs ++ ys) ≡ rekeyed key_of xs ++ rekeyed key_of ys
  rekeyed_append [] ys = refl
  rekeyed_append (x ∷ xs) ys =
      ap (λ l. keyed (key_of x.key) x.count x.first ++ l) (rekeyed_append xs ys)
      ∙ sym (append_assoc (keyed (key_of x.key) x.count x.first) (rekeyed key_of xs) (rekeyed key_of ys))
