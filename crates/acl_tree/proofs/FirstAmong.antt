-- The first of some paths that a check fails.
use Rattle.std.proofs.Common.{◌≡◌, ◌≤◌, ℕ, suc, Bool, true, false, cond, ◌||◌, List, [], ◌∷◌, Option, Some, None, refl, sym, ap, ◌∙◌, true≢false, arith}
use Rattle.std.specs.Option.{option_or}
use Rattle.std.specs.Ordering.{eq_by_cmp, is_eq}
use Rattle.std.proofs.lemmas.Cmp.{tied_itself}
use Rattle.acl_names.specs.Paths.{path_cmp, PathOf}
use Rattle.acl_names.proofs.PathOrder.{path_total}
use Rattle.acl_names.proofs.Basics.{none_is_not_some, or_second}
use Rattle.acl_tree.specs.Operands.{is_file}
use Rattle.acl_tree.proofs.Selected.{same_path}
use Rattle.acl_tree.specs.Refusals.{place}
use Rattle.acl_tree.specs.Causes.{IsAmong}

same_itself : (p : PathOf) → eq_by_cmp path_cmp p p ≡ true
same_itself p = ap is_eq (tied_itself path_total p)

is_later : (a b : Bool) → a ≡ false → (a || b) ≡ true → b ≡ true
is_later true b is h = absurd (true≢false is)
is_later false b is h = h

pub among_first : (p : PathOf) (paths : List PathOf) → IsAmong (p ∷ paths) p
among_first p paths = ap (λ b. b || is_file false paths p) (same_itself p)

pub among_later : (p q : PathOf) (paths : List PathOf) → IsAmong paths q → IsAmong (p ∷ paths) q
among_later p q paths h = or_second (eq_by_cmp path_cmp q p) (is_file false paths q) h

place_first : (p : PathOf) (paths : List PathOf) → place p (p ∷ paths) ≡ 0
place_first p paths = ap (λ b. cond b 0 (suc (place p paths))) (same_itself p)

place_later : (p q : PathOf) (paths : List PathOf) → eq_by_cmp path_cmp q p ≡ false → place q (p ∷ paths) ≡ suc (place q paths)
place_later p q paths h = ap (λ b. cond b 0 (suc (place q paths))) h

place_at_most : (p q : PathOf) (paths : List PathOf) → place q (p ∷ paths) ≤ suc (place q paths)
place_at_most p q paths = by (eq_by_cmp path_cmp q p)
  where
    by : (b : Bool) → cond b 0 (suc (place q paths)) ≤ suc (place q paths)
    by true = omega arith
    by false = omega arith

-- paths of one place are one path
pub one_place : (paths : List PathOf) (p q : PathOf) → IsAmong paths p → IsAmong paths q → place p paths ≡ place q paths → p ≡ q
one_place [] p q ph qh same = absurd (true≢false (sym ph))
one_place (r ∷ paths) p q ph qh same = by (eq_by_cmp path_cmp p r) refl (eq_by_cmp path_cmp q r) refl (λ ph qh same. one_place paths p q ph qh same)
  where
    zero_is_not : (a b n : ℕ) → a ≡ 0 → b ≡ suc n → a ≡ b → ⊥
    zero_is_not a b n ha hb h = omega arith

    one_less : (a b m n : ℕ) → a ≡ suc m → b ≡ suc n → a ≡ b → m ≡ n
    one_less a b m n ha hb h = omega arith

    at_first : (x : PathOf) → eq_by_cmp path_cmp x r ≡ true → place x (r ∷ paths) ≡ 0
    at_first x is = ap (λ b. cond b 0 (suc (place x paths))) is

    by : (b : Bool) → eq_by_cmp path_cmp p r ≡ b → (c : Bool) → eq_by_cmp path_cmp q r ≡ c
        → (IsAmong paths p → IsAmong paths q → place p paths ≡ place q paths → p ≡ q) → p ≡ q
    by true pr true qr rest = same_path r p pr ∙ sym (same_path r q qr)
    by true pr false qr rest = absurd (zero_is_not _ _ _ (at_first p pr) (place_later r q paths qr) same)
    by false pr true qr rest = absurd (zero_is_not _ _ _ (at_first q qr) (place_later r p paths pr) (sym same))
    by false pr false qr rest =
        rest (is_later _ _ pr ph) (is_later _ _ qr qh) (one_less _ _ _ _ (place_later r p paths pr) (place_later r q paths qr) same)

module _ {A : Type 0} (check : PathOf → Option A) where
  abbrev pub first_of : List PathOf → Option A
  first_of [] = None
  first_of (p ∷ paths) = option_or (check p) (first_of paths)

  -- a path that the check fails with this, before all others that it fails
  pub record IsFirstAmong (paths : List PathOf) (a : A) : Type 0 where
    pub path : PathOf
    pub among : IsAmong paths path
    pub fails : check path ≡ Some a
    pub first : (q : PathOf) (b : A) → IsAmong paths q → check q ≡ Some b → place path paths ≤ place q paths

  pub none_among : (paths : List PathOf) → first_of paths ≡ None → (q : PathOf) → IsAmong paths q → check q ≡ None
  none_among [] h q among = absurd (true≢false (sym among))
  none_among (p ∷ paths) h q among = by (check p) refl h (eq_by_cmp path_cmp q p) refl (λ h among. none_among paths h q among)
    where
      by : (o : Option A) → check p ≡ o → option_or o (first_of paths) ≡ None → (b : Bool) → eq_by_cmp path_cmp q p ≡ b
          → (first_of paths ≡ None → IsAmong paths q → check q ≡ None) → check q ≡ None
      by (Some a) is h b same rest = absurd (none_is_not_some a (sym h))
      by None is h true same rest = ap check (same_path p q same) ∙ is
      by None is h false same rest = rest h (is_later _ _ same among)

  -- a first path that passes is put before
  passed : (p : PathOf) (paths : List PathOf) (a : A) → check p ≡ None → IsFirstAmong paths a → IsFirstAmong (p ∷ paths) a
  passed p paths a is rest = record {
    path = rest.path;
    among = among_later p rest.path paths rest.among;
    fails = rest.fails;
    first = λ q c among fails. after q c fails among (eq_by_cmp path_cmp q p) refl;
  }
    where
      step : (a b m n : ℕ) → a ≤ suc m → b ≡ suc n → m ≤ n → a ≤ b
      step a b m n x y z = omega arith

      after : (q : PathOf) (c : A) → check q ≡ Some c → IsAmong (p ∷ paths) q → (b : Bool) → eq_by_cmp path_cmp q p ≡ b → place rest.path (p ∷ paths) ≤ place q (p ∷ paths)
      after q c fails among true same = absurd (none_is_not_some c (sym is ∙ ap check (sym (same_path p q same)) ∙ fails))
      after q c fails among false same =
          step _ _ _ _ (place_at_most p rest.path paths) (place_later p q paths same) (rest.first q c (is_later _ _ same among) fails)

  pub first_among : (paths : List PathOf) (a : A) → first_of paths ≡ Some a → IsFirstAmong paths a
  first_among [] a h = absurd (none_is_not_some a h)
  first_among (p ∷ paths) a h = by (check p) refl h (λ h. first_among paths a h)
    where
      at_start : (n : ℕ) → n ≡ 0 → (m : ℕ) → n ≤ m
      at_start n is m = omega arith

      by : (o : Option A) → check p ≡ o → option_or o (first_of paths) ≡ Some a → (first_of paths ≡ Some a → IsFirstAmong paths a) → IsFirstAmong (p ∷ paths) a
      by (Some b) is h rest = record {
        path = p;
        among = among_first p paths;
        fails = is ∙ h;
        first = λ q c _ _. at_start (place p (p ∷ paths)) (place_first p paths) (place q (p ∷ paths));
      }
      by None is h rest = passed p paths a is (rest h)
