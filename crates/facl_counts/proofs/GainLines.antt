-- The lines of `gains`, out of counts by keys.
use Rattle.std.proofs.Common.{◌≡◌, ℕ, zero, suc, ◌+◌, ◌<◌, ◌≤◌, arith, Bool, true, false, cond, List, [], ◌∷◌, ◌++◌, append_assoc, append-nil, map, length}
use Rattle.std.proofs.Common.{take, drop, get_or, Option, Some, None, refl, sym, ap, ◌∙◌}
use Rattle.std.specs.Prelude.{◌||◌, ◌&&◌, option_map}
use Rattle.std.specs.List.{list_any, find}
use Rattle.std.proofs.lemmas.List.{map-append, take_more, take_all}
use Rattle.acl_names.specs.Paths.{PathOf}
use Rattle.facl_counts.specs.Counting.{tallied}
use Rattle.facl_counts.specs.GainsText.{is_same, is_same_side, side_of, number_of_sides, lines_up_to}
use Rattle.facl_counts.specs.InnerGains.{count_line, counted_line, is_before, lines_after, tally_line}
use Rattle.facl_answers.specs.BothStates.{Sides}
use Rattle.path_classes.specs.Tallies.{Tallied, SaysAs, count_where, first_where}
use Rattle.facl_counts.specs.declared.tallies.Tally.{Tally}
use Rattle.path_classes.proofs.Tallies.{count_append}
use Rattle.facl_counts.proofs.UserChanges.{drop_here}

-- ---- the lines of numbers

pub lines_more : (f : ℕ → List ℕ) (n : ℕ) → lines_up_to f (n + 1) ≡ lines_up_to f n ++ f n
unfolding lines_up_to
lines_more f n = let next : n + 1 ≡ suc n = omega arith in ap (lines_up_to f) next

pub lines_start : (f : ℕ → List ℕ) → lines_up_to f 0 ≡ []
unfolding lines_up_to
lines_start f = refl

pub lines_same : (f g : ℕ → List ℕ) (n : ℕ) → ((k : ℕ) → f k ≡ g k) → lines_up_to f n ≡ lines_up_to g n
unfolding lines_up_to
lines_same f g zero same = refl
lines_same f g (suc n) same = λ i. lines_same f g n same i ++ same n i

pub no_lines : (f : ℕ → List ℕ) (n : ℕ) → ((k : ℕ) → f k ≡ []) → lines_up_to f n ≡ []
unfolding lines_up_to
no_lines f zero none = refl
no_lines f (suc n) none = λ i. no_lines f n none i ++ none n i

-- one number more
pub wrote_more : (f : ℕ → List ℕ) (n : ℕ) (start text new : List ℕ) → text ≡ start ++ lines_up_to f n → new ≡ text ++ f n → new ≡ start ++ lines_up_to f (n + 1)
wrote_more f n start text new so_far wrote =
    wrote ∙ ap (λ l. l ++ f n) so_far ∙ append_assoc start (lines_up_to f n) (f n) ∙ ap (λ l. start ++ l) (sym (lines_more f n))

pub wrote_all : (f : ℕ → List ℕ) (n : ℕ) (start text : List ℕ) → n ≡ number_of_sides → text ≡ start ++ lines_up_to f n → text ≡ start ++ lines_up_to f number_of_sides
wrote_all f n start text end so_far = so_far ∙ ap (λ k. start ++ lines_up_to f k) end

pub wrote_none : (f : ℕ → List ℕ) (start : List ℕ) → start ≡ start ++ lines_up_to f 0
wrote_none f start = sym (append-nil start) ∙ ap (λ l. start ++ l) (sym (lines_start f))

-- ---- sums

module _ (test : Sides → Bool) where
  pub sum_more : (ts : List Tally) (i : ℕ) (t d : Tally) (sum : ℕ) → i < length ts → t ≡ get_or ts i d → sum ≡ count_where test (map tallied (take i ts))
      → count_where test (map tallied (take (i + 1) ts)) ≡ sum + cond (test t.key) t.count 0
  sum_more ts i t d sum lt is so_far =
      let none : cond (test t.key) t.count 0 + 0 ≡ cond (test t.key) t.count 0 = omega arith in
      ap (λ l. count_where test (map tallied l)) (take_more ts i d lt ∙ ap (λ (y : Tally). take i ts ++ y ∷ []) (sym is))
      ∙ ap (count_where test) (map-append tallied (take i ts) (t ∷ []))
      ∙ count_append test (map tallied (take i ts)) (tallied t ∷ [])
      ∙ (λ i. sym so_far i + none i)

  pub sum_all : (ts : List Tally) (i : ℕ) (sum : ℕ) → length ts ≤ i → sum ≡ count_where test (map tallied (take i ts)) → sum ≡ count_where test (map tallied ts)
  sum_all ts i sum past so_far = so_far ∙ ap (λ l. count_where test (map tallied l)) (take_all i ts past)

  abbrev pub first_left : List Tally → ℕ → Option PathOf
  first_left ts i = first_where test (map tallied (drop i ts))

  abbrev picked : Bool → Tally → List Tally → Option PathOf
  picked b t rest = option_map (λ (u : Tallied Sides). u.first) (cond b (Some (tallied t)) (find (λ (u : Tallied Sides). test u.key) (map tallied rest)))

  -- no file of a count that fails the test
  pub first_fails : (ts : List Tally) (i : ℕ) (t d : Tally) → i < length ts → t ≡ get_or ts i d → test t.key ≡ false → first_left ts i ≡ first_left ts (i + 1)
  first_fails ts i t d lt is fails = ap (λ l. first_where test (map tallied l)) (drop_here ts i t d lt is) ∙ ap (λ b. picked b t (drop (i + 1) ts)) fails

  -- that of the first one that passes it
  pub first_passes : (ts : List Tally) (i : ℕ) (t d : Tally) → i < length ts → t ≡ get_or ts i d → test t.key ≡ true → first_left ts i ≡ Some t.first.now
  first_passes ts i t d lt is passes = ap (λ l. first_where test (map tallied l)) (drop_here ts i t d lt is) ∙ ap (λ b. picked b t (drop (i + 1) ts)) passes

  none_past : (ts : List Tally) (i : ℕ) → length ts ≤ i → drop i ts ≡ []
  none_past [] zero past = refl
  none_past [] (suc i) past = refl
  none_past (t ∷ ts) zero past = absurd (omega (arith, past))
  none_past (t ∷ ts) (suc i) past = none_past ts i (omega (arith, past))

  pub first_past : (ts : List Tally) (i : ℕ) → length ts ≤ i → first_left ts i ≡ None
  first_past ts i past = ap (λ l. first_where test (map tallied l)) (none_past ts i past)

-- ---- a user's lines

module _ (text_of : PathOf → List ℕ) (user : List ℕ) where
  -- no count has the side before
  none_with : (ts : List Tally) (before after : Option ℕ) → list_any (is_before before) ts ≡ false → first_where (is_same (before, after)) (map tallied ts) ≡ None
  none_with [] before after h = refl
  none_with (t ∷ ts) before after h = by (is_same_side before t.key.0) h (none_with ts before after)
    where
      by : (b : Bool) → (b || list_any (is_before before) ts) ≡ false → (list_any (is_before before) ts ≡ false → first_where (is_same (before, after)) (map tallied ts) ≡ None)
          → option_map (λ (u : Tallied Sides). u.first)
          (cond (b && is_same_side after t.key.1) (Some (tallied t)) (find (λ (u : Tallied Sides). is_same (before, after) u.key) (map tallied ts))) ≡ None
      by true h more = absurd (cc h)
      by false h more = more h

  pub none_before : (ts : List Tally) (before : Option ℕ) → list_any (is_before before) ts ≡ false → (start : List ℕ) → start ≡ start ++ lines_after text_of user (map tallied ts) before
  none_before ts before h start =
      sym (append-nil start)
      ∙ ap (λ l. start ++ l)
      (sym (no_lines (λ after. tally_line text_of user (map tallied ts) (before, side_of after)) number_of_sides
      (λ after. ap (counted_line text_of user (before, side_of after) (count_where (is_same (before, side_of after)) (map tallied ts))) (none_with ts before (side_of after) h))))

  -- counts that say the same have the same lines
  pub same_line : (xs ys : List (Tallied Sides)) → SaysAs xs ys → (sides : Sides) → tally_line text_of user xs sides ≡ tally_line text_of user ys sides
  same_line xs ys says sides = λ i. counted_line text_of user sides (says.counts (is_same sides) i) (says.firsts (is_same sides) i)

  pub line_of_first : (ts : List (Tallied Sides)) (sides : Sides) (count : ℕ) (first : PathOf) (path : List ℕ) → Some first ≡ first_where (is_same sides) ts
      → count ≡ count_where (is_same sides) ts → path ≡ text_of first
      → count_line sides count user path ≡ tally_line text_of user ts sides
  line_of_first ts sides count first path one many shown =
      (λ i. count_line sides (many i) user (shown i)) ∙ ap (counted_line text_of user sides (count_where (is_same sides) ts)) one

  pub line_of_none : (ts : List (Tallied Sides)) (sides : Sides) → None ≡ first_where (is_same sides) ts → (start : List ℕ) → start ≡ start ++ tally_line text_of user ts sides
  line_of_none ts sides none start =
      sym (append-nil start) ∙ ap (λ o. start ++ counted_line text_of user sides (count_where (is_same sides) ts) o) none
