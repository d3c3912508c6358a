-- The rows of users who move, come or go.
use Rattle.std.proofs.Common.{◌≡◌, ℕ, zero, suc, ◌<◌, Bool, true, false, ◌||◌, eqb, List, [], ◌∷◌, ◌++◌, length, map, take, drop, get_or, set, Some, refl, sym, ap, subst, ◌∙◌, arith}
use Rattle.std.specs.Prelude.{slice_get}
use Rattle.std.specs.List.{remove}
use Rattle.std.specs.FinSet as sets
use Rattle.std.proofs.lemmas.Bool.{eqb-true}
use Rattle.std.proofs.lemmas.List.{map-set, map-append}
use Rattle.std.proofs.Math.Seq.{map-set_same}
use Rattle.acl_entry.specs.Mentions.{mentions, meets, is_one_of, AgreeOnMentions}
use Rattle.acl_entry.specs.Person.{Person}
use Rattle.acl_entry.specs.declared.label.Label.{Label}
use Rattle.acl_edit.specs.declared.node.Node.{Node}
use Rattle.acl_names.specs.Paths.{PathOf}
use Rattle.acl_names.proofs.Basics.{both_false}
use Rattle.acl_tree.specs.Files.{Files}
use Rattle.acl_entry.specs.GroupsOfOne.{in_just_one}
use Rattle.acl_people.specs.Moves.{MovesUser}
use Rattle.acl_rights.specs.Rows.{Verdict, cells_of, rows_of}

-- ---- a user who moves

pub not_met : (ms groups : List ℕ) (g : ℕ) → meets ms groups ≡ false → is_one_of g ms ≡ true → is_one_of g groups ≡ false
not_met [] groups g h is = cc
not_met (m ∷ ms) groups g h is =
    let parts = both_false (is_one_of m groups) (meets ms groups) h in
    by (eqb m g) refl parts.0 is (not_met ms groups g parts.1)
  where
    by : (b : Bool) → eqb m g ≡ b → is_one_of m groups ≡ false → (b || is_one_of g ms) ≡ true → (is_one_of g ms ≡ true → is_one_of g groups ≡ false) → is_one_of g groups ≡ false
    by true same out is rest = subst (λ x. is_one_of x groups ≡ false) (eqb-true m g same) out
    by false same out is rest = rest is

alike : (a b : Bool) → in_just_one a b ≡ false → a ≡ b
alike true true h = refl
alike true false h = cc
alike false true h = cc
alike false false h = refl

pub agree : (us ws : List Person) (at : ℕ) (groups : List ℕ) (m : MovesUser us ws at groups) (f : Label) → meets (mentions f) groups ≡ false → AgreeOnMentions m.change.after m.change.before f
agree us ws at groups m f h = record {
  uid = m.change.uid;
  groups = λ g is. sym (alike (sets.contains m.change.before.groups g) (sets.contains m.change.after.groups g) (sym (m.moved.just g) ∙ not_met (mentions f) groups g h is));
}

pub read_got : {A : Type 0} (xs : List A) (i : ℕ) (x : A) → slice_get xs i ≡ Some x → get_or xs i x ≡ x
read_got [] i x h = refl
read_got (y ∷ xs) zero x h = cc
read_got (y ∷ xs) (suc i) x h = read_got xs i x h

pub got_in : {A : Type 0} (xs : List A) (i : ℕ) (x : A) → slice_get xs i ≡ Some x → i < length xs
got_in [] i x h = cc
got_in (y ∷ xs) zero x h = omega arith
got_in (y ∷ xs) (suc i) x h = let lt = got_in xs i x h in omega (arith, lt)

pub set_here : {A : Type 0} (xs : List A) (at : ℕ) (x : A) → at < length xs → slice_get (set xs at x) at ≡ Some x
set_here [] at x lt = absurd (omega arith)
set_here (y ∷ xs) zero x lt = refl
set_here (y ∷ xs) (suc at) x lt = set_here xs at x (omega (arith, lt))

length_set : {A : Type 0} (xs : List A) (i : ℕ) (x : A) → length (set xs i x) ≡ length xs
length_set [] i x = refl
length_set (y ∷ xs) zero x = refl
length_set (y ∷ xs) (suc i) x = ap suc (length_set xs i x)

module _ (V : Verdict) (us ws : List Person) (at : ℕ) (groups : List ℕ) (m : MovesUser us ws at groups) where
  pub moved_in : at < length us
  moved_in = got_in us at m.change.before m.change.was

  pub moved_long : length ws ≡ length us
  moved_long = ap length m.change.becomes ∙ length_set us at m.change.after

  -- the one who moved, as the new people have them
  pub moved_next : (x : Person) → slice_get ws at ≡ Some x → x ≡ m.change.after
  moved_next x is = some_same (sym is ∙ ap (λ (l : List Person). slice_get l at) m.change.becomes ∙ set_here us at m.change.after moved_in)
    where
      some_same : {X : Type 0} {a b : X} → Some a ≡ Some b → a ≡ b
      some_same e = cc

  -- the cells, with the moved user judged again
  pub cells_again : (n : Node) (x : Person) → slice_get ws at ≡ Some x → set (cells_of V us n) at (V x n.label) ≡ cells_of V ws n
  cells_again n x is =
      ap (λ u. set (cells_of V us n) at (V u n.label)) (moved_next x is)
      ∙ sym (map-set (λ u. V u n.label) us at m.change.after)
      ∙ ap (λ (l : List Person). cells_of V l n) (sym m.change.becomes)

  module _ (local : (u w : Person) (f : Label) → AgreeOnMentions u w f → V u f ≡ V w f) where
    pub cells_kept : (n : Node) → meets (mentions n.label) groups ≡ false → cells_of V us n ≡ cells_of V ws n
    cells_kept n h =
        sym (map-set_same (λ u. V u n.label) us at m.change.after m.change.before
        (local m.change.after m.change.before n.label (agree us ws at groups m n.label h) ∙ ap (λ u. V u n.label) (sym (read_got us at m.change.before m.change.was))))
        ∙ ap (λ (l : List Person). cells_of V l n) (sym m.change.becomes)

-- ---- a user who joins, and one who leaves

take_seen : {A B : Type 0} (f : A → B) (n : ℕ) (xs : List A) → take n (map f xs) ≡ map f (take n xs)
take_seen f zero [] = refl
take_seen f zero (x ∷ xs) = refl
take_seen f (suc n) [] = refl
take_seen f (suc n) (x ∷ xs) = ap (λ l. f x ∷ l) (take_seen f n xs)

drop_seen : {A B : Type 0} (f : A → B) (n : ℕ) (xs : List A) → drop n (map f xs) ≡ map f (drop n xs)
drop_seen f zero [] = refl
drop_seen f zero (x ∷ xs) = refl
drop_seen f (suc n) [] = refl
drop_seen f (suc n) (x ∷ xs) = drop_seen f n xs

pub remove_seen : {A B : Type 0} (f : A → B) (xs : List A) (at : ℕ) → remove (map f xs) at ≡ map f (remove xs at)
remove_seen f xs at = (λ i. take_seen f at xs i ++ drop_seen f (suc at) xs i) ∙ sym (map-append f (take at xs) (drop (suc at) xs))

module _ (V : Verdict) where
  pub longer : (us : List Person) (u : Person) (n : Node) → cells_of V us n ++ V u n.label ∷ [] ≡ cells_of V (us ++ u ∷ []) n
  longer us u n = sym (map-append (λ u. V u n.label) us (u ∷ []))

  pub row_paths : (us : List Person) (fs : Files) → map (λ (r : PathOf × List ℕ). r.0) (rows_of V us fs) ≡ map (λ (e : PathOf × Node). e.0) fs
  row_paths us [] = refl
  row_paths us (e ∷ fs) = ap (λ ps. e.0 ∷ ps) (row_paths us fs)
