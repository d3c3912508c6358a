-- Files removed: what is gone, and that the tree stays sound.
use Rattle.std.proofs.Common.{◌≡◌, suc, ◌≤◌, arith, Bool, true, false, not, cond, eqb, ◌&&◌, ◌||◌, List, [], ◌∷◌, length, filter, Option, Some, None, is_some, refl, sym, ap, subst, ◌∙◌, true≢false}
use Rattle.std.specs.List.{AllByRecursion}
use Rattle.std.specs.Option.{option_or}
use Rattle.std.specs.Ordering.{eq_by_cmp}
use Rattle.std.specs.FinMap.{find}
use Rattle.acl_names.specs.Paths.{path_cmp, PathOf}
use Rattle.acl_edit.specs.Nodes.{is_directory}
use Rattle.acl_edit.specs.declared.node.Node.{Node}
use Rattle.path_map.specs.Merged.{has}
use Rattle.path_map.proofs.Differences.{Leads, leads_all, has_where}
use Rattle.path_map.proofs.Rows.{in_order-filter}
use Rattle.acl_tree.specs.declared.fault.TreeFault.{TreeFault}
use Rattle.acl_tree.specs.declared.fault.TreeFault.TheVariants.{IsDirectory}
use Rattle.acl_tree.specs.Files.{Files, Recorded}
use Rattle.path_map.specs.Entries.{IsInOrder}
use Rattle.acl_names.specs.Below.{is_above, encloses}
use Rattle.acl_tree.specs.Changed.{gone_between}
use Rattle.acl_tree.specs.Operands.{is_file, files_meant}
use Rattle.acl_tree.specs.Rm.{refusal, first_refused, without_files}
use Rattle.path_map.specs.Below.{holds_below}
use Rattle.acl_tree.specs.Sound.{IsPlaced, ArePlaced, IsSoundTree}
use Rattle.acl_names.proofs.Below.{below_within, within_trans}
use Rattle.acl_names.proofs.Basics.{and_is_first, or_first, or_second, false_from}
use Rattle.acl_tree.proofs.Selected.{same_path}

not_twice : (b : Bool) → not (not b) ≡ b
not_twice true = refl
not_twice false = refl

-- ---- what is gone

module _ (test : PathOf → Bool) (t : Files) (order : IsInOrder t) where
  pub gone_from : gone_between t (filter (λ e. not (test e.0)) t) ≡ filter (λ e. test e.0) t
  gone_from = each t (leads_all t order)
    where
      each : (es : Files) → Leads t es → filter (λ e. not (has e.0 (filter (λ e. not (test e.0)) t))) es ≡ filter (λ e. test e.0) es
      each [] h = refl
      each (e ∷ es) h =
          λ i. cond ((ap not (has_where (λ p. not (test p)) e.0 t ∙ and_is_first (not (test e.0)) (has e.0 t) (ap is_some h.0)) ∙ not_twice (test e.0)) i) (e ∷ each es h.1 i) (each es h.1 i)

-- ---- soundness

module _ (keep : PathOf × Node → Bool) where
  fewer_below : (t : Files) (p : PathOf) → holds_below (filter keep t) p ≡ true → holds_below t p ≡ true
  fewer_below [] p h = h
  fewer_below (e ∷ t) p h = by (keep e) (fewer_below t p) h
    where
      split : (a b c : Bool) → (b ≡ true → c ≡ true) → (a || b) ≡ true → (a || c) ≡ true
      split true b c f h = refl
      split false b c f h = f h

      by : (b : Bool) → (holds_below (filter keep t) p ≡ true → holds_below t p ≡ true) → holds_below (cond b (e ∷ filter keep t) (filter keep t)) p ≡ true → (is_above p e.0 || holds_below t p) ≡ true
      by true rest h = split (is_above p e.0) (holds_below (filter keep t) p) (holds_below t p) rest h
      by false rest h = or_second (is_above p e.0) (holds_below t p) (rest h)

  fewer : (t : Files) → length (filter keep t) ≤ length t
  fewer [] = omega arith
  fewer (e ∷ t) = by (keep e) (fewer t)
    where
      by : (b : Bool) → length (filter keep t) ≤ length t → length (cond b (e ∷ filter keep t) (filter keep t)) ≤ suc (length t)
      by true h = omega arith
      by false h = omega arith

  still_placed : (all : Files) (e : PathOf × Node) → IsPlaced all e → IsPlaced (filter keep all) e
  still_placed all e is = record {
    directory = λ h. is.directory (by (eqb (length e.0) 0) h);
    default = is.default;
  }
    where
      by : (b : Bool) → (b || holds_below (filter keep all) e.0) ≡ true → (b || holds_below all e.0) ≡ true
      by true h = refl
      by false h = fewer_below all e.0 h

  left_placed : (all es : Files) → ArePlaced all es → ArePlaced (filter keep all) (filter keep es)
  left_placed all [] h = tt
  left_placed all (e ∷ es) h = by (keep e) (left_placed all es h.1)
    where
      by : (b : Bool) → ArePlaced (filter keep all) (filter keep es) → ArePlaced (filter keep all) (cond b (e ∷ filter keep es) (filter keep es))
      by true rest = (still_placed all e h.0, rest)
      by false rest = rest

  pub sound_left : (t : Recorded) → IsSoundTree t → IsSoundTree (record t { files = filter keep t.files })
  sound_left t sound = record {
    order = in_order-filter keep t.files sound.order;
    few = omega (arith, fewer t.files, sound.few);
    unloaded = λ none. ap (λ es. filter keep es) (sound.unloaded none);
    placed = left_placed t.files t.files sound.placed;
  }

-- ---- nothing is left below what is gone

file_within : (ps : List PathOf) (p q : PathOf) → is_file true ps p ≡ true → is_above p q ≡ true → is_file true ps q ≡ true
file_within [] p q h below = h
file_within (o ∷ ps) p q h below = by (encloses o p) refl (file_within ps p q) h
  where
    by : (b : Bool) → encloses o p ≡ b → (is_file true ps p ≡ true → is_above p q ≡ true → is_file true ps q ≡ true) → (b || is_file true ps p) ≡ true → (encloses o q || is_file true ps q) ≡ true
    by true is rest h = or_first (encloses o q) (is_file true ps q) (within_trans o p q is (below_within p q below))
    by false is rest h = or_second (encloses o q) (is_file true ps q) (rest h below)

-- with all that is below, none of it is left
none_left : (ps : List PathOf) (p : PathOf) (t : Files) → is_file true ps p ≡ true → holds_below (without_files true ps t) p ≡ false
none_left ps p [] h = refl
none_left ps p (e ∷ t) h = by (is_file true ps e.0) refl (none_left ps p t h)
  where
    by : (b : Bool) → is_file true ps e.0 ≡ b → holds_below (without_files true ps t) p ≡ false → holds_below (cond (not b) (e ∷ without_files true ps t) (without_files true ps t)) p ≡ false
    by true is rest = rest
    by false is rest = ap (λ b. b || holds_below (without_files true ps t) p) (false_from (is_above p e.0) (λ below. true≢false (sym (file_within ps p e.0 h below) ∙ is))) ∙ rest

some_is_not_none : {A : Type 0} (a : A) → Some a ≡ None → ⊥
some_is_not_none a h = cc

-- an operand that may be removed alone is not a directory
plain_one : (p : PathOf) (n : Node) (o : Option Node) → o ≡ Some n → refusal false p o ≡ None → is_directory n.kind ≡ false
plain_one p n None is h = absurd (some_is_not_none n (sym is))
plain_one p n (Some m) is h = by (is_directory m.kind) refl h
  where
    same : Some m ≡ Some n → m ≡ n
    same h = cc

    by : (b : Bool) → is_directory m.kind ≡ b → (cond (b && true) (Some (IsDirectory p)) None) ≡ None → is_directory n.kind ≡ false
    by true k h = absurd (some_is_not_none _ h)
    by false k h = ap (λ n. is_directory n.kind) (sym (same is)) ∙ k

none_both : (a b : Option TreeFault) → option_or a b ≡ None → (a ≡ None) × (b ≡ None)
none_both None b h = (refl, h)
none_both (Some f) b h = absurd (some_is_not_none f h)

plain_all : (ps : List PathOf) (t : Files) (p : PathOf) (n : Node) → find path_cmp p t ≡ Some n → first_refused false ps t ≡ None → is_file false ps p ≡ true → is_directory n.kind ≡ false
plain_all [] t p n found h is = absurd (true≢false (sym is))
plain_all (o ∷ ps) t p n found h is = by (eq_by_cmp path_cmp p o) refl is (plain_all ps t p n found parts.1)
  where
    parts : (refusal false o (find path_cmp o t) ≡ None) × (first_refused false ps t ≡ None)
    parts = none_both (refusal false o (find path_cmp o t)) (first_refused false ps t) h

    by : (b : Bool) → eq_by_cmp path_cmp p o ≡ b → (b || is_file false ps p) ≡ true → (is_file false ps p ≡ true → is_directory n.kind ≡ false) → is_directory n.kind ≡ false
    by true same is rest = plain_one o n (find path_cmp o t) (subst (λ z. find path_cmp z t ≡ Some n) (same_path o p same) found) parts.0
    by false same is rest = rest is

-- a plain file has nothing below it
plain_below : (t : Files) (e : PathOf × Node) → IsPlaced t e → is_directory e.1.kind ≡ false → holds_below t e.0 ≡ false
plain_below t e is plain = false_from (holds_below t e.0) (λ h. true≢false (sym (ap is_directory (is.directory (or_second (eqb (length e.0) 0) (holds_below t e.0) h))) ∙ plain))

module _ (recursive : Bool) (ps : List PathOf) (t : Files) (may : first_refused recursive ps t ≡ None) where
  apart_one : (r : Bool) → first_refused r ps t ≡ None → (e : PathOf × Node) → find path_cmp e.0 t ≡ Some e.1 → IsPlaced t e → is_file r ps e.0 ≡ true → holds_below (without_files r ps t) e.0 ≡ false
  apart_one true may e found is meant = none_left ps e.0 t meant
  apart_one false may e found is meant =
      false_from (holds_below (without_files false ps t) e.0)
      (λ h. true≢false (sym (fewer_below (λ e. not (is_file false ps e.0)) t e.0 h) ∙ plain_below t e is (plain_all ps t e.0 e.1 found may meant)))

  apart_each : (es : Files) → Leads t es → ArePlaced t es → AllByRecursion (λ e. holds_below (without_files recursive ps t) e.0 ≡ false) (files_meant recursive ps es)
  apart_each [] leads h = tt
  apart_each (e ∷ es) leads h = by (is_file recursive ps e.0) refl (apart_each es leads.1 h.1)
    where
      by : (b : Bool) → is_file recursive ps e.0 ≡ b → AllByRecursion (λ e. holds_below (without_files recursive ps t) e.0 ≡ false)
          (files_meant recursive ps es) → AllByRecursion (λ e. holds_below (without_files recursive ps t) e.0 ≡ false) (cond b (e ∷ files_meant recursive ps es) (files_meant recursive ps es))
      by true is rest = (apart_one recursive may e leads.0 h.0 is, rest)
      by false is rest = rest

  pub apart_all : IsInOrder t → ArePlaced t t → AllByRecursion (λ e. holds_below (without_files recursive ps t) e.0 ≡ false) (files_meant recursive ps t)
  apart_all order placed = apart_each t (leads_all t order) placed
