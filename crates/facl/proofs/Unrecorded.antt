-- The first operand whose file is not recorded, and the users that words mean.
use Rattle.std.proofs.Common.{◌≡◌, ◌≤◌, ◌<◌, ◌+◌, ℕ, zero, suc, Bool, true, false, List, [], ◌∷◌, length, slice_get, Option, Some, None, is_some, option_map}
use Rattle.std.proofs.Common.{option_and_then, position, if◌then◌else◌, Result, Ok, Err, refl, sym, ap, subst, ◌∙◌, arith}
use Rattle.std.specs.FinMap.{find}
use Rattle.std.proofs.lemmas.List.{length-map}
use Rattle.std.proofs.lemmas.List.Quantifiers.{position-Some}
use Rattle.std.proofs.lemmas.Option.{slice_get-get_or}
use Rattle.std.specs.Prelude.{ok_or}
use Rattle.acl_edit.specs.declared.node.Node.{Node}
use Rattle.acl_tree.specs.declared.fault.TreeFault.TheVariants.{NoSuchFile, NoSuchUser}
use Rattle.acl_names.specs.Paths.{path_of, path_cmp, PathOf}
use Rattle.acl_names.proofs.Basics.{none_is_not_some, ok_is_not_err, some_is_not_none}
use Rattle.acl_people.specs.Entries.{user_entry}
use Rattle.acl_people.specs.KnownPeople.{KnownPeople, users_of, person, subject}
use Rattle.acl_people.specs.NameTables.{Named, is_id, is_name, place_of_word}
use Rattle.acl_text.specs.Ids.{is_number, id_of}
use Rattle.acl_text.specs.declared.rows.PasswdRow.{PasswdRow}
use Rattle.acl_text.specs.Results.{◌>>=◌}
use Rattle.acl_tree.specs.Files.{Files}
use Rattle.acl_tree.specs.Operands.{first_missing}
use Rattle.facl_output.specs.declared.fault.LineFault.{LineFault}
use Rattle.facl_output.specs.declared.fault.LineFault.TheVariants.{Tree}
use Rattle.facl_script.specs.Forms.{Text}
use Rattle.facl.specs.ToolParts.{IsUnrecorded, IsNoUser}
use Rattle.facl_tools.specs.Operands.{bad_operand, path_at, paths_from, name_meant, user_at}
use Rattle.facl.specs.Why.{person_named}
use Rattle.facl.proofs.Outcomes.{ok_eq, err_eq, was_there}

one_of : {A B : Type 0} (o : Option A) (k : A → Option B) (a a' : A) (b b' : B) → o ≡ Some a → o ≡ Some a' → k a ≡ Some b → k a' ≡ Some b' → b ≡ b'
one_of o k a a' b b' h h' s s' = cc

-- of one path there is not both a file and none
not_both : {A B C : Type 0} (o : Option A) (k : A → Option B) (t : B → Option C) (a a' : A) (b b' : B) (c : C) → o ≡ Some a → o ≡ Some a' → k a ≡ Some b → k a' ≡ Some b'
    → t b ≡ Some c → t b' ≡ None → ⊥
not_both o k t a a' b b' c h h' s s' u n = cc

from_zero : (n : ℕ) → 0 ≤ n
from_zero n = omega arith

one_more : (m n : ℕ) → m ≤ n → suc m ≤ suc n
one_more m n h = omega arith

-- an operand has one fault of this kind
pub one_unrecorded : (t : Files) (words : List Text) (n : ℕ) (f g : LineFault) → IsUnrecorded t words n f → IsUnrecorded t words n g → f ≡ g
one_unrecorded t words n f g a b =
    a.is ∙ ap (λ p. Tree (NoSuchFile p)) (one_of (slice_get words n) path_of a.word b.word a.path b.path a.at b.at a.means b.means) ∙ sym b.is

-- the first operand whose file is not recorded
pub record IsFirstUnrecorded (t : Files) (words : List Text) (f : LineFault) : Type 0 where
  pub n : ℕ
  pub unrecorded : IsUnrecorded t words n f
  pub first : (m : ℕ) (g : LineFault) → IsUnrecorded t words m g → n ≤ m

of_rest : (t : Files) (w : Text) (ws : List Text) (n : ℕ) (f : LineFault) → IsUnrecorded t (w ∷ ws) (suc n) f → IsUnrecorded t ws n f
of_rest t w ws n f u = record { word = u.word; path = u.path; at = u.at; means = u.means; missing = u.missing; is = u.is }

of_all : (t : Files) (w : Text) (ws : List Text) (n : ℕ) (f : LineFault) → IsUnrecorded t ws n f → IsUnrecorded t (w ∷ ws) (suc n) f
of_all t w ws n f u = record { word = u.word; path = u.path; at = u.at; means = u.means; missing = u.missing; is = u.is }

recorded_first : (t : Files) (w : Text) (ws : List Text) (p : PathOf) (node : Node) (g : LineFault) → path_of w ≡ Some p → find path_cmp p t ≡ Some node → IsUnrecorded t (w ∷ ws) 0 g → ⊥
recorded_first t w ws p node g is found u = not_both (Some w) path_of (λ q. find path_cmp q t) w u.word p u.path node refl u.at is u.means found u.missing

here : (t : Files) (w : Text) (ws : List Text) (p : PathOf) → path_of w ≡ Some p → find path_cmp p t ≡ None → IsFirstUnrecorded t (w ∷ ws) (Tree (NoSuchFile p))
here t w ws p is missing = record {
  n = 0;
  unrecorded = record { word = w; path = p; at = refl; means = is; missing = missing; is = refl };
  first = λ m g _. from_zero m;
}

later : (t : Files) (w : Text) (ws : List Text) (p : PathOf) (node : Node) (f : LineFault) → path_of w ≡ Some p → find path_cmp p t ≡ Some node
    → IsFirstUnrecorded t ws f → IsFirstUnrecorded t (w ∷ ws) f
later t w ws p node f is found b = record { n = suc b.n; unrecorded = of_all t w ws b.n f b.unrecorded; first = λ m g u. after_it m g u }
  where
    after_it : (m : ℕ) (g : LineFault) → IsUnrecorded t (w ∷ ws) m g → suc b.n ≤ m
    after_it zero g u = absurd (recorded_first t w ws p node g is found u)
    after_it (suc m) g u = one_more b.n m (b.first m g (of_rest t w ws m g u))

-- ---- the paths of several operands

pub record IsSplit (at : ℕ) (w : Text) (ws : List Text) (ps : List PathOf) : Type 0 where
  pub path : PathOf
  pub rest : List PathOf
  pub means : path_of w ≡ Some path
  pub read : paths_from (at + 1) ws ≡ Ok rest
  pub all : ps ≡ path ∷ rest

paths_split : (at : ℕ) (w : Text) (ws : List Text) (ps : List PathOf) → paths_from at (w ∷ ws) ≡ Ok ps → IsSplit at w ws ps
paths_split at w ws ps h = by (path_of w) refl (paths_from (at + 1) ws) refl h
  where
    by : (o : Option PathOf) → path_of w ≡ o → (r : Result (List PathOf) LineFault) → paths_from (at + 1) ws ≡ r
        → (ok_or o (bad_operand at) >>= λ path. r >>= λ paths. Ok (path ∷ paths)) ≡ Ok ps → IsSplit at w ws ps
    by None is r e h = absurd (ok_is_not_err ps (bad_operand at) (sym h))
    by (Some p) is (Err f) e h = absurd (ok_is_not_err ps f (sym h))
    by (Some p) is (Ok rest) e h = record { path = p; rest = rest; means = is; read = e; all = sym (ok_eq _ (p ∷ rest) ps refl h) }

pub first_unrecorded : (t : Files) (at : ℕ) (words : List Text) (ps : List PathOf) (p : PathOf) → paths_from at words ≡ Ok ps → first_missing ps t ≡ Some p
    → IsFirstUnrecorded t words (Tree (NoSuchFile p))
first_unrecorded t at [] ps p h m = absurd (none_is_not_some p (ap (λ q. first_missing q t) (ok_eq (paths_from at []) [] ps refl h) ∙ m))
first_unrecorded t at (w ∷ ws) ps p h m = by (paths_split at w ws ps h) (λ rest read m. first_unrecorded t (at + 1) ws rest p read m)
  where
    found_or : (s : IsSplit at w ws ps) → ((rest : List PathOf) → paths_from (at + 1) ws ≡ Ok rest → first_missing rest t ≡ Some p → IsFirstUnrecorded t ws (Tree (NoSuchFile p)))
        → (o : Option Node) → find path_cmp s.path t ≡ o → (if is_some o then first_missing s.rest t else Some s.path) ≡ Some p → IsFirstUnrecorded t (w ∷ ws) (Tree (NoSuchFile p))
    found_or s rest None missing m = subst (λ q. IsFirstUnrecorded t (w ∷ ws) (Tree (NoSuchFile q))) (some_eq s.path p m) (here t w ws s.path s.means missing)
      where
        some_eq : (a b : PathOf) → Some a ≡ Some b → a ≡ b
        some_eq a b h = cc
    found_or s rest (Some node) found m = later t w ws s.path node (Tree (NoSuchFile p)) s.means found (rest s.rest s.read m)

    by : IsSplit at w ws ps → ((rest : List PathOf) → paths_from (at + 1) ws ≡ Ok rest → first_missing rest t ≡ Some p → IsFirstUnrecorded t ws (Tree (NoSuchFile p)))
        → IsFirstUnrecorded t (w ∷ ws) (Tree (NoSuchFile p))
    by s rest = found_or s rest (find path_cmp s.path t) refl (ap (λ q. first_missing q t) (sym s.all) ∙ m)

pub all_recorded : (t : Files) (at : ℕ) (words : List Text) (ps : List PathOf) → paths_from at words ≡ Ok ps → first_missing ps t ≡ None
    → (n : ℕ) (g : LineFault) → IsUnrecorded t words n g → ⊥
all_recorded t at [] ps h m n g u = none_is_not_some u.word u.at
all_recorded t at (w ∷ ws) ps h m n g u = by (paths_split at w ws ps h) (λ rest read m n u. all_recorded t (at + 1) ws rest read m n g u)
  where
    found_or : (s : IsSplit at w ws ps) → ((rest : List PathOf) → paths_from (at + 1) ws ≡ Ok rest → first_missing rest t ≡ None → (n : ℕ) → IsUnrecorded t ws n g → ⊥)
        → (o : Option Node) → find path_cmp s.path t ≡ o → (if is_some o then first_missing s.rest t else Some s.path) ≡ None → (n : ℕ) → IsUnrecorded t (w ∷ ws) n g → ⊥
    found_or s rest None missing m n u = none_is_not_some s.path (sym m)
    found_or s rest (Some node) found m zero u = recorded_first t w ws s.path node g s.means found u
    found_or s rest (Some node) found m (suc n) u = rest s.rest s.read m n (of_rest t w ws n g u)

    by : IsSplit at w ws ps → ((rest : List PathOf) → paths_from (at + 1) ws ≡ Ok rest → first_missing rest t ≡ None → (n : ℕ) → IsUnrecorded t ws n g → ⊥) → ⊥
    by s rest = found_or s rest (find path_cmp s.path t) refl (ap (λ q. first_missing q t) (sym s.all) ∙ m) n u

-- ---- one operand

pub path_read : (word : Text) (path : PathOf) → path_at 1 word ≡ Ok path → path_of word ≡ Some path
path_read word path h = was_there (bad_operand 1) (path_of word) path h

pub one_missing : (t : Files) (word : Text) (path : PathOf) → path_at 1 word ≡ Ok path → find path_cmp path t ≡ None → IsFirstUnrecorded t (word ∷ []) (Tree (NoSuchFile path))
one_missing t word path is missing = here t word [] path (path_read word path is) missing

pub one_recorded : (t : Files) (word : Text) (path : PathOf) (node : Node) → path_at 1 word ≡ Ok path → find path_cmp path t ≡ Some node
    → (n : ℕ) (g : LineFault) → IsUnrecorded t (word ∷ []) n g → ⊥
one_recorded t word path node is found zero g u = recorded_first t word [] path node g (path_read word path is) found u
one_recorded t word path node is found (suc n) g u = none_is_not_some u.word u.at

-- ---- the user of a word

-- a word means a row that is there
row_within : (word : List ℕ) (es : List Named) (i : ℕ) → place_of_word word es ≡ Some i → i < length es
row_within word es i h = by (is_number word) (id_of word) h
  where
    by : (b : Bool) (o : Option ℕ) → (if b then option_and_then (λ id. position (is_id id) es) o else position (is_name word) es) ≡ Some i → i < length es
    by true None h = absurd (none_is_not_some i h)
    by true (Some id) h = (position-Some (is_id id) es i ([], 0) h).0
    by false o h = (position-Some (is_name word) es i ([], 0) h).0

pub has_row : (known : KnownPeople) (word : List ℕ) (i : ℕ) → place_of_word word (users_of known) ≡ Some i → slice_get known.users i ≡ None → ⊥
has_row known word i is none =
    let r : PasswdRow = record { name = []; uid = 0; gid = 0 } in
    let within : i < length known.users = subst (λ n. i < n) (length-map known.users user_entry) (row_within word (users_of known) i is) in
    some_is_not_none _ _ (slice_get-get_or known.users i r within) none

-- the user of a word is read as this: as the fault that there is none, or as one who is there
pub record ReadsUser {A : Type 0} (known : KnownPeople) (word : Text) (read : Result A LineFault) : Type 0 where
  pub bad : (f : LineFault) → IsNoUser known word f → read ≡ Err f
  pub only : (f : LineFault) → read ≡ Err f → IsNoUser known word f

module _ (known : KnownPeople) (word : Text) where
  abbrev no_user : LineFault
  no_user = Tree (NoSuchUser (name_meant word))

  abbrev place_meant : Option ℕ
  place_meant = place_of_word (name_meant word) (users_of known)

  pub reads_place : ReadsUser known word (user_at known (name_meant word))
  reads_place = record {
    bad = λ f h. ap (λ (o : Option ℕ). ok_or o no_user) h.1 ∙ ap (λ e. Err e) (sym h.0);
    only = λ f h. by f place_meant refl h;
  }
    where
      by : (f : LineFault) (o : Option ℕ) → place_of_word (name_meant word) (users_of known) ≡ o → ok_or o no_user ≡ Err f → IsNoUser known word f
      by f None is h = (sym (err_eq (ok_or None no_user) no_user f refl h), is)
      by f (Some i) is h = absurd (ok_is_not_err i f h)

  pub reads_person : ReadsUser known word (ok_or (person_named known (name_meant word)) (Tree (NoSuchUser (name_meant word))))
  reads_person = record {
    bad = λ f h. ap (λ (o : Option ℕ). ok_or (option_and_then (subject known) o) no_user) h.1 ∙ ap (λ e. Err e) (sym h.0);
    only = λ f h. by f place_meant refl h;
  }
    where
      by_row : (f : LineFault) (i : ℕ) → place_of_word (name_meant word) (users_of known) ≡ Some i → (o : Option PasswdRow) → slice_get known.users i ≡ o
          → ok_or (option_map (person known.groups) o) no_user ≡ Err f → IsNoUser known word f
      by_row f i is None none h = absurd (has_row known (name_meant word) i is none)
      by_row f i is (Some row) found h = absurd (ok_is_not_err (person known.groups row) f h)

      by : (f : LineFault) (o : Option ℕ) → place_of_word (name_meant word) (users_of known) ≡ o → ok_or (option_and_then (subject known) o) no_user ≡ Err f → IsNoUser known word f
      by f None is h = (sym (err_eq (ok_or (option_and_then (subject known) None) no_user) no_user f refl h), is)
      by f (Some i) is h = by_row f i is (slice_get known.users i) refl h
