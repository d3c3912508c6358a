-- What is written of a path, with a final `/` or without, is read as that path.
use Rattle.std.proofs.Common.{◌≡◌, ℕ, ◌+◌, ◌-◌, ◌/◌, ◌%◌, ◌<◌, Bool, true, false, cond, List, [], ◌∷◌, ◌++◌, length, drop, Option, Some, None, refl, sym, ap}
use Rattle.std.proofs.Common.{subst, ◌∙◌, append_assoc, length-append, arith}
use Rattle.std.specs.Prelude.{◌==◌, ◌||◌, ◌&&◌, filter, not, nat_eq}
use Rattle.std.specs.List.{list_any, list_all, flat_map, AllByRecursion}
use Rattle.std.proofs.lemmas.Bool.{and_parts, or_parts, ne_eqb, eqb-false}
use Rattle.std.proofs.lemmas.List.{append-nil}
use Rattle.std.proofs.Math.Seq.{drop-append_seam}
use Rattle.std.specs.Cmp.Lexicographic.{pointwise}
use Rattle.std.proofs.lemmas.List.Folds.{list_any-append}
use Rattle.std.proofs.lemmas.Grind.{flat_map-append}
use Rattle.acl_names.specs.Pieces.{pieces}
use Rattle.acl_names.specs.Names.{decoded, escape, byte_text, escaped_where, is_escaped_in_paths}
use Rattle.acl_names.specs.Paths.{is_nothing, is_refused, is_component, components_of, path_of, after_slash, joined, path_text}
use Rattle.acl_names.proofs.Escapes.{path_bytes_again}
use Rattle.acl_names.proofs.PathText.{good, no_slash, joined_bytes, none_refused, all_kept, path_again}
use Rattle.acl_names.proofs.Basics.{all-append}
use Rattle.acl_text.proofs.Plain.{pieces_at, pieces_none}
use Rattle.acl_text.specs.Records.{ends_in_slash}
use Rattle.acl_text.specs.DumpWriting.{slash_text}

-- ---- no line feed

escape_clean : (b : ℕ) → AllByRecursion (λ c. (c == 10) ≡ false) (escape b)
escape_clean b = (refl, (ne_eqb (48 + b / 64) 10 (λ e. omega arith), (ne_eqb (48 + (b / 8) % 8) 10 (λ e. omega arith), (ne_eqb (48 + b % 8) 10 (λ e. omega arith), tt))))

byte_clean : (b : ℕ) (escapes : Bool) → is_escaped_in_paths b ≡ escapes → AllByRecursion (λ c. (c == 10) ≡ false) (byte_text escapes b)
byte_clean b true e = escape_clean b
byte_clean b false e = ((or_parts (b == 10) (b == 13) (or_parts (b == 92) ((b == 10) || (b == 13)) e).1).0, tt)

text_clean : (bytes : List ℕ) → AllByRecursion (λ c. (c == 10) ≡ false) (escaped_where is_escaped_in_paths bytes)
text_clean [] = tt
text_clean (b ∷ bs) = all-append (λ c. (c == 10) ≡ false) (byte_text (is_escaped_in_paths b) b) (escaped_where is_escaped_in_paths bs) (byte_clean b (is_escaped_in_paths b) refl) (text_clean bs)

pub name_clean : (path : List (List ℕ)) (slash : Bool) → AllByRecursion (λ c. (c == 10) ≡ false) (path_text path ++ slash_text slash)
name_clean path true = all-append (λ c. (c == 10) ≡ false) (path_text path) (47 ∷ []) (text_clean (joined path)) (refl, tt)
name_clean path false = all-append (λ c. (c == 10) ≡ false) (path_text path) [] (text_clean (joined path)) tt

-- ---- the last byte

-- bytes whose last is not a slash
record EndsClean (bytes : List ℕ) : Type 0 where
  before : List ℕ
  last : ℕ
  parts : bytes ≡ before ++ last ∷ []
  clean : (last == 47) ≡ false

ends_clean : (b : ℕ) (bs : List ℕ) → AllByRecursion (λ c. (c == 47) ≡ false) (b ∷ bs) → EndsClean (b ∷ bs)
ends_clean b [] none = record { before = []; last = b; parts = refl; clean = none.0 }
ends_clean b (c ∷ cs) none =
    let ends = ends_clean c cs none.1 in
    record { before = b ∷ ends.before; last = ends.last; parts = ap (λ (l : List ℕ). b ∷ l) ends.parts; clean = ends.clean }

prefixed_clean : (front bytes : List ℕ) → EndsClean bytes → EndsClean (front ++ bytes)
prefixed_clean front bytes ends =
    record { before = front ++ ends.before; last = ends.last; parts = ap (λ (l : List ℕ). front ++ l) ends.parts ∙ sym (append_assoc front ends.before (ends.last ∷ [])); clean = ends.clean }

component_clean : (name : List ℕ) → is_component name ≡ true → EndsClean name
component_clean [] is = absurd cc
component_clean (b ∷ bs) is = ends_clean b bs (no_slash (b ∷ bs) (good (b ∷ bs) is).clean)

joined_clean : (name : List ℕ) (names : List (List ℕ)) → is_component name ≡ true → list_all is_component names ≡ true → EndsClean (name ++ flat_map after_slash names)
joined_clean name [] is are = subst EndsClean (sym (append-nil name)) (component_clean name is)
joined_clean name (next ∷ names) is are =
    let parts = and_parts (is_component next) (list_all is_component names) are in
    prefixed_clean name (47 ∷ (next ++ flat_map after_slash names)) (prefixed_clean (47 ∷ []) (next ++ flat_map after_slash names) (joined_clean next names parts.0 parts.1))

last_byte : (b : ℕ) (escapes : Bool) → (b == 47) ≡ false → EndsClean (byte_text escapes b)
last_byte b true clean = record { before = 92 ∷ (48 + b / 64) ∷ (48 + (b / 8) % 8) ∷ []; last = 48 + b % 8; parts = refl; clean = ne_eqb (48 + b % 8) 47 (λ e. omega arith) }
last_byte b false clean = record { before = []; last = b; parts = refl; clean = clean }

escaped_append : (xs ys : List ℕ) → escaped_where is_escaped_in_paths (xs ++ ys) ≡ escaped_where is_escaped_in_paths xs ++ escaped_where is_escaped_in_paths ys
escaped_append xs ys = flat_map-append (λ b. byte_text (is_escaped_in_paths b) b) xs ys

escaped_clean : (bytes : List ℕ) → EndsClean bytes → EndsClean (escaped_where is_escaped_in_paths bytes)
escaped_clean bytes ends =
    let last = last_byte ends.last (is_escaped_in_paths ends.last) ends.clean in
    subst EndsClean (sym
    (ap (escaped_where is_escaped_in_paths) ends.parts
    ∙ (escaped_append ends.before (ends.last ∷ []) ∙ ap (λ (l : List ℕ). escaped_where is_escaped_in_paths ends.before ++ l) (append-nil (byte_text (is_escaped_in_paths ends.last) ends.last)))))
    (prefixed_clean (escaped_where is_escaped_in_paths ends.before) (byte_text (is_escaped_in_paths ends.last) ends.last) last)

path_clean : (path : List (List ℕ)) → list_all is_component path ≡ true → EndsClean (path_text path)
path_clean [] are = record { before = []; last = 46; parts = refl; clean = refl }
path_clean (name ∷ names) are =
    let parts = and_parts (is_component name) (list_all is_component names) are in
    escaped_clean (name ++ flat_map after_slash names) (joined_clean name names parts.0 parts.1)

last_of : (xs : List ℕ) (b : ℕ) → drop (length (xs ++ b ∷ []) - 1) (xs ++ b ∷ []) ≡ b ∷ []
last_of xs b = ap (λ n. drop n (xs ++ b ∷ [])) (omega (arith, length-append xs (b ∷ []))) ∙ drop-append_seam xs (b ∷ [])

ends_with_last : (xs : List ℕ) (b : ℕ) → ends_in_slash (xs ++ b ∷ []) ≡ ((47 == b) && true)
ends_with_last xs b = ap (λ l. pointwise nat_eq (47 ∷ []) l) (last_of xs b)

pub slash_again : (path : List (List ℕ)) (slash : Bool) → list_all is_component path ≡ true → ends_in_slash (path_text path ++ slash_text slash) ≡ slash
slash_again path true are = ends_with_last (path_text path) 47
slash_again path false are =
    let ends = path_clean path are in
    ap ends_in_slash (append-nil (path_text path) ∙ ends.parts)
    ∙ (ends_with_last ends.before ends.last ∙ ap (λ b. b && true) (ne_eqb 47 ends.last (λ e. eqb-false ends.last 47 ends.clean (sym e))))

pub name_some : (path : List (List ℕ)) (slash : Bool) → list_all is_component path ≡ true → 0 < length (path_text path ++ slash_text slash)
name_some path slash are =
    let ends = path_clean path are in
    omega (arith, ap length ends.parts, length-append ends.before (ends.last ∷ []), length-append (path_text path) (slash_text slash))

-- ---- the path

abbrev NoSlash : List ℕ → Type 0
NoSlash name = AllByRecursion (λ c. (c == 47) ≡ false) name

cut_all : (name : List ℕ) (names : List (List ℕ)) → NoSlash name → AllByRecursion NoSlash names → pieces 47 (name ++ flat_map after_slash names) ≡ name ∷ names
cut_all name [] none nones = ap (pieces 47) (append-nil name) ∙ pieces_none 47 name none
cut_all name (next ∷ names) none nones = pieces_at 47 name (next ++ flat_map after_slash names) none ∙ ap (λ (ps : List (List ℕ)). name ∷ ps) (cut_all next names nones.0 nones.1)

no_slashes : (names : List (List ℕ)) → list_all is_component names ≡ true → AllByRecursion NoSlash (names ++ [] ∷ [])
no_slashes [] are = (tt, tt)
no_slashes (name ∷ names) are =
    let parts = and_parts (is_component name) (list_all is_component names) are in
    (no_slash name (good name parts.0).clean, no_slashes names parts.1)

kept_append : (p : List ℕ → Bool) (xs ys : List (List ℕ)) → filter p (xs ++ ys) ≡ filter p xs ++ filter p ys
kept_append p [] ys = refl
kept_append p (x ∷ xs) ys =
    elim (p x) as (λ b. cond b (x ∷ filter p (xs ++ ys)) (filter p (xs ++ ys)) ≡ cond b (x ∷ filter p xs) (filter p xs) ++ filter p ys) [
      | true ↦ ap (λ (l : List (List ℕ)). x ∷ l) (kept_append p xs ys)
      | false ↦ kept_append p xs ys
    ]

abbrev from_parts : List (List ℕ) → Option (List (List ℕ))
from_parts parts = cond (list_any is_refused parts) None (Some (components_of parts))

pub name_again : (path : List (List ℕ)) (slash : Bool) → list_all is_component path ≡ true → path_of (path_text path ++ slash_text slash) ≡ Some path
name_again path false are = ap path_of (append-nil (path_text path)) ∙ path_again path are
name_again [] true are = refl
name_again (name ∷ names) true are =
    let path = name ∷ names in
    let parts = and_parts (is_component name) (list_all is_component names) are in
    let more = names ++ [] ∷ [] in
    let bytes : decoded (path_text path ++ 47 ∷ []) ≡ joined path ++ 47 ∷ [] =
    ap decoded (sym (escaped_append (joined path) (47 ∷ [])))
    ∙ path_bytes_again (joined path ++ 47 ∷ []) (all-append (λ b. b < 256) (joined path) (47 ∷ []) (joined_bytes path are) (omega arith, tt)) in
    let cut : pieces 47 (decoded (path_text path ++ 47 ∷ [])) ≡ path ++ [] ∷ [] =
    ap (pieces 47) (bytes ∙ (append_assoc name (flat_map after_slash names) (47 ∷ []) ∙ ap (λ (l : List ℕ). name ++ l) (sym (flat_map-append after_slash names ([] ∷ [])))))
    ∙ cut_all name more (no_slash name (good name parts.0).clean) (no_slashes names parts.1) in
    let refused : list_any is_refused (path ++ [] ∷ []) ≡ false = list_any-append is_refused path ([] ∷ []) ∙ ap (λ b. b || false) (none_refused path are) in
    let kept : components_of (path ++ [] ∷ []) ≡ path = kept_append (λ part. not (is_nothing part)) path ([] ∷ []) ∙ (append-nil (components_of path) ∙ all_kept path are) in
    ap from_parts cut ∙ (ap (λ b. cond b None (Some (components_of (path ++ [] ∷ [])))) refused ∙ ap (λ (l : List (List ℕ)). Some l) kept)
