-- What is written of an entry of a record is read as that entry.
use Rattle.std.proofs.Common.{◌≡◌, ℕ, zero, suc, ◌+◌, ◌<◌, Bool, true, false, cond, List, [], ◌∷◌, ◌++◌, length, take, Option, Some, None, Result, Ok, Err}
use Rattle.std.proofs.Common.{refl, sym, ap, subst, ◌∙◌, append_assoc, arith, inl, inr}
use Rattle.std.specs.Prelude.{◌==◌, ◌&&◌, codes, reverse, map, ok_or}
use Rattle.std.specs.List.{list_all, before_first, position_or_len, AllByRecursion}
use Rattle.std.proofs.lemmas.Bool.{cases_Bool, eqb-true}
use Rattle.std.proofs.lemmas.List.{reverse-append}
use Rattle.acl_entry.specs.declared.entry.Entry.{Entry}
use Rattle.acl_entry.specs.declared.entry.Key.{Key}
use Rattle.acl_entry.specs.declared.entry.Key.TheVariants as keys
use Rattle.acl_entry.specs.Ids.{nobody}
use Rattle.acl_entry.specs.Keys.{id_of, is_class}
use Rattle.acl_entry.specs.Perms as perms
use Rattle.acl_entry.specs.Perms.{Perms}
use Rattle.acl_names.specs.Pieces.{pieces}
use Rattle.acl_names.proofs.Basics.{all-append}
use Rattle.acl_text.specs.Naming.{Naming}
use Rattle.acl_text.specs.declared.fault.FaultKind.{FaultKind}
use Rattle.acl_text.specs.declared.fault.FaultKind.TheVariants.{BadTag}
use Rattle.acl_text.specs.declared.fault.Which.{Which}
use Rattle.acl_text.specs.declared.fault.Which.TheVariants.{Access, Default}
use Rattle.acl_text.specs.declared.entries.Form.TheVariants.{Long}
use Rattle.acl_text.specs.declared.entries.Sep.TheVariants.{Line}
use Rattle.acl_text.specs.declared.entries.PermSpec.{PermSpec}
use Rattle.acl_text.specs.declared.entries.Spec.{Spec}
use Rattle.acl_text.specs.Blanks.{is_blank, trim_front, trim_back, trimmed}
use Rattle.acl_text.specs.Fields.{EntryRow, entry_fields, row_of, is_default_word}
use Rattle.acl_text.specs.Entries.{content, tagged, entry_from, wanted_perms, key_of, allowed_key}
use Rattle.acl_text.specs.Writing.{tag_text, qualifier, entry_text, IsKeyNamed}
use Rattle.acl_text.proofs.Plain.{is_plain, plain-line, plain-blank, plain-colon, plain-hash, none_of, trimmed_none, pieces_at, pieces_none, before_first_none, all-reverse}
use Rattle.acl_text.proofs.WrittenLists.{plain_text, tag_plain, qualifier_plain, key_again, in_entry}
use Rattle.acl_text.specs.declared.line.LineKind.TheVariants as lines
use Rattle.acl_text.specs.declared.effective.Effective.{Effective}
use Rattle.acl_text.specs.declared.item.Item.TheVariants as item
use Rattle.acl_text.specs.Lines.{content_of}
use Rattle.acl_text.specs.Records.{rules, entry_item, item_of}
use Rattle.acl_text.specs.DumpWriting.{is_shown, tab_count, tabs, effective_text, front, shown}
use Rattle.acl_text.specs.Results.{◌>>=◌}

-- ---- blanks after a field

front_trimmed : (t xs : List ℕ) → AllByRecursion (λ b. is_blank b ≡ true) t → trim_front (t ++ xs) ≡ trim_front xs
front_trimmed [] xs blank = refl
front_trimmed (b ∷ t) xs blank = ap (λ c. cond c (trim_front (t ++ xs)) (b ∷ (t ++ xs))) blank.0 ∙ front_trimmed t xs blank.1

back_trimmed : (p t : List ℕ) → AllByRecursion (λ b. is_blank b ≡ true) t → trim_back (p ++ t) ≡ trim_back p
back_trimmed p t blank = ap (λ xs. reverse (trim_front xs)) (reverse-append p t) ∙ ap reverse (front_trimmed (reverse t) (reverse p) (all-reverse (λ b. is_blank b ≡ true) t blank))

-- a field of bytes that are not blanks, with blanks after it
trimmed_followed : (b : ℕ) (p t : List ℕ) → AllByRecursion (λ c. is_blank c ≡ false) (b ∷ p) → AllByRecursion (λ c. is_blank c ≡ true) t → trimmed (b ∷ p ++ t) ≡ b ∷ p
trimmed_followed b p t none blank =
    ap (λ c. trim_back (cond c (trim_front (p ++ t)) (b ∷ p ++ t))) none.0
    ∙ back_trimmed (b ∷ p) t blank
    ∙ ap (λ c. trim_back (cond c (trim_front p) (b ∷ p))) (sym none.0)
    ∙ trimmed_none (b ∷ p) none

nothing : (n : ℕ) → AllByRecursion (λ b. is_blank b ≡ true) (take n [])
nothing zero = tt
nothing (suc n) = tt

blank_front : (n : ℕ) → AllByRecursion (λ b. is_blank b ≡ true) (take n (9 ∷ 9 ∷ 9 ∷ 9 ∷ []))
blank_front zero = tt
blank_front (suc zero) = (refl, tt)
blank_front (suc (suc zero)) = (refl, (refl, tt))
blank_front (suc (suc (suc zero))) = (refl, (refl, (refl, tt)))
blank_front (suc (suc (suc (suc n)))) = (refl, (refl, (refl, (refl, nothing n))))

-- ---- what is before a comment

one_and : (n : ℕ) → 1 + n ≡ suc n
one_and n = omega arith

before_first_at : (q : ℕ → Bool) (xs : List ℕ) (c : ℕ) (ys : List ℕ) → AllByRecursion (λ b. q b ≡ false) xs → q c ≡ true → before_first q (xs ++ c ∷ ys) ≡ xs
before_first_at q [] c ys none is = rw is refl
before_first_at q (x ∷ xs) c ys none is =
    rw none.0 (ap (λ (n : ℕ). take n (x ∷ (xs ++ c ∷ ys))) (one_and (position_or_len q (xs ++ c ∷ ys))) ∙ ap (λ (l : List ℕ). x ∷ l) (before_first_at q xs c ys none.1 is))

-- ---- fields

perm_fields : (p : Perms) (t : List ℕ) → AllByRecursion (λ b. is_blank b ≡ true) t → trimmed (perms.text p ++ t) ≡ perms.text p
perm_fields p t blank = trimmed_followed _ _ t (none_of is_plain is_blank plain-blank (perms.text p) (plain_text p)) blank

blank_colon : (b : ℕ) → is_blank b ≡ true → (b == 58) ≡ false
blank_colon b blank =
    elim (cases_Bool (b == 58)) [
      | inl is ↦ let e : b ≡ 58 = eqb-true b 58 is in absurd (cc (ap is_blank e, blank))
      | inr isnt ↦ isnt
    ]

blank_line : (b : ℕ) → is_blank b ≡ true → (b == 10) ≡ false
blank_line b blank =
    elim (cases_Bool (b == 10)) [
      | inl is ↦ let e : b ≡ 10 = eqb-true b 10 is in absurd (cc (ap is_blank e, blank))
      | inr isnt ↦ isnt
    ]

blank_hash : (b : ℕ) → is_blank b ≡ true → (b == 35) ≡ false
blank_hash b blank =
    elim (cases_Bool (b == 35)) [
      | inl is ↦ let e : b ≡ 35 = eqb-true b 35 is in absurd (cc (ap is_blank e, blank))
      | inr isnt ↦ isnt
    ]

no_line : (t : List ℕ) → AllByRecursion (λ b. is_blank b ≡ true) t → AllByRecursion (λ b. (b == 10) ≡ false) t
no_line [] blank = tt
no_line (b ∷ t) blank = (blank_line b blank.0, no_line t blank.1)

no_hash : (t : List ℕ) → AllByRecursion (λ b. is_blank b ≡ true) t → AllByRecursion (λ b. (b == 35) ≡ false) t
no_hash [] blank = tt
no_hash (b ∷ t) blank = (blank_hash b blank.0, no_hash t blank.1)

no_colon : (t : List ℕ) → AllByRecursion (λ b. is_blank b ≡ true) t → AllByRecursion (λ b. (b == 58) ≡ false) t
no_colon [] blank = tt
no_colon (b ∷ t) blank = (blank_colon b blank.0, no_colon t blank.1)

pub fields_followed : (w v t : List ℕ) (p : Perms) → list_all is_plain w ≡ true → list_all is_plain v ≡ true → AllByRecursion (λ b. is_blank b ≡ true) t
    → entry_fields (w ++ 58 ∷ (v ++ 58 ∷ (perms.text p ++ t))) ≡ w ∷ v ∷ perms.text p ∷ []
fields_followed w v t p hw hv blank =
    let colon = none_of is_plain (λ b. b == 58) plain-colon in
    let cuts : pieces 58 (w ++ 58 ∷ (v ++ 58 ∷ (perms.text p ++ t))) ≡ w ∷ v ∷ (perms.text p ++ t) ∷ [] =
    pieces_at 58 w (v ++ 58 ∷ (perms.text p ++ t)) (colon w hw)
    ∙ ap (λ (ps : List (List ℕ)). w ∷ ps) (pieces_at 58 v (perms.text p ++ t) (colon v hv)
    ∙ ap (λ (ps : List (List ℕ)). v ∷ ps) (pieces_none 58 (perms.text p ++ t) (all-append (λ b. (b == 58) ≡ false) (perms.text p) t (colon (perms.text p) (plain_text p)) (no_colon t blank)))) in
    ap (map trimmed) cuts
    ∙ ap (λ (f : List ℕ). f ∷ trimmed v ∷ trimmed (perms.text p ++ t) ∷ []) (trimmed_none w (none_of is_plain is_blank plain-blank w hw))
    ∙ ap (λ (f : List ℕ). w ∷ f ∷ trimmed (perms.text p ++ t) ∷ []) (trimmed_none v (none_of is_plain is_blank plain-blank v hv))
    ∙ ap (λ (f : List ℕ). w ∷ v ∷ f ∷ []) (perm_fields p t blank)

abbrev pub is_default : Which → Bool
is_default Access = false
is_default Default = true

-- a word in front makes an entry a default one
abbrev as_default : Result Spec FaultKind → Result Spec FaultKind
as_default (Ok spec) = Ok (record spec { dflt = true })
as_default (Err kind) = Err kind

pub bind_same : {A : Type 0} (r : Result A FaultKind) (f g : A → Result Spec FaultKind) → ((x : A) → f x ≡ as_default (g x)) → (r >>= f) ≡ as_default (r >>= g)
bind_same (Ok x) f g same = same x
bind_same (Err kind) f g same = refl

module _ (naming : Naming) where
  abbrev from_allowed : ℕ → Bool → Option PermSpec → Key → Result Spec FaultKind
  from_allowed at dflt perm key = Ok (record { at = at; dflt = dflt; key = key; perm = perm })

  abbrev from_key : ℕ → Bool → Option PermSpec → Key → Result Spec FaultKind
  from_key at dflt perm key = allowed_key rules key >>= from_allowed at dflt perm

  abbrev from_perm : ℕ → Bool → EntryRow → Option PermSpec → Result Spec FaultKind
  from_perm at dflt row perm = key_of naming row.tag row.word >>= from_key at dflt perm

  abbrev from_row : ℕ → Bool → EntryRow → Result Spec FaultKind
  from_row at dflt row = wanted_perms rules row.perms >>= from_perm at dflt row

  default_again : (at : ℕ) (tag word perm : List ℕ) → is_default_word tag ≡ false
      → entry_from naming rules at (codes "default" ∷ tag ∷ word ∷ perm ∷ []) ≡ as_default (entry_from naming rules at (tag ∷ word ∷ perm ∷ []))
  default_again at tag word perm plain =
      let fields = tag ∷ word ∷ perm ∷ [] in
      bind_same (ok_or (row_of fields) BadTag) (from_row at true) (from_row at false)
      (λ row. bind_same (wanted_perms rules row.perms) (from_perm at true row) (from_perm at false row)
      (λ p. bind_same (key_of naming row.tag row.word) (from_key at true p) (from_key at false p)
      (λ k. bind_same (allowed_key rules k) (from_allowed at true p) (from_allowed at false p) (λ a. refl))))
      ∙ ap (λ d. as_default (ok_or (tagged rules d) BadTag >>= from_row at d.0)) (ap (λ b. cond b (true, word ∷ perm ∷ []) (false, fields)) (sym plain))

  default_tag : (k : Key) → is_default_word (tag_text Long k) ≡ false
  default_tag keys.Owner = refl
  default_tag (keys.User id) = refl
  default_tag keys.OwningGroup = refl
  default_tag (keys.Group id) = refl
  default_tag keys.Mask = refl
  default_tag keys.Other = refl

  abbrev IsNamedKey : Key → Type 0
  IsNamedKey k = IsKeyNamed naming k

  abbrev written : Entry → List ℕ
  written e = entry_text naming Long e

  abbrev word_of : Key → List ℕ
  word_of k = qualifier naming k

  -- the fields of an entry with blanks after it
  entry_fields_again : (e : Entry) (t : List ℕ) → id_of e.key < nobody → IsNamedKey e.key → AllByRecursion (λ b. is_blank b ≡ true) t
      → entry_fields (written e ++ t) ≡ tag_text Long e.key ∷ word_of e.key ∷ perms.text e.perm ∷ []
  entry_fields_again e t lt named blank =
      let tag = tag_text Long e.key in
      let word = word_of e.key in
      ap entry_fields (append_assoc tag (58 ∷ (word ++ 58 ∷ perms.text e.perm)) t ∙ ap (λ (l : List ℕ). tag ++ 58 ∷ l) (append_assoc word (58 ∷ perms.text e.perm) t))
      ∙ fields_followed tag word t e.perm (tag_plain Long e.key) (qualifier_plain true false naming e.key lt named) blank

  -- an entry with blanks after it
  fields_again : (at : ℕ) (which : Which) (e : Entry) (t : List ℕ) → id_of e.key < nobody → IsNamedKey e.key → AllByRecursion (λ b. is_blank b ≡ true) t
      → item_of naming at lines.Entry (shown naming which e ++ t) ≡ Ok (Some (item.Entry (is_default which) e))
  fields_again at Access e t lt named blank =
      ap (λ f. entry_from naming rules at f >>= (λ spec. Ok (Some (entry_item spec)))) (entry_fields_again e t lt named blank)
      ∙ ap (λ r. r >>= (λ spec. Ok (Some (entry_item spec)))) (key_again true false naming Long at e.key e.perm lt named)
  fields_again at Default e t lt named blank =
      let cut : entry_fields (codes "default" ++ 58 ∷ (written e ++ t)) ≡ codes "default" ∷ entry_fields (written e ++ t) =
      ap (map trimmed) (pieces_at 58 (codes "default") (written e ++ t) (refl, (refl, (refl, (refl, (refl, (refl, (refl, tt)))))))) in
      ap (λ f. entry_from naming rules at f >>= (λ spec. Ok (Some (entry_item spec)))) (cut ∙ ap (λ (f : List (List ℕ)). codes "default" ∷ f) (entry_fields_again e t lt named blank))
      ∙ ap (λ r. r >>= (λ spec. Ok (Some (entry_item spec)))) (default_again at (tag_text Long e.key) (word_of e.key) (perms.text e.perm) (default_tag e.key)
      ∙ ap as_default (key_again true false naming Long at e.key e.perm lt named))

  -- ---- lines

  opened_key : (k : Key) (rest : List ℕ) → content_of (tag_text Long k ++ rest) ≡ (lines.Entry, content Line (tag_text Long k ++ rest))
  opened_key keys.Owner rest = refl
  opened_key (keys.User id) rest = refl
  opened_key keys.OwningGroup rest = refl
  opened_key (keys.Group id) rest = refl
  opened_key keys.Mask rest = refl
  opened_key keys.Other rest = refl

  opened : (which : Which) (e : Entry) (rest : List ℕ) → content_of (shown naming which e ++ rest) ≡ (lines.Entry, content Line (shown naming which e ++ rest))
  opened Access e rest =
      let following = 58 ∷ (word_of e.key ++ 58 ∷ perms.text e.perm) in
      subst (λ (l : List ℕ). content_of l ≡ (lines.Entry, content Line l)) (sym (append_assoc (tag_text Long e.key) following rest)) (opened_key e.key (following ++ rest))
  opened Default e rest = refl

  front_hash : (which : Which) → AllByRecursion (λ b. (b == 35) ≡ false) (front which)
  front_hash Access = tt
  front_hash Default = (refl, (refl, (refl, (refl, (refl, (refl, (refl, (refl, tt))))))))

  front_line : (which : Which) → AllByRecursion (λ b. (b == 10) ≡ false) (front which)
  front_line Access = tt
  front_line Default = (refl, (refl, (refl, (refl, (refl, (refl, (refl, (refl, tt))))))))

  in_shown : (q : ℕ → Bool) → ((b : ℕ) → is_plain b ≡ true → q b ≡ false) → q 58 ≡ false → (which : Which) → AllByRecursion (λ b. q b ≡ false) (front which)
      → (e : Entry) → id_of e.key < nobody → IsNamedKey e.key
      → AllByRecursion (λ b. q b ≡ false) (shown naming which e)
  in_shown q why colon which none e lt named = all-append (λ b. q b ≡ false) (front which) (written e) none (in_entry true false naming q why colon Long e lt named)

  -- where a line is an entry with blanks after it
  abbrev ReadsAs : ℕ → Which → Entry → List ℕ → Type 0
  ReadsAs at which e line = (v : List ℕ) × (content_of line ≡ (lines.Entry, v)) × (item_of naming at lines.Entry v ≡ Ok (Some (item.Entry (is_default which) e)))

  reads_bare : (at : ℕ) (which : Which) (e : Entry) → id_of e.key < nobody → IsNamedKey e.key → ReadsAs at which e (shown naming which e ++ [])
  reads_bare at which e lt named =
      let text = shown naming which e in
      let none = all-append (λ b. (b == 35) ≡ false) text [] (in_shown (λ b. b == 35) plain-hash refl which (front_hash which) e lt named) tt in
      (text ++ [], opened which e [] ∙ ap (λ (v : List ℕ). (lines.Entry, v)) (before_first_none (λ b. b == 35) (text ++ []) none), fields_again at which e [] lt named tt)

  reads_commented : (at : ℕ) (which : Which) (e : Entry) (t ys : List ℕ) → id_of e.key < nobody → IsNamedKey e.key → AllByRecursion (λ b. is_blank b ≡ true) t
      → ReadsAs at which e (shown naming which e ++ (t ++ 35 ∷ ys))
  reads_commented at which e t ys lt named blank =
      let text = shown naming which e in
      let none = all-append (λ b. (b == 35) ≡ false) text t (in_shown (λ b. b == 35) plain-hash refl which (front_hash which) e lt named) (no_hash t blank) in (
        text ++ t,
        opened which e (t ++ 35 ∷ ys) ∙ ap (λ (v : List ℕ). (lines.Entry, v))
            (ap (before_first (λ b. b == 35)) (sym (append_assoc text t (35 ∷ ys))) ∙ before_first_at (λ b. b == 35) (text ++ t) 35 ys none refl),
        fields_again at which e t lt named blank,
      )

  -- a line of an entry, with or without its effective permissions
  pub line_again : (at : ℕ) (how : Effective) (which : Which) (mask : Option Perms) (e : Entry) → id_of e.key < nobody → IsNamedKey e.key
      → ReadsAs at which e (shown naming which e ++ effective_text how mask e (length (shown naming which e)))
  line_again at how which None e lt named = reads_bare at which e lt named
  line_again at how which (Some mask) e lt named =
      let bytes = length (shown naming which e) in
      let following = tabs bytes ++ (codes "#effective:" ++ perms.text (perms.meet e.perm mask)) in
      elim (cases_Bool (is_class e.key && is_shown how mask e.perm)) [
        | inl shown_text ↦ subst (λ b. ReadsAs at which e (shown naming which e ++ cond b following [])) (sym shown_text)
            (reads_commented at which e (tabs bytes) _ lt named (blank_front (tab_count bytes)))
        | inr without_comment ↦ subst (λ b. ReadsAs at which e (shown naming which e ++ cond b following [])) (sym without_comment) (reads_bare at which e lt named)
      ]

  comment_clean : (how : Effective) (mask : Option Perms) (e : Entry) (bytes : ℕ) → AllByRecursion (λ b. (b == 10) ≡ false) (effective_text how mask e bytes)
  comment_clean how None e bytes = tt
  comment_clean how (Some mask) e bytes =
      let word = codes "#effective:" in
      let granted = perms.text (perms.meet e.perm mask) in
      let shown_text = all-append (λ b. (b == 10) ≡ false) (tabs bytes) (word ++ granted) (no_line (tabs bytes) (blank_front (tab_count bytes)))
      (refl, (refl, (refl, (refl, (refl, (refl, (refl, (refl, (refl, (refl, (refl, none_of is_plain (λ b. b == 10) plain-line granted (plain_text (perms.meet e.perm mask))))))))))))) in
      elim (is_class e.key && is_shown how mask e.perm) as (λ b. AllByRecursion (λ b. (b == 10) ≡ false) (cond b (tabs bytes ++ (word ++ granted)) [])) [
        | true ↦ shown_text
        | false ↦ tt
      ]

  pub line_clean : (how : Effective) (which : Which) (mask : Option Perms) (e : Entry) → id_of e.key < nobody → IsNamedKey e.key
      → AllByRecursion (λ b. (b == 10) ≡ false) (shown naming which e ++ effective_text how mask e (length (shown naming which e)))
  line_clean how which mask e lt named =
      let text = shown naming which e in
      all-append (λ b. (b == 10) ≡ false) text (effective_text how mask e (length text))
      (in_shown (λ b. b == 10) plain-line refl which (front_line which) e lt named) (comment_clean how mask e (length text))
