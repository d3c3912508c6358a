-- Faults that are checked in the order of their kinds: the first that is found is the lowest.
use Rattle.std.proofs.Common.{◌≡◌, ℕ, ◌<◌, ◌≤◌, Bool, false, leb, List, [], ◌∷◌, ◌++◌, length, Option, Some, None, Result, Ok, Err, refl, sym, ap, ◌∙◌, arith, inl, inr}
use Rattle.std.specs.Prelude.{◌⊎◌, ◌==◌, ◌&&◌, not, nat_le, if◌then◌else◌, ok_or}
use Rattle.std.proofs.lemmas.Bool.{cases_Bool, ne_eqb, le-leb, leb-true}
use Rattle.acl_entry.specs.Keys.{is_base}
use Rattle.acl_entry.specs.declared.entry.Key.{Key}
use Rattle.acl_text.specs.Naming.{Naming}
use Rattle.acl_text.specs.declared.fault.FaultKind.{FaultKind}
use Rattle.acl_text.specs.declared.fault.FaultKind.TheVariants as kinds
use Rattle.acl_text.specs.declared.entries.Sep.{Sep}
use Rattle.acl_text.specs.declared.entries.Rules.{Rules}
use Rattle.acl_text.specs.declared.entries.PermSpec.{PermSpec}
use Rattle.acl_text.specs.declared.entries.Spec.{Spec}
use Rattle.acl_text.specs.declared.fields.Tag.{Tag}
use Rattle.acl_text.specs.declared.fields.Tag.TheVariants as tags
use Rattle.acl_text.specs.Blanks.{trimmed}
use Rattle.acl_text.specs.Fields.{EntryRow, default_of, entry_fields}
use Rattle.acl_text.specs.Entries.{tagged, given_perms, no_perms, wanted_perms, allowed_key, content, with_entry, key_of, entry_from, entry_of, most_text_entries, one_more}
use Rattle.acl_text.specs.Lowest.{number, ReportsLowest, HasBadTag, HasBadPerms, HasUnknownWord, HasBaseKey, HasNoRoom, FieldsHave, EntryHas, NextEntryHas}
use Rattle.acl_text.specs.Results.{◌>>=◌}

-- ---- one check, and one after another

-- a check that finds exactly the kinds that apply
pub alone : {A : Type 0} (has : FaultKind → Type 0) (r : Result A FaultKind) → ((k : FaultKind) → has k → r ≡ Err k) → ((k : FaultKind) → r ≡ Err k → has k) → ReportsLowest has r
alone {A} has r found applies = record {
  no_fault = λ x e k h. let both : Ok x ≡ Err k = sym e ∙ found k h in absurd cc;
  lowest = λ k e. record {
    applies = applies k e;
    least = λ j h.
        let both : Err k ≡ Err j = sym e ∙ found j h in
        let same : k ≡ j = cc in
        omega (arith, ap number same);
  };
}

-- a check, and then another that finds higher kinds
pub in_turn : {A B : Type 0} (first second : FaultKind → Type 0) (r : Result A FaultKind) (f : A → Result B FaultKind) → ((j k : FaultKind) → first j → second k → number j ≤ number k)
    → ReportsLowest first r → ((x : A) → r ≡ Ok x → ReportsLowest second (f x)) → ReportsLowest (λ k. first k ⊎ second k) (r >>= f)
in_turn first second (Ok x) f below one two = record {
  no_fault = λ y e k h. elim h [ inl a ↦ one.no_fault x refl k a | inr b ↦ (two x refl).no_fault y e k b ];
  lowest = λ k e.
      let low = (two x refl).lowest k e in
      record {
        applies = inr low.applies;
        least = λ j h. elim h [ inl a ↦ absurd (one.no_fault x refl j a) | inr b ↦ low.least j b ];
      };
}
in_turn first second (Err i) f below one two = record {
  no_fault = λ y e k h. absurd cc;
  lowest = λ k e.
      let same : i ≡ k = cc in
      let low = one.lowest k (ap (λ j. Err j) same) in
      record {
        applies = inl low.applies;
        least = λ j h. elim h [ inl a ↦ low.least j a | inr b ↦ below k j low.applies b ];
      };
}

-- ---- which kinds each check of an entry finds

pub some_number : (k : FaultKind) → 1 ≤ number k
some_number kinds.BadTag = omega arith
some_number kinds.MissingPerms = omega arith
some_number kinds.UnwantedPerms = omega arith
some_number kinds.BadPerms = omega arith
some_number kinds.UnknownUser = omega arith
some_number kinds.UnknownGroup = omega arith
some_number kinds.BaseEntry = omega arith
some_number kinds.BadHeader = omega arith
some_number kinds.MissingHeader = omega arith
some_number kinds.BadPath = omega arith
some_number kinds.RepeatedFile = omega arith
some_number kinds.BadRow = omega arith
some_number kinds.BadAttr = omega arith
some_number (kinds.List which fault) = omega arith
some_number kinds.TooMany = omega arith
some_number kinds.NoMemory = omega arith

pub ok_or-kind : {A : Type 0} (o : Option A) (kind k : FaultKind) → ok_or o kind ≡ Err k → kind ≡ k
ok_or-kind None kind k e = cc
ok_or-kind (Some x) kind k e = absurd cc

pub ok_or-none : {A : Type 0} (o : Option A) (kind k : FaultKind) → ok_or o kind ≡ Err k → o ≡ None
ok_or-none None kind k e = refl
ok_or-none (Some x) kind k e = absurd cc

pub ok_or-some : {A : Type 0} (o : Option A) (kind : FaultKind) (x : A) → ok_or o kind ≡ Ok x → o ≡ Some x
ok_or-some None kind x e = absurd cc
ok_or-some (Some y) kind x e = let same : y ≡ x = cc in ap (λ z. Some z) same

given-kind : (takes_x : Bool) (field : Option (List ℕ)) (k : FaultKind) → given_perms takes_x field ≡ Err k → number k ≤ 4
given-kind takes_x None k e = let same : kinds.MissingPerms ≡ k = cc in omega (arith, ap number same)
given-kind takes_x (Some field) k e = omega (arith, ap number (ok_or-kind _ kinds.BadPerms k e))

no_perms-kind : (field : Option (List ℕ)) (k : FaultKind) → no_perms field ≡ Err k → number k ≤ 4
no_perms-kind None k e = absurd cc
no_perms-kind (Some []) k e = absurd cc
no_perms-kind (Some (b ∷ bs)) k e = let same : kinds.UnwantedPerms ≡ k = cc in omega (arith, ap number same)

perms-kind : (rules : Rules) (field : Option (List ℕ)) (k : FaultKind) → wanted_perms rules field ≡ Err k → number k ≤ 4
perms-kind rules field k e =
    elim (cases_Bool rules.takes_perms) [
      | inl takes ↦ given-kind rules.takes_x field k (rw takes at e)
      | inr none ↦ no_perms-kind field k (rw none at e)
    ]

word-kind : (naming : Naming) (tag : Tag) (word : List ℕ) (k : FaultKind) → key_of naming tag word ≡ Err k → (5 ≤ number k) × (number k ≤ 6)
word-kind naming tags.User [] k e = absurd cc
word-kind naming tags.User (b ∷ bs) k e = let same = ap number (ok_or-kind _ kinds.UnknownUser k e) in (omega (arith, same), omega (arith, same))
word-kind naming tags.Group [] k e = absurd cc
word-kind naming tags.Group (b ∷ bs) k e = let same = ap number (ok_or-kind _ kinds.UnknownGroup k e) in (omega (arith, same), omega (arith, same))
word-kind naming tags.Mask word k e = absurd cc
word-kind naming tags.Other word k e = absurd cc

base-kind : (rules : Rules) (key : Key) (k : FaultKind) → allowed_key rules key ≡ Err k → number k ≡ 7
base-kind rules key k e =
    elim (cases_Bool (not rules.takes_perms && is_base key)) [
      | inl is ↦ let same : Err kinds.BaseEntry ≡ Err k = sym (rw is refl) ∙ e in let kind : kinds.BaseEntry ≡ k = cc in sym (ap number kind)
      | inr isnt ↦ let same : Ok key ≡ Err k = sym (rw isnt refl) ∙ e in absurd cc
    ]

-- ---- an entry

module _ (naming : Naming) (rules : Rules) (fields : Bool × List (List ℕ)) where
  same_row : (a b : EntryRow) → tagged rules fields ≡ Some a → tagged rules fields ≡ Some b → b ≡ a
  same_row a b ea eb = let both : Some b ≡ Some a = sym eb ∙ ea in cc

  tag_check : ReportsLowest (HasBadTag naming rules fields) (ok_or (tagged rules fields) kinds.BadTag)
  tag_check = alone (HasBadTag naming rules fields) (ok_or (tagged rules fields) kinds.BadTag)
      (λ k h. ap (λ o. ok_or o kinds.BadTag) h.no_row ∙ ap (λ j. Err j) (sym h.is))
      (λ k e. record { is = sym (ok_or-kind (tagged rules fields) kinds.BadTag k e); no_row = ok_or-none (tagged rules fields) kinds.BadTag k e })

  module _ (row : EntryRow) (is_row : tagged rules fields ≡ Some row) where
    perms_check : ReportsLowest (HasBadPerms naming rules fields) (wanted_perms rules row.perms)
    perms_check = alone (HasBadPerms naming rules fields) (wanted_perms rules row.perms)
        (λ k h. ap (λ (r : EntryRow). wanted_perms rules r.perms) (same_row h.row row h.is_row is_row) ∙ h.bad)
        (λ k e. record { row = row; is_row = is_row; bad = e })

    word_check : ReportsLowest (HasUnknownWord naming rules fields) (key_of naming row.tag row.word)
    word_check = alone (HasUnknownWord naming rules fields) (key_of naming row.tag row.word)
        (λ k h. ap (λ (r : EntryRow). key_of naming r.tag r.word) (same_row h.row row h.is_row is_row) ∙ h.unknown)
        (λ k e. record { row = row; is_row = is_row; unknown = e })

    base_check : (key : Key) → key_of naming row.tag row.word ≡ Ok key → ReportsLowest (HasBaseKey naming rules fields) (allowed_key rules key)
    base_check key is_key = alone (HasBaseKey naming rules fields) (allowed_key rules key)
        (λ k h.
        let here = ap (λ (r : EntryRow). key_of naming r.tag r.word) (same_row h.row row h.is_row is_row) ∙ h.is_key in
        let both : Ok key ≡ Ok h.key = sym is_key ∙ here in
        let same : key ≡ h.key = cc in
        ap (allowed_key rules) same ∙ h.base)
        (λ k e. record { row = row; key = key; is_row = is_row; is_key = is_key; base = e })

  tag_below : (j k : FaultKind) → HasBadTag naming rules fields j → number j ≤ number k
  tag_below j k h = omega (arith, ap number h.is, some_number k)

  perms_below : (j k : FaultKind) → HasBadPerms naming rules fields j → (HasUnknownWord naming rules fields k ⊎ HasBaseKey naming rules fields k) → number j ≤ number k
  perms_below j k h later =
      let low = perms-kind rules h.row.perms j h.bad in
      elim later [
        | inl word ↦ omega (arith, low, (word-kind naming word.row.tag word.row.word k word.unknown).0)
        | inr base ↦ omega (arith, low, base-kind rules base.key k base.base)
      ]

  word_below : (j k : FaultKind) → HasUnknownWord naming rules fields j → HasBaseKey naming rules fields k → number j ≤ number k
  word_below j k h base = omega (arith, (word-kind naming h.row.tag h.row.word j h.unknown).1, base-kind rules base.key k base.base)

  -- all that an entry has in itself is lower than what it has by its place
  pub fields-kind : (k : FaultKind) → FieldsHave naming rules fields k → number k ≤ 7
  fields-kind k have =
      elim have [
        | inl tag ↦ omega (arith, ap number tag.is)
        | inr later ↦ elim later [
          | inl perms ↦ omega (arith, perms-kind rules perms.row.perms k perms.bad)
          | inr last ↦ elim last [
            | inl word ↦ omega (arith, (word-kind naming word.row.tag word.row.word k word.unknown).1)
            | inr base ↦ omega (arith, base-kind rules base.key k base.base)
          ]
        ]
      ]

-- a value that is made of another changes no fault
pub made : {A B : Type 0} (has : FaultKind → Type 0) (r : Result A FaultKind) (g : A → B) → ReportsLowest has r → ReportsLowest has (r >>= (λ x. Ok (g x)))
made has (Ok x) g one = record { no_fault = λ y e k h. one.no_fault x refl k h; lowest = λ k e. absurd cc }
made has (Err i) g one = record { no_fault = λ y e k h. absurd cc; lowest = λ k e. let same : i ≡ k = cc in one.lowest k (ap (λ j. Err j) same) }

module _ (naming : Naming) (rules : Rules) (at : ℕ) (fs : List (List ℕ)) where
  abbrev spec_with : Option PermSpec → Key → Spec
  spec_with perm allowed = record { at = at; dflt = (default_of fs).0; key = allowed; perm = perm }

  abbrev KeyHas : FaultKind → Type 0
  KeyHas k = HasUnknownWord naming rules (default_of fs) k ⊎ HasBaseKey naming rules (default_of fs) k

  key_step : (row : EntryRow) → tagged rules (default_of fs) ≡ Some row → (perm : Option PermSpec)
      → ReportsLowest KeyHas (key_of naming row.tag row.word >>= (λ key. allowed_key rules key >>= (λ allowed. Ok (spec_with perm allowed))))
  key_step row is_row perm =
      in_turn (HasUnknownWord naming rules (default_of fs)) (HasBaseKey naming rules (default_of fs)) (key_of naming row.tag row.word)
      (λ key. allowed_key rules key >>= (λ allowed. Ok (spec_with perm allowed)))
      (word_below naming rules (default_of fs)) (word_check naming rules (default_of fs) row is_row)
      (λ key is_key. made (HasBaseKey naming rules (default_of fs)) (allowed_key rules key) (spec_with perm) (base_check naming rules (default_of fs) row is_row key is_key))

  perms_step : (row : EntryRow) → tagged rules (default_of fs) ≡ Some row
      → ReportsLowest (λ k. HasBadPerms naming rules (default_of fs) k ⊎ KeyHas k)
      (wanted_perms rules row.perms >>= (λ perm. key_of naming row.tag row.word >>= (λ key. allowed_key rules key >>= (λ allowed. Ok (spec_with perm allowed)))))
  perms_step row is_row =
      in_turn (HasBadPerms naming rules (default_of fs)) KeyHas (wanted_perms rules row.perms)
      (λ perm. key_of naming row.tag row.word >>= (λ key. allowed_key rules key >>= (λ allowed. Ok (spec_with perm allowed))))
      (perms_below naming rules (default_of fs)) (perms_check naming rules (default_of fs) row is_row) (λ perm is. key_step row is_row perm)

  fields_lowest : ReportsLowest (FieldsHave naming rules (default_of fs)) (entry_from naming rules at fs)
  fields_lowest =
      in_turn (HasBadTag naming rules (default_of fs)) (λ k. HasBadPerms naming rules (default_of fs) k ⊎ KeyHas k) (ok_or (tagged rules (default_of fs)) kinds.BadTag)
      (λ row. wanted_perms rules row.perms >>= (λ perm. key_of naming row.tag row.word >>= (λ key. allowed_key rules key >>= (λ allowed. Ok (spec_with perm allowed)))))
      (λ j k h later. tag_below naming rules (default_of fs) j k h) (tag_check naming rules (default_of fs))
      (λ row is. perms_step row (ok_or-some (tagged rules (default_of fs)) kinds.BadTag row is))

-- an entry by itself
pub entry_lowest : (naming : Naming) (rules : Rules) (at : ℕ) (entry : List ℕ) → ReportsLowest (EntryHas naming rules entry) (entry_of naming rules at entry)
entry_lowest naming rules at entry = fields_lowest naming rules at (entry_fields entry)

room_lowest : (specs : List Spec) (spec : Spec) → ReportsLowest (HasNoRoom specs) (if nat_le most_text_entries (length specs) then Err kinds.TooMany else Ok (specs ++ spec ∷ []))
room_lowest specs spec = alone (HasNoRoom specs) (if nat_le most_text_entries (length specs) then Err kinds.TooMany else Ok (specs ++ spec ∷ []))
    (λ k h. rw (le-leb most_text_entries (length specs) h.full) (ap (λ j. Err j) (sym h.is)))
    (λ k e.
    elim (cases_Bool (leb most_text_entries (length specs))) [
      | inl full ↦ let read_each = rw full at e in let same : kinds.TooMany ≡ k = cc in record { is = sym same; full = leb-true most_text_entries (length specs) full }
      | inr room ↦ let read_each = rw room at e in absurd cc
    ])

-- the next entry of a text
next_lowest : (naming : Naming) (rules : Rules) (at : ℕ) (specs : List Spec) (entry : List ℕ)
    → ReportsLowest (NextEntryHas naming rules specs entry) (with_entry specs (entry_of naming rules at entry))
next_lowest naming rules at specs entry =
    in_turn (EntryHas naming rules entry) (HasNoRoom specs) (entry_of naming rules at entry)
    (λ spec. if nat_le most_text_entries (length specs) then Err kinds.TooMany else Ok (specs ++ spec ∷ []))
    (λ j k have room. omega (arith, fields-kind naming rules (default_of (entry_fields entry)) j have, ap number room.is))
    (entry_lowest naming rules at entry) (λ spec is. room_lowest specs spec)

-- a piece that is not empty
pub piece_lowest : (naming : Naming) (sep : Sep) (rules : Rules) (at : ℕ) (specs : List Spec) (piece : List ℕ) → 0 < length (trimmed (content sep piece))
    → ReportsLowest (NextEntryHas naming rules specs (content sep piece)) (one_more naming sep rules at specs piece)
piece_lowest naming sep rules at specs piece some =
    let full : (length (trimmed (content sep piece)) == 0) ≡ false = ne_eqb (length (trimmed (content sep piece))) 0 (λ zero. omega arith) in
    rw full (next_lowest naming rules at specs (content sep piece))
