-- An entry is read as what it means by the table.
use Rattle.std.proofs.Common.{◌≡◌, ℕ, ◌+◌, ◌-◌, ◌<◌, ◌≤◌, Bool, true, false, leb, List, [], ◌∷◌, length, Option, Some, None, Result, Ok, Err, refl, sym, ap, ◌∙◌, inl, inr, arith}
use Rattle.std.specs.Prelude.{◌⊎◌, ◌↔◌, ◌||◌, ◌&&◌, not, codes, if◌then◌else◌, ok_or}
use Rattle.std.specs.Str.{bytes_eq}
use Rattle.std.specs.List.{list_all}
use Rattle.std.proofs.lemmas.Bool.{cases_Bool, and_parts, and_from, or_cases, le-leb, leb-true, ne_eqb}
use Rattle.std.proofs.lemmas.Slice.Eq.{bytes_eq-Decides}
use Rattle.acl_entry.specs.declared.entry.Key.{Key}
use Rattle.acl_entry.specs.declared.entry.Key.TheVariants as keys
use Rattle.acl_entry.specs.Keys.{is_base}
use Rattle.acl_entry.specs.Perms.{numbered}
use Rattle.acl_text.specs.Naming.{Naming}
use Rattle.acl_text.specs.declared.entries.Rules.{Rules}
use Rattle.acl_text.specs.declared.entries.PermSpec.{PermSpec}
use Rattle.acl_text.specs.declared.entries.Spec.{Spec}
use Rattle.acl_text.specs.declared.fault.FaultKind.{FaultKind}
use Rattle.acl_text.specs.declared.fault.FaultKind.TheVariants as kinds
use Rattle.acl_text.specs.declared.fields.Tag.{Tag}
use Rattle.acl_text.specs.declared.fields.Tag.TheVariants as tags
use Rattle.acl_text.specs.Words.{word_id}
use Rattle.acl_text.specs.Letters.{is_letter, letter_set, holds, letters_of, perms_of}
use Rattle.acl_text.specs.Fields.{EntryRow, tag_named, one_field, two_fields, three_fields, row_of, is_default_word, default_of, entry_fields}
use Rattle.acl_text.specs.Entries.{tagged, given_perms, no_perms, wanted_perms, key_of, allowed_key, entry_of}
use Rattle.acl_text.specs.Means.{IsWordFor, IsDefaultWord, last, WaysOf, IsWritten, IsOfList, IsFor, AreLetters, Grants, HasPerms, Means}
use Rattle.acl_text.proofs.FieldCounts.{default_taken}
use Rattle.acl_text.proofs.Lowest.{ok_or-some}
use Rattle.acl_text.specs.Results.{◌>>=◌}
use Rattle.acl_names.specs.Names.{is_octal}

-- ---- the words for tags

one_of : (w a b : List ℕ) → (bytes_eq w a || bytes_eq w b) ≡ true → (w ≡ a) ⊎ (w ≡ b)
one_of w a b e =
    elim (or_cases (bytes_eq w a) (bytes_eq w b) e) [
      | inl is ↦ inl ((bytes_eq-Decides w a).0 is)
      | inr is ↦ inr ((bytes_eq-Decides w b).0 is)
    ]

abbrev choice : Bool → Bool → Bool → Bool → Option Tag
choice user group mask other = if user then Some tags.User else (if group then Some tags.Group else (if mask then Some tags.Mask else (if other then Some tags.Other else None)))

abbrev IsChosen : Tag → Bool → Bool → Bool → Bool → Type 0
IsChosen tags.User user group mask other = user ≡ true
IsChosen tags.Group user group mask other = group ≡ true
IsChosen tags.Mask user group mask other = mask ≡ true
IsChosen tags.Other user group mask other = other ≡ true

chosen : (user group mask other : Bool) (tag : Tag) → choice user group mask other ≡ Some tag → IsChosen tag user group mask other
chosen true group mask other tag e = let same : tags.User ≡ tag = cc in rw (← same) refl
chosen false true mask other tag e = let same : tags.Group ≡ tag = cc in rw (← same) refl
chosen false false true other tag e = let same : tags.Mask ≡ tag = cc in rw (← same) refl
chosen false false false true tag e = let same : tags.Other ≡ tag = cc in rw (← same) refl
chosen false false false false tag e = absurd cc

module _ (w : List ℕ) where
  abbrev is_either : List ℕ → List ℕ → Bool
  is_either a b = bytes_eq w a || bytes_eq w b

  chosen_word : (tag : Tag) → tag_named w ≡ Some tag → IsChosen tag (is_either (codes "u") (codes "user")) (is_either (codes "g") (codes "group"))
      (is_either (codes "m") (codes "mask")) (is_either (codes "o") (codes "other"))
  chosen_word tag e = chosen (is_either (codes "u") (codes "user")) (is_either (codes "g") (codes "group")) (is_either (codes "m") (codes "mask")) (is_either (codes "o") (codes "other")) tag e

  word_for : (tag : Tag) → tag_named w ≡ Some tag → IsWordFor tag w
  word_for tags.User e = one_of w (codes "u") (codes "user") (chosen_word tags.User e)
  word_for tags.Group e = one_of w (codes "g") (codes "group") (chosen_word tags.Group e)
  word_for tags.Mask e = one_of w (codes "m") (codes "mask") (chosen_word tags.Mask e)
  word_for tags.Other e = one_of w (codes "o") (codes "other") (chosen_word tags.Other e)

  named_by : (tag : Tag) → IsWordFor tag w → tag_named w ≡ Some tag
  named_by tags.User is = elim is [ inl e ↦ ap tag_named e | inr e ↦ ap tag_named e ]
  named_by tags.Group is = elim is [ inl e ↦ ap tag_named e | inr e ↦ ap tag_named e ]
  named_by tags.Mask is = elim is [ inl e ↦ ap tag_named e | inr e ↦ ap tag_named e ]
  named_by tags.Other is = elim is [ inl e ↦ ap tag_named e | inr e ↦ ap tag_named e ]

  for_none : tag_named w ≡ None → (tag : Tag) → IsWordFor tag w → ⊥
  for_none e tag is = let both : Some tag ≡ None = sym (named_by tag is) ∙ e in absurd cc

  by_tag : (o : Option Tag) → tag_named w ≡ o → ((tag : Tag) → IsWordFor tag w → ⊥) → tag_named w ≡ None
  by_tag None is none = is
  by_tag (Some tag) is none = absurd (none tag (word_for tag is))

-- ---- the rows that are written

same_row : (a b : EntryRow) → (let o : Option EntryRow = Some a in o ≡ Some b) → a ≡ b
same_row a b e = cc

written_one : (first : List ℕ) (row : EntryRow) (o : Option Tag) → tag_named first ≡ o → one_field o first ≡ Some row → IsWritten (first ∷ []) row
written_one first row (Some tags.Mask) is e = rw (← same_row _ row e) (inl (record { tag_word = first; for_tag = word_for first tags.Mask is; no_name = refl; are = refl }))
written_one first row (Some tags.Other) is e = rw (← same_row _ row e) (inl (record { tag_word = first; for_tag = word_for first tags.Other is; no_name = refl; are = refl }))
written_one first row (Some tags.User) is e = absurd cc
written_one first row (Some tags.Group) is e = absurd cc
written_one [] row None is e = absurd cc
written_one (b ∷ bs) row None is e = rw (← same_row _ row e) (inr (record { filled = omega arith; for_none = for_none (b ∷ bs) is; are = refl }))

written_two : (first second : List ℕ) (row : EntryRow) (o : Option Tag) → tag_named first ≡ o → two_fields o first second ≡ Some row → IsWritten (first ∷ second ∷ []) row
written_two first second row (Some tags.User) is e = rw (← same_row _ row e) (inl (record { tag_word = first; for_tag = word_for first tags.User is; are = refl }))
written_two first second row (Some tags.Group) is e = rw (← same_row _ row e) (record { tag_word = first; for_tag = word_for first tags.Group is; are = refl })
written_two first second row (Some tags.Mask) is e = rw (← same_row _ row e) (inl (record { tag_word = first; for_tag = word_for first tags.Mask is; no_name = refl; are = refl }))
written_two first second row (Some tags.Other) is e = rw (← same_row _ row e) (inl (record { tag_word = first; for_tag = word_for first tags.Other is; no_name = refl; are = refl }))
written_two [] second row None is e = absurd cc
written_two (b ∷ bs) second row None is e = rw (← same_row _ row e) (inr (record { filled = omega arith; for_none = for_none (b ∷ bs) is; are = refl }))

written_three : (first second third : List ℕ) (row : EntryRow) (o : Option Tag) → tag_named first ≡ o → three_fields o second third ≡ Some row → IsWritten (first ∷ second ∷ third ∷ []) row
written_three first second third row (Some tags.User) is e = rw (← same_row _ row e) (inl (record { tag_word = first; for_tag = word_for first tags.User is; are = refl }))
written_three first second third row (Some tags.Group) is e = rw (← same_row _ row e) (record { tag_word = first; for_tag = word_for first tags.Group is; are = refl })
written_three first [] third row (Some tags.Mask) is e =
    rw (← same_row _ row e) (inr (record { tag_word = first; for_tag = word_for first tags.Mask is; no_name = refl; perms = third; are_perms = refl; are = refl }))
written_three first (b ∷ bs) third row (Some tags.Mask) is e = absurd cc
written_three first [] third row (Some tags.Other) is e =
    rw (← same_row _ row e) (inr (record { tag_word = first; for_tag = word_for first tags.Other is; no_name = refl; perms = third; are_perms = refl; are = refl }))
written_three first (b ∷ bs) third row (Some tags.Other) is e = absurd cc
written_three first second third row None is e = absurd cc

is_written : (fields : List (List ℕ)) (row : EntryRow) → row_of fields ≡ Some row → IsWritten fields row
is_written [] row e = absurd cc
is_written (first ∷ []) row e = written_one first row (tag_named first) refl e
is_written (first ∷ second ∷ []) row e = written_two first second row (tag_named first) refl e
is_written (first ∷ second ∷ third ∷ []) row e = written_three first second third row (tag_named first) refl e
is_written (first ∷ second ∷ third ∷ fourth ∷ more) row e = absurd cc

abbrev row_with : Tag → List ℕ → Option (List ℕ) → EntryRow
row_with tag word perms = record { tag = tag; word = word; perms = perms }

user_row : (first word : List ℕ) (perms : Option (List ℕ)) → tag_named first ≡ Some tags.User → row_of (first ∷ word ∷ last perms) ≡ Some (row_with tags.User word perms)
user_row first word None is = rw is refl
user_row first word (Some perms) is = rw is refl

group_row : (first word : List ℕ) (perms : Option (List ℕ)) → tag_named first ≡ Some tags.Group → row_of (first ∷ word ∷ last perms) ≡ Some (row_with tags.Group word perms)
group_row first word None is = rw is refl
group_row first word (Some perms) is = rw is refl

name_row : (word : List ℕ) (perms : Option (List ℕ)) → 0 < length word → tag_named word ≡ None → row_of (word ∷ last perms) ≡ Some (row_with tags.User word perms)
name_row [] perms filled is = absurd (omega arith)
name_row (b ∷ bs) None filled is = rw is refl
name_row (b ∷ bs) (Some perms) filled is = rw is refl

mask_row : (first : List ℕ) (perms : Option (List ℕ)) → tag_named first ≡ Some tags.Mask → row_of (first ∷ last perms) ≡ Some (row_with tags.Mask [] perms)
mask_row first None is = rw is refl
mask_row first (Some perms) is = rw is refl

other_row : (first : List ℕ) (perms : Option (List ℕ)) → tag_named first ≡ Some tags.Other → row_of (first ∷ last perms) ≡ Some (row_with tags.Other [] perms)
other_row first None is = rw is refl
other_row first (Some perms) is = rw is refl

row_from : (fields : List (List ℕ)) (tag : Tag) (word : List ℕ) (perms : Option (List ℕ)) → WaysOf tag fields (row_with tag word perms) → row_of fields ≡ Some (row_with tag word perms)
row_from fields tags.User word perms written =
    elim written [
      | inl h ↦ ap row_of h.are ∙ user_row h.tag_word word perms (named_by h.tag_word tags.User h.for_tag)
      | inr h ↦ ap row_of h.are ∙ name_row word perms h.filled (by_tag word (tag_named word) refl h.for_none)
    ]
row_from fields tags.Group word perms h = ap row_of h.are ∙ group_row h.tag_word word perms (named_by h.tag_word tags.Group h.for_tag)
row_from fields tags.Mask word perms written =
    elim written [
      | inl h ↦ ap row_of h.are ∙ (mask_row h.tag_word perms (named_by h.tag_word tags.Mask h.for_tag) ∙ ap (λ (w : List ℕ). Some (row_with tags.Mask w perms)) (sym h.no_name))
      | inr h ↦
          let is = named_by h.tag_word tags.Mask h.for_tag in
          let row : row_of (h.tag_word ∷ [] ∷ h.perms ∷ []) ≡ Some (row_with tags.Mask [] (Some h.perms)) = rw is refl in
          ap row_of h.are ∙ (row ∙ λ i. Some (row_with tags.Mask (sym h.no_name i) (sym h.are_perms i)))
    ]
row_from fields tags.Other word perms written =
    elim written [
      | inl h ↦ ap row_of h.are ∙ (other_row h.tag_word perms (named_by h.tag_word tags.Other h.for_tag) ∙ ap (λ (w : List ℕ). Some (row_with tags.Other w perms)) (sym h.no_name))
      | inr h ↦
          let is = named_by h.tag_word tags.Other h.for_tag in
          let row : row_of (h.tag_word ∷ [] ∷ h.perms ∷ []) ≡ Some (row_with tags.Other [] (Some h.perms)) = rw is refl in
          ap row_of h.are ∙ (row ∙ λ i. Some (row_with tags.Other (sym h.no_name i) (sym h.are_perms i)))
    ]

-- ---- the list that it is of

record IsSplit (rules : Rules) (all : List (List ℕ)) (dflt : Bool) (row : EntryRow) : Type 0 where
  fields : List (List ℕ)
  of_list : IsOfList rules all dflt fields
  row_is : row_of fields ≡ Some row

default_word : (w : List ℕ) → IsDefaultWord w → is_default_word w ≡ true
default_word w is = elim is [ inl e ↦ ap is_default_word e | inr e ↦ ap is_default_word e ]

split_default : (rules : Rules) (first second : List ℕ) (more : List (List ℕ)) (row : EntryRow) → is_default_word first ≡ true
    → tagged rules (true, second ∷ more) ≡ Some row → IsSplit rules (first ∷ second ∷ more) true row
split_default rules first second more row is e =
    elim (cases_Bool rules.takes_default) [
      | inl takes ↦ record {
        fields = second ∷ more;
        of_list = record { taken = takes; word = first; for_default = one_of first (codes "d") (codes "default") is; more = omega arith; are = refl };
        row_is = rw takes at e;
      }
      | inr none ↦ let read_each = rw none at e in absurd cc
    ]

is_split : (rules : Rules) (all : List (List ℕ)) (row : EntryRow) → tagged rules (default_of all) ≡ Some row → IsSplit rules all (default_of all).0 row
is_split rules [] row e = absurd cc
is_split rules (first ∷ []) row e = record {
  fields = first ∷ [];
  of_list = record { are = refl; no_default = λ word more parts some is. let rest : [] ≡ more = cc in omega (arith, ap length rest) };
  row_is = e;
}
is_split rules (first ∷ second ∷ more) row e =
    elim (cases_Bool (is_default_word first)) [
      | inl is ↦ rw is (split_default rules first second more row is (rw is at e))
      | inr isnt ↦
          rw isnt (record {
            fields = first ∷ second ∷ more;
            of_list = record {
              are = refl;
              no_default = λ word others parts some is.
                  let same : first ≡ word = cc in
                  let both : true ≡ false = sym (default_word word is) ∙ (ap is_default_word (sym same) ∙ isnt) in
                  absurd cc;
            };
            row_is = rw isnt at e;
          })
    ]

no_default : (fields : List (List ℕ)) → ((word : List ℕ) (more : List (List ℕ)) → fields ≡ word ∷ more → 0 < length more → IsDefaultWord word → ⊥) → default_of fields ≡ (false, fields)
no_default [] none = refl
no_default (first ∷ []) none = refl
no_default (first ∷ second ∷ more) none =
    elim (cases_Bool (is_default_word first)) [
      | inl is ↦ absurd (none first (second ∷ more) refl (omega arith) (one_of first (codes "d") (codes "default") is))
      | inr isnt ↦ rw isnt refl
    ]

split_is : (rules : Rules) (all fields : List (List ℕ)) (dflt : Bool) → IsOfList rules all dflt fields → default_of all ≡ (dflt, fields)
split_is rules all fields true h = ap default_of h.are ∙ default_taken h.word fields h.more (default_word h.word h.for_default)
split_is rules all fields false h = ap default_of h.are ∙ no_default fields h.no_default

tagged_is : (rules : Rules) (all fields : List (List ℕ)) (dflt : Bool) → IsOfList rules all dflt fields → tagged rules (dflt, fields) ≡ row_of fields
tagged_is rules all fields true h = rw h.taken refl
tagged_is rules all fields false h = refl

-- ---- whom it is for

module _ (naming : Naming) where
  same_key : (a b : Key) → (let r : Result Key FaultKind = Ok a in r ≡ Ok b) → a ≡ b
  same_key a b e = cc

  for_user : (b : ℕ) (bs : List ℕ) (key : Key) (o : Option ℕ) → word_id naming.user_id (b ∷ bs) ≡ o → key_of naming tags.User (b ∷ bs) ≡ Ok key → IsFor naming key tags.User (b ∷ bs)
  for_user b bs key None is e = let read_each = rw is at e in absurd cc
  for_user b bs key (Some id) is e = let read_each = rw is at e in rw (← same_key _ key read_each) (refl, omega arith, is)

  for_group : (b : ℕ) (bs : List ℕ) (key : Key) (o : Option ℕ) → word_id naming.group_id (b ∷ bs) ≡ o → key_of naming tags.Group (b ∷ bs) ≡ Ok key → IsFor naming key tags.Group (b ∷ bs)
  for_group b bs key None is e = let read_each = rw is at e in absurd cc
  for_group b bs key (Some id) is e = let read_each = rw is at e in rw (← same_key _ key read_each) (refl, omega arith, is)

  is_for : (tag : Tag) (word : List ℕ) (key : Key) → key_of naming tag word ≡ Ok key → IsFor naming key tag word
  is_for tags.User [] key e = rw (← same_key _ key e) (refl, refl)
  is_for tags.User (b ∷ bs) key e = for_user b bs key (word_id naming.user_id (b ∷ bs)) refl e
  is_for tags.Group [] key e = rw (← same_key _ key e) (refl, refl)
  is_for tags.Group (b ∷ bs) key e = for_group b bs key (word_id naming.group_id (b ∷ bs)) refl e
  is_for tags.Mask word key e = rw (← same_key _ key e) refl
  is_for tags.Other word key e = rw (← same_key _ key e) refl

  key_from : (key : Key) (tag : Tag) (word : List ℕ) → IsFor naming key tag word → key_of naming tag word ≡ Ok key
  key_from keys.Owner tag word h = rw (h.0, h.1) refl
  key_from (keys.User id) tag [] h = absurd (omega (arith, h.1))
  key_from (keys.User id) tag (b ∷ bs) h = rw (h.0, h.2) refl
  key_from keys.OwningGroup tag word h = rw (h.0, h.1) refl
  key_from (keys.Group id) tag [] h = absurd (omega (arith, h.1))
  key_from (keys.Group id) tag (b ∷ bs) h = rw (h.0, h.2) refl
  key_from keys.Mask tag word h = rw h refl
  key_from keys.Other tag word h = rw h refl

-- ---- its permissions

letters_are : (takes_x : Bool) (field : List ℕ) (perm : PermSpec) → letters_of takes_x field ≡ Some perm → AreLetters takes_x field perm
letters_are takes_x field perm e =
    elim (cases_Bool (list_all (is_letter takes_x) field)) [
      | inl all ↦
          let read_each = rw all at e in
          let same : record { fixed = letter_set field; cond_x = holds 88 field } ≡ perm = cc in
          record {
            letters = all;
            read = ap (λ (p : PermSpec). p.fixed.read) (sym same);
            write = ap (λ (p : PermSpec). p.fixed.write) (sym same);
            execute = ap (λ (p : PermSpec). p.fixed.execute) (sym same);
            cond_x = ap (λ (p : PermSpec). p.cond_x) (sym same);
          }
      | inr other ↦ let read_each = rw other at e in absurd cc
    ]

digit_is : (b : ℕ) → is_octal 7 b ≡ true → (48 ≤ b) × (b ≤ 55)
digit_is b is = let parts = and_parts (leb 48 b) (leb b 55) is in (leb-true 48 b parts.0, leb-true b 55 parts.1)

grants : (takes_x : Bool) (field : List ℕ) (perm : PermSpec) → perms_of takes_x field ≡ Some perm → Grants takes_x field perm
grants takes_x [] perm e = inr (letters_are takes_x [] perm e)
grants takes_x (b ∷ c ∷ bs) perm e = inr (letters_are takes_x (b ∷ c ∷ bs) perm e)
grants takes_x (b ∷ []) perm e =
    elim (cases_Bool (is_octal 7 b)) [
      | inl is ↦
          let range = digit_is b is in
          let read_each = rw is at e in
          let same : record { fixed = numbered (b - 48); cond_x = false } ≡ perm = cc in
          let whole : b ≡ 48 + (b - 48) = omega arith in
          inl (record {
            digit = b - 48;
            small = omega arith;
            is = ap (λ (n : ℕ). n ∷ []) whole;
            fixed = ap (λ (p : PermSpec). p.fixed) (sym same);
            cond_x = ap (λ (p : PermSpec). p.cond_x) (sym same);
          })
      | inr isnt ↦ inr (letters_are takes_x (b ∷ []) perm (rw isnt at e))
    ]

no_letter : (takes_x : Bool) (b : ℕ) → is_octal 7 b ≡ true → is_letter takes_x b ≡ false
no_letter true b is =
    let range = digit_is b is in
    rw (ne_eqb b 114 (λ e. omega arith), ne_eqb b 119 (λ e. omega arith), ne_eqb b 120 (λ e. omega arith), ne_eqb b 45 (λ e. omega arith), ne_eqb b 88 (λ e. omega arith)) refl
no_letter false b is =
    let range = digit_is b is in
    rw (ne_eqb b 114 (λ e. omega arith), ne_eqb b 119 (λ e. omega arith), ne_eqb b 120 (λ e. omega arith), ne_eqb b 45 (λ e. omega arith)) refl

letters_from : (takes_x : Bool) (field : List ℕ) (perm : PermSpec) → AreLetters takes_x field perm → letters_of takes_x field ≡ Some perm
letters_from takes_x field perm h = rw h.letters (λ i. Some (record { fixed = record { read = sym h.read i; write = sym h.write i; execute = sym h.execute i }; cond_x = sym h.cond_x i }))

digit_from : (takes_x : Bool) (digit : ℕ) (perm : PermSpec) → digit < 8 → perm.fixed ≡ numbered digit → perm.cond_x ≡ false → perms_of takes_x ((48 + digit) ∷ []) ≡ Some perm
digit_from takes_x digit perm small fixed cond_x =
    let is : is_octal 7 (48 + digit) ≡ true = and_from (leb 48 (48 + digit)) (leb (48 + digit) 55) (le-leb 48 (48 + digit) (omega arith)) (le-leb (48 + digit) 55 (omega arith)) in
    let value : 48 + digit - 48 ≡ digit = omega arith in
    rw (is, value) (λ i. Some (record { fixed = sym fixed i; cond_x = sym cond_x i }))

by_letters : (takes_x : Bool) (field : List ℕ) (perm : PermSpec) → AreLetters takes_x field perm → perms_of takes_x field ≡ Some perm
by_letters takes_x [] perm h = letters_from takes_x [] perm h
by_letters takes_x (b ∷ c ∷ bs) perm h = letters_from takes_x (b ∷ c ∷ bs) perm h
by_letters takes_x (b ∷ []) perm h =
    elim (cases_Bool (is_octal 7 b)) [
      | inl is ↦
          let letter = (and_parts (is_letter takes_x b) true h.letters).0 in
          let both : true ≡ false = sym letter ∙ no_letter takes_x b is in
          absurd cc
      | inr isnt ↦ rw isnt (letters_from takes_x (b ∷ []) perm h)
    ]

perms_from : (takes_x : Bool) (field : List ℕ) (perm : PermSpec) → Grants takes_x field perm → perms_of takes_x field ≡ Some perm
perms_from takes_x field perm h =
    elim h [
      | inl digit ↦ ap (perms_of takes_x) digit.is ∙ digit_from takes_x digit.digit perm digit.small digit.fixed digit.cond_x
      | inr letters ↦ by_letters takes_x field perm letters
    ]

abbrev perms_by : Bool → Bool → Option (List ℕ) → Result (Option PermSpec) FaultKind
perms_by takes_perms takes_x field = if takes_perms then given_perms takes_x field else no_perms field

given : (takes_x : Bool) (field : List ℕ) (perm : Option PermSpec) (o : Option PermSpec) → perms_of takes_x field ≡ o
    → given_perms takes_x (Some field) ≡ Ok perm → HasPerms true takes_x (Some field) perm
given takes_x field perm None is e = let read_each = rw is at e in absurd cc
given takes_x field None (Some p) is e = let read_each = rw is at e in absurd cc
given takes_x field (Some q) (Some p) is e =
    let read_each = rw is at e in
    let same : p ≡ q = cc in
    grants takes_x field q (is ∙ ap (λ (x : PermSpec). Some x) same)

has_perms : (takes_perms takes_x : Bool) (field : Option (List ℕ)) (perm : Option PermSpec) → perms_by takes_perms takes_x field ≡ Ok perm → HasPerms takes_perms takes_x field perm
has_perms true takes_x None perm e = absurd cc
has_perms true takes_x (Some field) perm e = given takes_x field perm (perms_of takes_x field) refl e
has_perms false takes_x None None e = inl refl
has_perms false takes_x (Some []) None e = inr refl
has_perms false takes_x (Some (b ∷ bs)) perm e = absurd cc
has_perms false takes_x None (Some p) e = absurd cc
has_perms false takes_x (Some []) (Some p) e = absurd cc

perms_had : (takes_perms takes_x : Bool) (field : Option (List ℕ)) (perm : Option PermSpec) → HasPerms takes_perms takes_x field perm → perms_by takes_perms takes_x field ≡ Ok perm
perms_had true takes_x None perm h = absurd h
perms_had true takes_x (Some field) None h = absurd h
perms_had true takes_x (Some field) (Some perm) h = rw (perms_from takes_x field perm h) refl
perms_had false takes_x field None h = elim h [ inl e ↦ ap no_perms e | inr e ↦ ap no_perms e ]
perms_had false takes_x field (Some perm) h = absurd h

-- ---- base entries

base_allowed : (rules : Rules) (key allowed : Key) → allowed_key rules key ≡ Ok allowed → (key ≡ allowed) × (rules.takes_perms ≡ false → is_base key ≡ false)
base_allowed rules key allowed e =
    elim (cases_Bool (not rules.takes_perms && is_base key)) [
      | inl is ↦ let read_each = rw is at e in absurd cc
      | inr isnt ↦
          let read_each = rw isnt at e in
          (cc, λ none. rw none at isnt)
    ]

allowed_from : (rules : Rules) (key : Key) → (rules.takes_perms ≡ false → is_base key ≡ false) → allowed_key rules key ≡ Ok key
allowed_from rules key no_base =
    elim (cases_Bool rules.takes_perms) [
      | inl takes ↦ rw takes refl
      | inr none ↦ rw (none, no_base none) refl
    ]

-- ---- an entry

record IsBound {A B : Type 0} (r : Result A FaultKind) (f : A → Result B FaultKind) (y : B) : Type 0 where
  value : A
  is : r ≡ Ok value
  after : f value ≡ Ok y

bound : {A B : Type 0} (r : Result A FaultKind) (f : A → Result B FaultKind) (y : B) → (r >>= f) ≡ Ok y → IsBound r f y
bound (Ok x) f y e = record { value = x; is = refl; after = e }
bound (Err k) f y e = absurd cc

module _ (naming : Naming) (rules : Rules) (at : ℕ) (entry : List ℕ) (spec : Spec) where
  abbrev all : List (List ℕ)
  all = entry_fields entry

  abbrev spec_with : Option PermSpec → Key → Spec
  spec_with perm key = record { at = at; dflt = (default_of all).0; key = key; perm = perm }

  means : entry_of naming rules at entry ≡ Ok spec → Means naming rules at entry spec
  means e =
      let tag = bound (ok_or (tagged rules (default_of all)) kinds.BadTag)
      (λ row. wanted_perms rules row.perms >>= (λ perm. key_of naming row.tag row.word >>= (λ key. allowed_key rules key >>= (λ allowed. Ok (spec_with perm allowed))))) spec e in
      let row = tag.value in
      let perms = bound (wanted_perms rules row.perms) (λ perm. key_of naming row.tag row.word >>= (λ key. allowed_key rules key >>= (λ allowed. Ok (spec_with perm allowed)))) spec tag.after in
      let key = bound (key_of naming row.tag row.word) (λ key. allowed_key rules key >>= (λ allowed. Ok (spec_with perms.value allowed))) spec perms.after in
      let base = bound (allowed_key rules key.value) (λ allowed. Ok (spec_with perms.value allowed)) spec key.after in
      let same : spec_with perms.value base.value ≡ spec = cc (base.after) in
      let allowed = base_allowed rules key.value base.value base.is in
      let split = is_split rules all row (ok_or-some (tagged rules (default_of all)) kinds.BadTag row tag.is) in
      rw (← same) (record {
        place = refl {a = at};
        fields = split.fields;
        of_list = split.of_list;
        row = row;
        written = is_written split.fields row split.row_is;
        is_for = rw (← allowed.0) (is_for naming row.tag row.word key.value key.is);
        perms = has_perms rules.takes_perms rules.takes_x row.perms perms.value perms.is;
        no_base = rw (← allowed.0) allowed.1;
      })

  state : Means naming rules at entry spec → entry_of naming rules at entry ≡ Ok spec
  state h =
      let split = split_is rules all h.fields spec.dflt h.of_list in
      let row : tagged rules (spec.dflt, h.fields) ≡ Some h.row = tagged_is rules all h.fields spec.dflt h.of_list ∙ row_from h.fields h.row.tag h.row.word h.row.perms h.written in
      let perms = perms_had rules.takes_perms rules.takes_x h.row.perms spec.perm h.perms in
      let key = key_from naming spec.key h.row.tag h.row.word h.is_for in
      let base = allowed_from rules spec.key h.no_base in
      rw (split, row, perms, key, base) (λ i. Ok (record { at = sym h.place i; dflt = spec.dflt; key = spec.key; perm = spec.perm }))

  pub means_spec : (entry_of naming rules at entry ≡ Ok spec) ↔ Means naming rules at entry spec
  means_spec = (means, state)
