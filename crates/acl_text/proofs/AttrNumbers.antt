-- What is known of an entry that was read of eight bytes.
use Rattle.std.proofs.Common.{◌≡◌, ℕ, ◌≤◌, false, cond, ltb, eqb, List, length, drop, Option, Some, None, refl, sym, ap, ◌∙◌, arith, inl, inr}
use Rattle.std.specs.Prelude.{◌||◌, not, option_map, option_and_then}
use Rattle.std.specs.FinMap as maps
use Rattle.std.proofs.lemmas.Bool.{cases_Bool, or_parts, ltb-true, ltb-false, eqb-true, not-false}
use Rattle.acl_names.proofs.Basics.{none_is_not_some, some_eq}
use Rattle.acl_entry.specs.declared.entry.Entry.{Entry}
use Rattle.acl_entry.specs.declared.entry.Key.{Key}
use Rattle.acl_entry.specs.declared.entry.Key.TheVariants.{Owner, User, OwningGroup, Group, Mask, Other}
use Rattle.acl_entry.specs.Ids.{nobody}
use Rattle.acl_entry.specs.Keys.{named_id}
use Rattle.acl_entry.specs.Lists.{most_entries}
use Rattle.acl_entry.specs.Perms.{Perms, number, numbered, number-numbered}
use Rattle.byteorder.specs.Endian.{little_number}
use Rattle.acl_text.specs.declared.decode.Reading.{Reading}
use Rattle.acl_text.specs.Attr.{tag_of, id_from, key_of, perm_of, with_key, with_entry}
use Rattle.acl_text.specs.Encoded.{IsIdOf, Encodes}

-- ---- the parts of an entry

perm_is : (n : ℕ) (p : Perms) → perm_of n ≡ Some p → n ≡ number p
perm_is n p e =
    elim (cases_Bool (ltb 7 n)) [
      | inl large ↦ absurd (none_is_not_some p (sym (ap (λ b. cond b None (Some (numbered n))) large) ∙ e))
      | inr small ↦
          let same : numbered n ≡ p = some_eq _ p (sym (ap (λ b. cond b None (Some (numbered n))) small) ∙ e) in
          sym (ap number (sym same) ∙ number-numbered n (omega (arith, ltb-false 7 n small)))
    ]

-- a key that a tag and an id give
record IsKeyOf (tag id : ℕ) (k : Key) : Type 0 where
  tag_is : tag ≡ tag_of k
  id_is : IsIdOf (named_id k) id

named : (make : ℕ → Key) (tag id : ℕ) (k : Key) → ((n : ℕ) → tag_of (make n) ≡ tag) → ((n : ℕ) → named_id (make n) ≡ Some n) → option_map make (id_from id) ≡ Some k → IsKeyOf tag id k
named make tag id k tags ids e =
    elim (cases_Bool (ltb id nobody)) [
      | inl small ↦
          let same : make id ≡ k = some_eq _ k (sym (ap (λ b. option_map make (cond b (Some id) None)) small) ∙ e) in
          record {
            tag_is = sym (tags id) ∙ ap tag_of same;
            id_is = rw (← same) (rw (ids id) (refl, ltb-true id nobody small));
          }
      | inr large ↦ absurd (none_is_not_some k (sym (ap (λ b. option_map make (cond b (Some id) None)) large) ∙ e))
    ]

unnamed : (made : Key) (tag id : ℕ) (k : Key) → tag_of made ≡ tag → named_id made ≡ None → Some made ≡ Some k → IsKeyOf tag id k
unnamed made tag id k tags ids e =
    let same : made ≡ k = some_eq made k e in
    record { tag_is = sym tags ∙ ap tag_of same; id_is = rw (← same) (rw ids tt) }

key_is : (tag id : ℕ) (k : Key) → key_of tag id ≡ Some k → IsKeyOf tag id k
key_is tag id k e =
    elim (cases_Bool (eqb tag 1)) [
      | inl owner ↦ unnamed Owner tag id k (sym (eqb-true tag 1 owner)) refl (rw owner at e)
      | inr a ↦
          let e1 = rw a at e in
          elim (cases_Bool (eqb tag 2)) [
            | inl user ↦ named User tag id k (λ n. sym (eqb-true tag 2 user)) (λ n. refl) (rw user at e1)
            | inr b ↦
                let e2 = rw b at e1 in
                elim (cases_Bool (eqb tag 4)) [
                  | inl owning ↦ unnamed OwningGroup tag id k (sym (eqb-true tag 4 owning)) refl (rw owning at e2)
                  | inr d ↦
                      let e3 = rw d at e2 in
                      elim (cases_Bool (eqb tag 8)) [
                        | inl group ↦ named Group tag id k (λ n. sym (eqb-true tag 8 group)) (λ n. refl) (rw group at e3)
                        | inr f ↦
                            let e4 = rw f at e3 in
                            elim (cases_Bool (eqb tag 16)) [
                              | inl mask ↦ unnamed Mask tag id k (sym (eqb-true tag 16 mask)) refl (rw mask at e4)
                              | inr g ↦
                                  let e5 = rw g at e4 in
                                  elim (cases_Bool (eqb tag 32)) [
                                    | inl other ↦ unnamed Other tag id k (sym (eqb-true tag 32 other)) refl (rw other at e5)
                                    | inr h ↦ absurd (none_is_not_some k (rw h at e5))
                                  ]
                            ]
                      ]
                ]
          ]
    ]

-- ---- an entry

-- the entry that eight bytes are, and the state of the reading after it
pub record IsRead (at : ℕ) (reading new : Reading) (bytes : List ℕ) : Type 0 where
  pub entry : Entry
  pub encoded : Encodes bytes entry
  pub few : at ≤ most_entries
  pub rises : reading.last_tag ≤ tag_of entry.key
  pub apart : maps.contains_key reading.entries entry.key ≡ false
  pub is : new ≡ record { entries = maps.insert reading.entries entry.key entry.perm; last_tag = tag_of entry.key }

module _ (at : ℕ) (reading new : Reading) (bytes : List ℕ) where
  abbrev tag : ℕ
  tag = little_number 2 bytes

  abbrev perm : ℕ
  perm = little_number 2 (drop 2 bytes)

  abbrev id : ℕ
  id = little_number 4 (drop 4 bytes)

  by_key : (p : Perms) (k : Key) → length bytes ≡ 8 → at ≤ most_entries → reading.last_tag ≤ tag → perm_of perm ≡ Some p → key_of tag id ≡ Some k
      → with_key reading tag p k ≡ Some new → IsRead at reading new bytes
  by_key p k eight few rises is_perm is_key e =
      let parts = key_is tag id k is_key in
      elim (cases_Bool (maps.contains_key reading.entries k)) [
        | inl there ↦ absurd (none_is_not_some new (rw there at e))
        | inr apart ↦ record {
          entry = record { key = k; perm = p };
          encoded = record { eight = eight; tag = parts.tag_is; perm = perm_is perm p is_perm; id = parts.id_is };
          few = few;
          rises = omega (arith, rises, parts.tag_is);
          apart = apart;
          is =
              let made : Reading = record { entries = maps.insert reading.entries k p; last_tag = tag } in
              sym (some_eq made new (rw apart at e)) ∙ ap (λ (t : ℕ). record { entries = maps.insert reading.entries k p; last_tag = t }) parts.tag_is;
        }
      ]

  by_numbers : length bytes ≡ 8 → at ≤ most_entries → reading.last_tag ≤ tag → (op : Option Perms) → perm_of perm ≡ op → (ok : Option Key) → key_of tag id ≡ ok
      → option_and_then (λ p. option_and_then (with_key reading tag p) ok) op ≡ Some new → IsRead at reading new bytes
  by_numbers eight few rises None is_perm ok is_key e = absurd (none_is_not_some new e)
  by_numbers eight few rises (Some p) is_perm None is_key e = absurd (none_is_not_some new e)
  by_numbers eight few rises (Some p) is_perm (Some k) is_key e = by_key p k eight few rises is_perm is_key e

  pub is_read : with_entry at reading bytes ≡ Some new → IsRead at reading new bytes
  is_read e =
      elim (cases_Bool (ltb most_entries at || not (eqb (length bytes) 8))) [
        | inl bad ↦ absurd (none_is_not_some new (rw bad at e))
        | inr fine ↦
            let parts = or_parts (ltb most_entries at) (not (eqb (length bytes) 8)) fine in
            let few : at ≤ most_entries = ltb-false most_entries at parts.0 in
            let eight : length bytes ≡ 8 = eqb-true (length bytes) 8 (not-false (eqb (length bytes) 8) parts.1) in
            elim (cases_Bool (ltb tag reading.last_tag)) [
              | inl falls ↦ absurd (none_is_not_some new (rw falls at (rw fine at e)))
              | inr rises ↦ by_numbers eight few (ltb-false tag reading.last_tag rises) (perm_of perm) refl (key_of tag id) refl (rw rises at (rw fine at e))
            ]
      ]
