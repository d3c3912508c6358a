-- An attribute is read as a list exactly where its bytes are that list's entries.
use Rattle.std.proofs.Common.{◌≡◌, ℕ, zero, suc, ◌+◌, ◌*◌, ◌/◌, ◌≤◌, true, false, cond, eqb, List, [], ◌∷◌, ◌++◌, length, take, drop, Option, Some, None}
use Rattle.std.proofs.Common.{is_some, Result, Ok, Err, refl, sym, ap, subst, ◌∙◌, arith, inl, inr, append_assoc, length-append, length-drop}
use Rattle.std.specs.Prelude.{◌⊎◌, ◌||◌, not, option_map, option_and_then, ok_or}
use Rattle.std.specs.List.{flat_map}
use Rattle.std.specs.Simd.{first_chunks}
use Rattle.std.specs.FinMap as maps
use Rattle.std.proofs.lemmas.Bool.{cases_Bool, lt-ltb, le-ltb, eq-eqb}
use Rattle.std.proofs.lemmas.List.{append-nil, take-append-drop}
use Rattle.std.proofs.Math.Seq.{take-append_seam, drop-append_seam}
use Rattle.acl_names.proofs.Basics.{is_none, cases_Result}
use Rattle.acl_entry.specs.declared.entry.Entry.{Entry}
use Rattle.acl_entry.specs.declared.entry.ListFault.{ListFault}
use Rattle.acl_entry.specs.declared.entry.Key.{Key}
use Rattle.acl_entry.specs.declared.entry.Key.TheVariants.{Owner, User, OwningGroup, Group, Mask, Other}
use Rattle.acl_entry.specs.Ids.{nobody}
use Rattle.acl_entry.specs.Keys.{key_cmp, named_id}
use Rattle.acl_entry.specs.Lists.{KeyMap, IsValid, keys, pairs, is_among, repeated_from, map_of, entries, fault, most_entries}
use Rattle.acl_entry.specs.Perms.{number}
use Rattle.acl_entry.proofs.Maps.{get-map_of}
use Rattle.acl_entry.proofs.Faults.{is_among-keys, keys-append}
use Rattle.acl_text.specs.declared.fault.FaultKind.{FaultKind}
use Rattle.acl_text.specs.declared.fault.FaultKind.TheVariants.{BadAttr}
use Rattle.acl_text.specs.declared.fault.TextFault.{TextFault}
use Rattle.acl_text.specs.InTurn.{at_place, read_each_from, read_each, IsFirstFault}
use Rattle.acl_text.proofs.Judging.{fault_is_first}
use Rattle.byteorder.specs.Endian.{little_number}
use Rattle.acl_text.specs.declared.decode.Reading.{Reading}
use Rattle.acl_text.specs.Attr.{tag_of, id_from, key_of, perm_of, start, with_key, with_numbers, with_entry, one_entry, entries_in, has_head, list_from, list_of, list_in, attr_of, bad_attr}
use Rattle.acl_text.specs.Encoded.{IsIdOf, Encodes, EncodeEach, TagsRise, Read, IsAttribute, IsOfAnEntry, IsFaultyAt}
use Rattle.acl_text.proofs.Chunks.{entries_step}
use Rattle.acl_text.proofs.AttrNumbers.{is_read}
use Rattle.acl_text.proofs.EntryRoundTrips.{perm_again, one_more, lasting}

cases_Option : {A : Type 0} (o : Option A) → ((x : A) × (o ≡ Some x)) ⊎ (o ≡ None)
cases_Option (Some x) = inl (x, refl)
cases_Option None = inr refl

-- the pieces and the bytes
abbrev together : List (List ℕ) → List ℕ
together ps = flat_map (λ p. p) ps

-- ---- cuts

-- eights are cut out of the bytes in their order
chunks_together : (n : ℕ) (bytes : List ℕ) → length bytes ≤ 8 * n → together (first_chunks 8 n bytes) ≡ bytes
chunks_together zero [] few = refl
chunks_together zero (b ∷ bs) few = absurd (omega arith)
chunks_together (suc n) bytes few = ap (λ (rest : List ℕ). take 8 bytes ++ rest) (chunks_together n (drop 8 bytes) (omega (arith, length-drop 8 bytes))) ∙ take-append-drop 8 bytes

all_together : (bytes : List ℕ) → together (entries_in bytes) ≡ bytes
all_together bytes = chunks_together ((length bytes + 7) / 8) bytes (omega arith)

one_piece : (piece rest : List ℕ) → length piece ≡ 8 → entries_in (piece ++ rest) ≡ piece ∷ entries_in rest
one_piece piece rest eight =
    entries_step (piece ++ rest) (omega (arith, eight, length-append piece rest))
    ∙ (ap (λ (front : List ℕ). front ∷ entries_in (drop 8 (piece ++ rest))) (ap (λ n. take n (piece ++ rest)) (sym eight) ∙ take-append_seam piece rest)
    ∙ ap (λ (after_it : List ℕ). piece ∷ entries_in after_it) (ap (λ n. drop n (piece ++ rest)) (sym eight) ∙ drop-append_seam piece rest))

pieces_again : (pieces : List (List ℕ)) (es : List Entry) → EncodeEach pieces es → entries_in (together pieces) ≡ pieces
pieces_again [] es encoded = refl
pieces_again (p ∷ ps) [] encoded = absurd encoded
pieces_again (p ∷ ps) (e ∷ es) encoded = one_piece p (together ps) encoded.0.eight ∙ ap (λ (qs : List (List ℕ)). p ∷ qs) (pieces_again ps es encoded.1)

-- ---- what is read is contained

pub record AreRead (at tag : ℕ) (done : List Entry) (pieces : List (List ℕ)) (new : Reading) : Type 0 where
  pub es : List Entry
  pub encoded : EncodeEach pieces es
  pub few : at + length es ≤ 4097
  pub tags : TagsRise tag es
  pub once : (n : ℕ) → repeated_from (keys done) n (keys es) ≡ None
  pub list : new.entries ≡ map_of (done ++ es)

abbrev pub reading_of : ℕ → List Entry → Reading
reading_of tag done = record { entries = map_of done; last_tag = tag }

not_found : (done : List Entry) (k : Key) → maps.contains_key (map_of done) k ≡ false → maps.find key_cmp k (pairs done) ≡ None
not_found done k apart = is_none (maps.find key_cmp k (pairs done)) (sym (ap is_some (get-map_of done k)) ∙ apart)

not_among : (done : List Entry) (k : Key) → maps.contains_key (map_of done) k ≡ false → is_among k (keys done) ≡ false
not_among done k apart = is_among-keys k done ∙ (sym (ap is_some (get-map_of done k)) ∙ apart)

later_once : (n : ℕ) (done : List Entry) (e : Entry) (es : List Entry) → is_among e.key (keys done) ≡ false
    → repeated_from (keys done) n (keys (e ∷ es)) ≡ repeated_from (keys (done ++ e ∷ [])) (n + 1) (keys es)
later_once n done e es apart =
    ap (λ b. cond b (Some n) (repeated_from (keys done ++ e.key ∷ []) (n + 1) (keys es))) apart
    ∙ ap (λ (ks : List Key). repeated_from ks (n + 1) (keys es)) (sym (keys-append done (e ∷ [])))

pub read_encoded : (at tag : ℕ) (done : List Entry) (pieces : List (List ℕ)) (new : Reading) → at ≤ 4097
    → read_each_from one_entry at (reading_of tag done) pieces ≡ Ok new → AreRead at tag done pieces new
read_encoded at tag done [] new fits e =
    let same : reading_of tag done ≡ new = cc in
    record { es = []; encoded = tt; few = omega arith; tags = tt; once = λ n. refl; list = ap (λ (r : Reading). r.entries) (sym same) ∙ ap map_of (sym (append-nil done)) }
read_encoded at tag done (p ∷ ps) new fits e =
    elim (cases_Option (with_entry at (reading_of tag done) p)) [
      | inr none ↦ absurd (cc (ap (λ o. at_place at (ok_or o BadAttr) (λ more. read_each_from one_entry (at + 1) more ps)) none))
      | inl mid ↦
          let r = is_read at (reading_of tag done) mid.0 p mid.1 in
          let next : mid.0 ≡ reading_of (tag_of r.entry.key) (done ++ r.entry ∷ []) = r.is
          ∙ ap (λ m. record { entries = m; last_tag = tag_of r.entry.key }) (one_more done r.entry (not_found done r.entry.key r.apart)) in
          let rest : read_each_from one_entry (at + 1) mid.0 ps ≡ Ok new = sym (ap (λ o. at_place at (ok_or o BadAttr) (λ more. read_each_from one_entry (at + 1) more ps)) mid.1) ∙ e in
          let later = read_encoded (at + 1) (tag_of r.entry.key) (done ++ r.entry ∷ []) ps new (omega (arith, r.few))
          (sym (ap (λ (x : Reading). read_each_from one_entry (at + 1) x ps) next) ∙ rest) in
          record {
            es = r.entry ∷ later.es;
            encoded = (r.encoded, later.encoded);
            few = omega (arith, later.few);
            tags = (r.rises, later.tags);
            once = λ n. later_once n done r.entry later.es (not_among done r.entry.key r.apart) ∙ later.once (n + 1);
            list = later.list ∙ ap map_of (append_assoc done (r.entry ∷ []) later.es);
          }
    ]

-- ---- what is contained is read

key_decoded : (k : Key) (n : ℕ) → IsIdOf (named_id k) n → key_of (tag_of k) n ≡ Some k
key_decoded Owner n is = refl
key_decoded (User id) n is = ap (λ (m : ℕ). option_map User (id_from m)) is.0 ∙ ap (λ b. option_map User (cond b (Some id) None)) (lt-ltb id nobody is.1)
key_decoded OwningGroup n is = refl
key_decoded (Group id) n is = ap (λ (m : ℕ). option_map Group (id_from m)) is.0 ∙ ap (λ b. option_map Group (cond b (Some id) None)) (lt-ltb id nobody is.1)
key_decoded Mask n is = refl
key_decoded Other n is = refl

module _ (at : ℕ) (reading : Reading) (piece : List ℕ) (e : Entry) where
  abbrev after : Reading
  after = record { entries = maps.insert reading.entries e.key e.perm; last_tag = tag_of e.key }

  encoded_numbers : (tag perm id : ℕ) → tag ≡ tag_of e.key → perm ≡ number e.perm → IsIdOf (named_id e.key) id → reading.last_tag ≤ tag_of e.key → maps.contains_key reading.entries e.key ≡ false
      → with_numbers reading tag perm id ≡ Some after
  encoded_numbers tag perm id is_tag is_perm is_id rises apart =
      let more = with_key reading (tag_of e.key) in
      ap (λ t. with_numbers reading t perm id) is_tag
      ∙ ap (λ b. cond b None (option_and_then (λ p. option_and_then (more p) (key_of (tag_of e.key) id)) (perm_of perm))) (le-ltb (tag_of e.key) reading.last_tag rises)
      ∙ ap (λ o. option_and_then (λ p. option_and_then (more p) (key_of (tag_of e.key) id)) o) (ap perm_of is_perm ∙ perm_again e.perm.read e.perm.write e.perm.execute)
      ∙ ap (λ o. option_and_then (more e.perm) o) (key_decoded e.key id is_id)
      ∙ ap (λ b. cond b None (Some after)) apart

  encoded_entry : Encodes piece e → at ≤ most_entries → reading.last_tag ≤ tag_of e.key → maps.contains_key reading.entries e.key ≡ false → one_entry at reading piece ≡ Ok after
  encoded_entry encoded few rises apart =
      let numbers = with_numbers reading (little_number 2 piece) (little_number 2 (drop 2 piece)) (little_number 4 (drop 4 piece)) in
      ap (λ o. ok_or o BadAttr) (
      ap (λ b. cond (b || not (eqb (length piece) 8)) None numbers) (le-ltb most_entries at few)
      ∙ ap (λ b. cond (not b) None numbers) (eq-eqb (length piece) 8 encoded.eight)
      ∙ encoded_numbers (little_number 2 piece) (little_number 2 (drop 2 piece)) (little_number 4 (drop 4 piece)) encoded.tag encoded.perm encoded.id rises apart
      )

apart_from : (n : ℕ) (done : List Entry) (e : Entry) (es : List Entry) → repeated_from (keys done) n (keys (e ∷ es)) ≡ None → is_among e.key (keys done) ≡ false
apart_from n done e es once =
    elim (cases_Bool (is_among e.key (keys done))) [
      | inl there ↦ absurd (cc (rw there at once))
      | inr apart ↦ apart
    ]

pub encoded_read : (at tag n : ℕ) (done : List Entry) (pieces : List (List ℕ)) (es : List Entry) → at + length es ≤ 4097 → EncodeEach pieces es
    → TagsRise tag es → repeated_from (keys done) n (keys es) ≡ None
    → read_each_from one_entry at (reading_of tag done) pieces ≡ Ok (reading_of (lasting tag es) (done ++ es))
encoded_read at tag n done [] [] room encoded rise once = ap (λ (l : List Entry). Ok (reading_of tag l)) (sym (append-nil done))
encoded_read at tag n done [] (e ∷ es) room encoded rise once = absurd encoded
encoded_read at tag n done (p ∷ ps) [] room encoded rise once = absurd encoded
encoded_read at tag n done (p ∷ ps) (e ∷ es) room encoded rise once =
    let apart = apart_from n done e es once in
    let none : is_some (maps.find key_cmp e.key (pairs done)) ≡ false = sym (is_among-keys e.key done) ∙ apart in
    let new : maps.contains_key (map_of done) e.key ≡ false = ap is_some (get-map_of done e.key) ∙ none in
    ap (λ j. at_place at j (λ more. read_each_from one_entry (at + 1) more ps)) (encoded_entry at (reading_of tag done) p e encoded.0 (omega arith) rise.0 new)
    ∙ ap (λ m. read_each_from one_entry (at + 1) (record { entries = m; last_tag = tag_of e.key }) ps) (one_more done e (is_none (maps.find key_cmp e.key (pairs done)) none))
    ∙ encoded_read (at + 1) (tag_of e.key) (n + 1) (done ++ e ∷ []) ps es (omega arith) encoded.1 rise.1 (sym (later_once n done e es apart) ∙ once)
    ∙ ap (λ (l : List Entry). Ok (reading_of (lasting (tag_of e.key) es) l)) (append_assoc done (e ∷ []) es)

-- ---- attributes

abbrev whole_of : ℕ → KeyMap → Result KeyMap TextFault
whole_of last m = list_from last m (fault (entries m))

from_whole : (last : ℕ) (m acl : KeyMap) (f : Option ListFault) → fault (entries m) ≡ f → list_from last m f ≡ Ok acl → (m ≡ acl) × IsValid acl
from_whole last m acl None valid e = let same : m ≡ acl = cc in (same, subst IsValid same valid)
from_whole last m acl (Some fault) valid e = absurd cc

-- the entries that were read from the first on
all_read : (pieces : List (List ℕ)) (new : Reading) → read_each one_entry start pieces ≡ Ok new → AreRead 1 0 [] pieces new
all_read pieces new e = read_encoded 1 0 [] pieces new (omega arith) e

is_read_of : (pieces : List (List ℕ)) (new : Reading) (r : AreRead 1 0 [] pieces new) → Read pieces r.es
is_read_of pieces new r = record { encoded = r.encoded; few = omega (arith, r.few); tags = r.tags; once = r.once 1 }

read_of : (pieces : List (List ℕ)) (es : List Entry) → Read pieces es → read_each one_entry start pieces ≡ Ok (reading_of (lasting 0 es) es)
read_of pieces es r = encoded_read 1 0 1 [] pieces es (omega (arith, r.few)) r.encoded r.tags r.once

pub attribute_of : (bytes : List ℕ) (acl : KeyMap) → attr_of bytes ≡ Ok acl → IsAttribute bytes acl
attribute_of bytes acl e =
    elim (cases_Bool (has_head bytes)) [
      | inr no_head ↦ absurd (cc (rw no_head at e))
      | inl head ↦
          let whole : list_in (drop 4 bytes) ≡ Ok acl = rw head at e in
          let pieces = entries_in (drop 4 bytes) in
          let last = length pieces in
          elim (cases_Result (read_each one_entry start pieces)) [
            | inr bad ↦ absurd (cc (sym (ap (list_of last) bad.1) ∙ whole))
            | inl fine ↦
                let r = all_read pieces fine.0 fine.1 in
                let valid = from_whole last fine.0.entries acl (fault (entries fine.0.entries)) refl (sym (ap (list_of last) fine.1) ∙ whole) in
                record {
                  head = head;
                  pieces = pieces;
                  entries = r.es;
                  parts = sym (all_together (drop 4 bytes));
                  read = is_read_of pieces fine.0 r;
                  list = sym r.list ∙ valid.0;
                  valid = valid.1;
                }
          ]
    ]

pub of_attribute : (bytes : List ℕ) (acl : KeyMap) → IsAttribute bytes acl → attr_of bytes ≡ Ok acl
of_attribute bytes acl is =
    let cut : entries_in (drop 4 bytes) ≡ is.pieces = ap entries_in is.parts ∙ pieces_again is.pieces is.entries is.read.encoded in
    let last = length (entries_in (drop 4 bytes)) in
    let whole : list_in (drop 4 bytes) ≡ whole_of last (map_of is.entries) = ap (λ (ps : List (List ℕ)). list_of last (read_each one_entry start ps)) cut
    ∙ ap (list_of last) (read_of is.pieces is.entries is.read) in
    ap (λ b. cond b (list_in (drop 4 bytes)) (Err (bad_attr 0))) is.head
    ∙ (whole ∙ (ap (λ m. whole_of last m) is.list ∙ ap (list_from last acl) is.valid))

-- ---- faults

last_encodes : (before : List (List ℕ)) (piece : List ℕ) (es : List Entry) (e : Entry) → EncodeEach before es → EncodeEach (before ++ piece ∷ []) (es ++ e ∷ []) → Encodes piece e
last_encodes [] piece [] e encoded all = all.0
last_encodes [] piece (f ∷ es) e encoded all = absurd encoded
last_encodes (p ∷ ps) piece [] e encoded all = absurd encoded
last_encodes (p ∷ ps) piece (f ∷ es) e encoded all = last_encodes ps piece es e encoded.1 all.1

last_rises : (tag : ℕ) (es : List Entry) (e : Entry) → TagsRise tag (es ++ e ∷ []) → lasting tag es ≤ tag_of e.key
last_rises tag [] e rise = rise.0
last_rises tag (f ∷ es) e rise = last_rises (tag_of f.key) es e rise.1

last_apart : (n : ℕ) (done es : List Entry) (e : Entry) → repeated_from (keys done) n (keys (es ++ e ∷ [])) ≡ None → is_among e.key (keys (done ++ es)) ≡ false
last_apart n done [] e once = ap (λ (l : List Entry). is_among e.key (keys l)) (append-nil done) ∙ apart_from n done e [] once
last_apart n done (f ∷ es) e once =
    let apart = apart_from n done f (es ++ e ∷ []) once in
    ap (λ (l : List Entry). is_among e.key (keys l)) (sym (append_assoc done (f ∷ []) es))
    ∙ last_apart (n + 1) (done ++ f ∷ []) es e (sym (later_once n done f (es ++ e ∷ []) apart) ∙ once)

same_length : (ps : List (List ℕ)) (fs : List Entry) → EncodeEach ps fs → length ps ≡ length fs
same_length [] [] encoded = refl
same_length [] (f ∷ fs) encoded = absurd encoded
same_length (p ∷ ps) [] encoded = absurd encoded
same_length (p ∷ ps) (f ∷ fs) encoded = ap suc (same_length ps fs encoded.1)

-- an entry after those that were read is read too
read_on : (before : List (List ℕ)) (piece : List ℕ) (es : List Entry) (e : Entry) → Read before es → Read (before ++ piece ∷ []) (es ++ e ∷ [])
    → one_entry (1 + length before) (reading_of (lasting 0 es) es) piece ≡ Ok (after (1 + length before) (reading_of (lasting 0 es) es) piece e)
read_on before piece es e r all =
    let none : is_some (maps.find key_cmp e.key (pairs es)) ≡ false = sym (is_among-keys e.key es) ∙ last_apart 1 [] es e all.once in
    let new : maps.contains_key (map_of es) e.key ≡ false = ap is_some (get-map_of es e.key) ∙ none in
    encoded_entry (1 + length before) (reading_of (lasting 0 es) es) piece e (last_encodes before piece es e r.encoded all.encoded)
    (omega (arith, all.few, length-append es (e ∷ []), same_length before es r.encoded)) (last_rises 0 es e all.tags) new

of_entry : (bytes : List ℕ) (reported_fault : TextFault) → has_head bytes ≡ true → IsFirstFault one_entry 1 start (entries_in (drop 4 bytes)) reported_fault → IsOfAnEntry bytes reported_fault.at
of_entry bytes reported_fault head first =
    let r = all_read first.before first.state first.no_fault_before in
    let read = is_read_of first.before first.state r in
    let both : Ok first.state ≡ Ok (reading_of (lasting 0 r.es) r.es) = sym first.no_fault_before ∙ read_of first.before r.es read in
    let same : first.state ≡ reading_of (lasting 0 r.es) r.es = cc in
    record {
      head = head;
      before = first.before;
      piece = first.piece;
      after = first.after;
      parts = first.parts;
      place = first.place;
      entries = r.es;
      read = read;
      faulty = λ e all.
          let bad : one_entry (1 + length first.before) (reading_of (lasting 0 r.es) r.es) first.piece ≡ Err reported_fault.kind =
          ap (λ (n : ℕ). one_entry n (reading_of (lasting 0 r.es) r.es) first.piece) (sym first.place) ∙ (ap (λ (x : Reading). one_entry reported_fault.at x first.piece) (sym same) ∙ first.faulty) in
          cc (sym (read_on first.before first.piece r.es e read all) ∙ bad);
    }

bad_kind : (o : Option Reading) (k : FaultKind) → ok_or o BadAttr ≡ Err k → k ≡ BadAttr
bad_kind None k e = cc
bad_kind (Some x) k e = absurd cc

no_list_of : (last : ℕ) (m : KeyMap) (reported_fault : TextFault) (f : Option ListFault) → fault (entries m) ≡ f → list_from last m f ≡ Err reported_fault
    → (IsValid m → ⊥) × (bad_attr (last + 1) ≡ reported_fault)
no_list_of last m reported_fault None is e = absurd cc
no_list_of last m reported_fault (Some x) is e = ((λ valid. cc (sym valid ∙ is)), cc)

-- the place that is returned is where the attribute is faulty
pub record IsReportedAt (bytes : List ℕ) (reported_fault : TextFault) : Type 0 where
  pub kind : reported_fault.kind ≡ BadAttr
  pub place : IsFaultyAt bytes reported_fault.at

pub faulty_where : (bytes : List ℕ) (reported_fault : TextFault) → attr_of bytes ≡ Err reported_fault → IsReportedAt bytes reported_fault
faulty_where bytes reported_fault e =
    elim (cases_Bool (has_head bytes)) [
      | inr no_head ↦
          let here : Err (bad_attr 0) ≡ Err reported_fault = rw no_head at e in
          let same : bad_attr 0 ≡ reported_fault = cc in
          record { kind = ap (λ (f : TextFault). f.kind) (sym same); place = inl (no_head, ap (λ (f : TextFault). f.at) (sym same)) }
      | inl head ↦
          let whole : list_in (drop 4 bytes) ≡ Err reported_fault = rw head at e in
          let pieces = entries_in (drop 4 bytes) in
          let last = length pieces in
          elim (cases_Result (read_each one_entry start pieces)) [
            | inr bad ↦
                let here : Err bad.0 ≡ Err reported_fault = sym (ap (list_of last) bad.1) ∙ whole in
                let same : bad.0 ≡ reported_fault = cc in
                let first = fault_is_first one_entry 1 start pieces reported_fault (bad.1 ∙ ap (λ f. Err f) same) in
                record { kind = bad_kind (with_entry reported_fault.at first.state first.piece) reported_fault.kind first.faulty; place = inr (inl (of_entry bytes reported_fault head first)) }
            | inl fine ↦
                let r = all_read pieces fine.0 fine.1 in
                let none = no_list_of last fine.0.entries reported_fault (fault (entries fine.0.entries)) refl (sym (ap (list_of last) fine.1) ∙ whole) in
                let place : reported_fault.at ≡ last + 1 = ap (λ (f : TextFault). f.at) (sym none.1) in
                record {
                  kind = ap (λ (f : TextFault). f.kind) (sym none.1);
                  place = inr (inr (record {
                    head = head;
                    entries = r.es;
                    read = is_read_of pieces fine.0 r;
                    no_list = λ valid. none.0 (subst IsValid (sym r.list) valid);
                    place = place ∙ ap (λ n. n + 1) (same_length pieces r.es r.encoded);
                  }));
                }
          ]
    ]
