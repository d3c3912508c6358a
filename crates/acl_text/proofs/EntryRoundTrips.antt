-- What is written is read as it was.
use Rattle.std.proofs.Common.{◌≡◌, IsTrue, ℕ, ◌+◌, ◌<◌, ◌≤◌, ◌^◌, Bool, true, false, cond, ltb, List, [], ◌∷◌, ◌++◌, map, length, drop, Option, Some, None, Ok}
use Rattle.std.proofs.Common.{Err, Less, Greater, refl, sym, ap, subst, ◌∙◌, arith, inl, inr, append_assoc}
use Rattle.std.specs.Prelude.{◌&&◌, is_some, ◌||◌, option_map, option_and_then, ok_or}
use Rattle.std.specs.List.{flat_map, AllByRecursion}
use Rattle.std.specs.Ordering.{nat_cmp, is_eq, ordering_then}
use Rattle.std.specs.FinMap as maps
use Rattle.std.specs.FinMap.Entries.{below_all}
use Rattle.std.proofs.lemmas.List.{append-nil, length-map}
use Rattle.std.proofs.lemmas.List.Elements.{recursion_from_All}
use Rattle.acl_text.proofs.Chunks.{entries_step}
use Rattle.std.proofs.lemmas.Bool.{and_parts, cases_Bool, lt-ltb, le-ltb, le-leb, ltb-true, ltb-false}
use Rattle.std.proofs.Math.Nat.{pow-le-pow_right}
use Rattle.std.specs.Cmp.{nat_cmp_is}
use Rattle.acl_entry.specs.declared.entry.Entry.{Entry}
use Rattle.acl_entry.specs.declared.entry.ListFault.{ListFault}
use Rattle.acl_entry.specs.declared.entry.ListFault.TheVariants.{TooLong}
use Rattle.acl_entry.specs.declared.entry.Key.{Key}
use Rattle.acl_entry.specs.declared.entry.Key.TheVariants.{Owner, User, OwningGroup, Group, Mask, Other}
use Rattle.acl_entry.specs.Ids.{nobody}
use Rattle.acl_entry.specs.Keys.{key_cmp, rank, id_of}
use Rattle.acl_entry.specs.Lists.{KeyMap, IsInOrder, IsValid, HasIds, keys, pairs, map_of, entries, fault, most_entries}
use Rattle.acl_entry.specs.Perms.{number}
use Rattle.acl_entry.proofs.KeyLaws.{key_total, exact_keys, above}
use Rattle.acl_entry.proofs.Maps.{get-map_of, map_of-entries, in_order-entries}
use Rattle.acl_entry.proofs.Faults.{pairs-append}
use Rattle.acl_entry.proofs.Basics.{is_less}
use Rattle.acl_text.specs.InTurn.{at_place, read_each_from}
use Rattle.acl_text.specs.declared.fault.FaultKind.TheVariants.{BadAttr}
use Rattle.byteorder.specs.Endian.{little_number, little_bytes}
use Rattle.byteorder.specs.Numbers.{little_number-reads_back}
use Rattle.acl_text.specs.declared.decode.Reading.{Reading}
use Rattle.acl_text.specs.Attr.{tag_of, written_id, entry_bytes, attr_bytes, id_from, key_of, perm_of, start, with_key, with_numbers, with_entry, one_entry}
use Rattle.acl_text.specs.Attr.{entries_in, has_head, list_from, list_of, list_in, attr_of, bad_attr}

-- ---- one entry

pub perm_again : (r w x : Bool) → perm_of (number (record { read = r; write = w; execute = x })) ≡ Some (record { read = r; write = w; execute = x })
perm_again true true true = refl
perm_again true true false = refl
perm_again true false true = refl
perm_again true false false = refl
perm_again false true true = refl
perm_again false true false = refl
perm_again false false true = refl
perm_again false false false = refl

perm_small : (r w x : Bool) → number (record { read = r; write = w; execute = x }) < 65536
perm_small r w x = grind arith

tag_small : (k : Key) → tag_of k < 65536
tag_small Owner = omega arith
tag_small (User id) = omega arith
tag_small OwningGroup = omega arith
tag_small (Group id) = omega arith
tag_small Mask = omega arith
tag_small Other = omega arith

id_small : (k : Key) → id_of k < nobody → written_id k < 4294967296
id_small Owner lt = omega arith
id_small (User id) lt = omega arith
id_small OwningGroup lt = omega arith
id_small (Group id) lt = omega arith
id_small Mask lt = omega arith
id_small Other lt = omega arith

id_again : (id : ℕ) → id < nobody → id_from id ≡ Some id
id_again id lt = ap (λ b. cond b (Some id) None) (lt-ltb id nobody lt)

key_again : (k : Key) → id_of k < nobody → key_of (tag_of k) (written_id k) ≡ Some k
key_again Owner lt = refl
key_again (User id) lt = ap (option_map User) (id_again id lt)
key_again OwningGroup lt = refl
key_again (Group id) lt = ap (option_map Group) (id_again id lt)
key_again Mask lt = refl
key_again Other lt = refl

-- the numbers of a written entry are read as they were
entry_again : (at : ℕ) (reading : Reading) (e : Entry) → at ≤ most_entries → id_of e.key < nobody
    → with_entry at reading (entry_bytes e) ≡ with_numbers reading (tag_of e.key) (number e.perm) (written_id e.key)
entry_again at reading e le lt =
    let bytes = entry_bytes e in
    let id = little_bytes 4 (written_id e.key) in
    let tag_is : little_number 2 bytes ≡ tag_of e.key = little_number-reads_back 2 (tag_of e.key) (little_bytes 2 (number e.perm) ++ id) (tag_small e.key) in
    let perm_is : little_number 2 (drop 2 bytes) ≡ number e.perm = little_number-reads_back 2 (number e.perm) id (perm_small e.perm.read e.perm.write e.perm.execute) in
    let id_is : little_number 4 (drop 4 bytes) ≡ written_id e.key = little_number-reads_back 4 (written_id e.key) [] (id_small e.key lt) in
    ap (λ b. cond (b || false) None (with_numbers reading (little_number 2 bytes) (little_number 2 (drop 2 bytes)) (little_number 4 (drop 4 bytes)))) (le-ltb most_entries at le)
    ∙ ap (λ t. with_numbers reading t (little_number 2 (drop 2 bytes)) (little_number 4 (drop 4 bytes))) tag_is
    ∙ ap (λ p. with_numbers reading (tag_of e.key) p (little_number 4 (drop 4 bytes))) perm_is
    ∙ ap (λ i. with_numbers reading (tag_of e.key) (number e.perm) i) id_is

added : (at : ℕ) (reading : Reading) (e : Entry) → at ≤ most_entries → id_of e.key < nobody → reading.last_tag ≤ tag_of e.key → maps.contains_key reading.entries e.key ≡ false
    → one_entry at reading (entry_bytes e) ≡ Ok (record { entries = maps.insert reading.entries e.key e.perm; last_tag = tag_of e.key })
added at reading e le lt rises new =
    let more = with_key reading (tag_of e.key) in
    ap (λ o. ok_or o BadAttr) (
    entry_again at reading e le lt
    ∙ ap (λ b. cond b None (option_and_then (λ p. option_and_then (more p) (key_of (tag_of e.key) (written_id e.key))) (perm_of (number e.perm)))) (le-ltb (tag_of e.key) reading.last_tag rises)
    ∙ ap (λ o. option_and_then (λ p. option_and_then (more p) (key_of (tag_of e.key) (written_id e.key))) o) (perm_again e.perm.read e.perm.write e.perm.execute)
    ∙ ap (λ o. option_and_then (more e.perm) o) (key_again e.key lt)
    ∙ ap (λ b. cond b None (Some (record { entries = maps.insert reading.entries e.key e.perm; last_tag = tag_of e.key }))) new
    )

-- ---- entries in list order

above_all : (k : Key) (done : List Entry) (e : Entry) (es : List Entry) → IsTrue (below_all key_cmp k (pairs (done ++ e ∷ es))) → key_cmp k e.key ≡ Less
above_all k [] e es h = is_less _ (and_parts _ _ h).0
above_all k (d ∷ done) e es h = above_all k done e es (and_parts _ _ h).1

-- the next key is new
pub new_key : (done : List Entry) (e : Entry) (es : List Entry) → IsInOrder (done ++ e ∷ es) → maps.find key_cmp e.key (pairs done) ≡ None
new_key [] e es h = refl
new_key (d ∷ done) e es h =
    let lower = above d.key e.key (above_all d.key done e es (and_parts _ _ h).0) in
    ap (λ o. cond (is_eq o) (Some d.perm) (maps.find key_cmp e.key (pairs done))) lower ∙ new_key done e es (and_parts _ _ h).1

later : (done : List Entry) (es : List Entry) → IsInOrder (done ++ es) → IsInOrder es
later [] es h = h
later (d ∷ done) es h = later done es (and_parts _ _ h).1

tag_rank : (k : Key) → tag_of k ≡ 2 ^ rank k
tag_rank Owner = refl
tag_rank (User id) = refl
tag_rank OwningGroup = refl
tag_rank (Group id) = refl
tag_rank Mask = refl
tag_rank Other = refl

ranks_rise : (a b m n : ℕ) → ordering_then (nat_cmp a b) (nat_cmp m n) ≡ Less → a ≤ b
ranks_rise a b m n is_less =
    elim (cases_Bool (ltb b a)) [
      | inl falls ↦
          let greater : Greater ≡ nat_cmp a b = nat_cmp_is a b Greater (ltb-true b a falls) in
          let not : Greater ≡ Less = ap (λ o. ordering_then o (nat_cmp m n)) greater ∙ is_less in
          absurd (cc not)
      | inr fine ↦ ltb-false b a fine
    ]

tags_rise : (a b : Key) → key_cmp a b ≡ Less → tag_of a ≤ tag_of b
tags_rise a b is_less = subst (λ (n : ℕ). n ≤ tag_of b) (sym (tag_rank a))
    (subst (λ (n : ℕ). 2 ^ rank a ≤ n) (sym (tag_rank b)) (pow-le-pow_right (omega arith) (ranks_rise (rank a) (rank b) (id_of a) (id_of b) is_less)))

-- ---- lists

-- tags never fall
abbrev TagsRise : ℕ → List Entry → Type 0
TagsRise tag es = AllByRecursion (λ e. tag ≤ tag_of e.key) es

pub one_more : (done : List Entry) (e : Entry) → maps.find key_cmp e.key (pairs done) ≡ None → maps.insert (map_of done) e.key e.perm ≡ map_of (done ++ e ∷ [])
one_more done e none = sym (ap maps.from_entries (pairs-append done (e ∷ [])) ∙ maps.from_entries_push key_total exact_keys (pairs done) e.key e.perm none)

-- the tag of the last entry
abbrev pub lasting : ℕ → List Entry → ℕ
lasting tag [] = tag
lasting tag (e ∷ es) = lasting (tag_of e.key) es

rising : (t : ℕ) (e : Entry) (es : List Entry) → t ≤ tag_of e.key → IsTrue (below_all key_cmp e.key (pairs es)) → TagsRise t es
rising t e [] le below = tt
rising t e (f ∷ es) le below =
    let parts = and_parts _ _ below in
    let more = tags_rise e.key f.key (is_less _ parts.0) in
    (omega arith, rising t e es le parts.1)

encoded_again : (at : ℕ) (tag : ℕ) (done es : List Entry) → at + length es ≤ 4097 → IsInOrder (done ++ es) → AllByRecursion (λ e. id_of e.key < nobody) es → TagsRise tag es
    → read_each_from one_entry at (record { entries = map_of done; last_tag = tag }) (map entry_bytes es) ≡ Ok (record { entries = map_of (done ++ es); last_tag = lasting tag es })
encoded_again at tag done [] room order ids rise = ap (λ (l : List Entry). Ok (record { entries = map_of l; last_tag = tag })) (sym (append-nil done))
encoded_again at tag done (e ∷ es) room order ids rise =
    let reading : Reading = record { entries = map_of done; last_tag = tag } in
    let none = new_key done e es order in
    let new : maps.contains_key (map_of done) e.key ≡ false = ap is_some (get-map_of done e.key ∙ none) in
    let tail = later done (e ∷ es) order in
    ap (λ j. at_place at j (λ more. read_each_from one_entry (at + 1) more (map entry_bytes es))) (added at reading e (omega arith) ids.0 rise.0 new)
    ∙ ap (λ m. read_each_from one_entry (at + 1) (record { entries = m; last_tag = tag_of e.key }) (map entry_bytes es)) (one_more done e none)
    ∙ encoded_again (at + 1) (tag_of e.key) (done ++ e ∷ []) es (omega arith) (subst IsInOrder (sym (append_assoc done (e ∷ []) es)) order) ids.1
    (rising (tag_of e.key) e es (omega arith) (and_parts _ _ tail).0)
    ∙ ap (λ (l : List Entry). Ok (record { entries = map_of l; last_tag = lasting (tag_of e.key) es })) (append_assoc done (e ∷ []) es)

no_tag : (es : List Entry) → TagsRise 0 es
no_tag [] = tt
no_tag (e ∷ es) = (omega arith, no_tag es)

-- eight bytes for each
cut_again : (es : List Entry) → entries_in (flat_map entry_bytes es) ≡ map entry_bytes es
cut_again [] = refl
cut_again (e ∷ es) = entries_step (entry_bytes e ++ flat_map entry_bytes es) (omega arith) ∙ ap (λ (l : List (List ℕ)). entry_bytes e ∷ l) (cut_again es)

no_more : (n : ℕ) (o : Option ListFault) → cond (ltb most_entries n) (Some TooLong) o ≡ None → n ≤ most_entries
no_more n o e =
    elim (cases_Bool (ltb most_entries n)) [
      | inl long ↦ absurd (cc (ap (λ b. cond b (Some TooLong) o) long, e))
      | inr fits ↦ ltb-false most_entries n fits
    ]

-- a valid list has at most 4,096 entries
pub few : (acl : KeyMap) → IsValid acl → length (entries acl) ≤ most_entries
few acl valid = omega (arith, no_more (length (keys (entries acl))) _ valid, length-map (entries acl) (λ e. e.key))

-- the attribute of a list is read as that list
pub attr_again : (acl : KeyMap) → IsValid acl → HasIds (entries acl) → attr_of (attr_bytes acl) ≡ Ok acl
attr_again acl valid ids =
    let es = entries acl in
    let bytes = flat_map entry_bytes es in
    let last = length (entries_in bytes) in
    let read_each = encoded_again 1 0 [] es (omega (arith, few acl valid)) (in_order-entries acl) (recursion_from_All (λ (e : Entry). id_of e.key < nobody) es ids) (no_tag es) in
    let read : list_in bytes ≡ list_from last (map_of es) (fault (entries (map_of es))) =
    ap (λ cut. list_of last (read_each_from one_entry 1 start cut)) (cut_again es) ∙ ap (list_of last) read_each in
    let whole : list_in bytes ≡ Ok acl = read ∙ (ap (λ m. list_from last m (fault (entries m))) (map_of-entries acl) ∙ ap (list_from last acl) valid) in
    let head : has_head (attr_bytes acl) ≡ true = ap (λ b. b && true) (le-leb 4 (length (attr_bytes acl)) (omega arith)) in
    ap (λ b. cond b (list_in bytes) (Err (bad_attr 0))) head ∙ whole
