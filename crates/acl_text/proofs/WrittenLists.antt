-- What is written in the long or the short form is read as that list.
use Rattle.std.proofs.Common.{◌≡◌, ℕ, ◌+◌, ◌<◌, ◌≤◌, Bool, true, false, leb, ltb, cond, inl, inr, List, [], ◌∷◌, ◌++◌, length, Option, Some, None, Result, Ok}
use Rattle.std.proofs.Common.{refl, sym, ap, ◌∙◌, append_assoc, length-append, arith}
use Rattle.std.specs.Prelude.{◌==◌}
use Rattle.std.specs.List.{list_all, AllByRecursion}
use Rattle.std.proofs.lemmas.Bool.{cases_Bool, ne_eqb, lt-leb, ltb-false}
use Rattle.std.proofs.lemmas.List.{append-nil, length-map}
use Rattle.std.proofs.lemmas.List.Elements.{recursion_from_All}
use Rattle.acl_entry.specs.Lists as lists
use Rattle.acl_entry.specs.Lists.{KeyMap, entries, HasIds, IsValid}
use Rattle.acl_entry.specs.declared.entry.ListFault.{ListFault}
use Rattle.acl_entry.specs.declared.entry.ListFault.TheVariants.{TooLong}
use Rattle.acl_entry.specs.Perms.{Perms, text}
use Rattle.acl_entry.specs.Ids.{nobody}
use Rattle.acl_entry.specs.Keys.{id_of}
use Rattle.acl_entry.specs.declared.entry.Key.{Key}
use Rattle.acl_entry.specs.declared.entry.Key.TheVariants as keys
use Rattle.acl_entry.specs.declared.entry.Entry.{Entry}
use Rattle.acl_names.specs.Pieces.{pieces}
use Rattle.acl_names.proofs.Basics.{all-append}
use Rattle.acl_text.specs.Naming.{Naming}
use Rattle.acl_text.specs.declared.fault.TextFault.{TextFault}
use Rattle.acl_text.specs.declared.entries.Sep.{Sep}
use Rattle.acl_text.specs.declared.entries.Sep.TheVariants.{Comma, Line}
use Rattle.acl_text.specs.declared.entries.Rules.{Rules}
use Rattle.acl_text.specs.declared.entries.Want.{Want}
use Rattle.acl_text.specs.declared.entries.Want.TheVariants.{WithPerms, WithoutPerms, Plain}
use Rattle.acl_text.specs.declared.entries.Spec.{Spec}
use Rattle.acl_text.specs.declared.entries.Form.{Form}
use Rattle.acl_text.specs.declared.entries.Form.TheVariants.{Long, Short}
use Rattle.acl_text.specs.InTurn.{at_place, read_each_from}
use Rattle.acl_text.specs.Blanks.{is_blank, trimmed}
use Rattle.acl_text.specs.Letters.{perms_of}
use Rattle.acl_text.specs.Entries.{rules_of, content, entry_from, entry_of, most_text_entries, one_more, entries_of}
use Rattle.acl_text.specs.Writing.{tag_text, id_text, qualifier, entry_text, long, short, spec_of, specs_from, IsKeyNamed, AreNamed}
use Rattle.acl_text.proofs.Plain.{is_plain, plain-line, plain-blank, plain-comma, plain-hash, none_of, trimmed_none, pieces_at, pieces_none, before_first_none, fields_again}
use Rattle.acl_text.proofs.WrittenWords.{IsWordOf, word_again}

-- rules that take permissions
abbrev pub taking : Bool → Bool → Rules
taking takes_default takes_x = record { takes_default = takes_default; takes_perms = true; takes_x = takes_x }

-- ---- permissions

perms_again : (takes_x r w x : Bool) → perms_of takes_x (text (record { read = r; write = w; execute = x })) ≡ Some (record { fixed = record { read = r; write = w; execute = x }; cond_x = false })
perms_again takes_x true true true = refl
perms_again takes_x true true false = refl
perms_again takes_x true false true = refl
perms_again takes_x true false false = refl
perms_again takes_x false true true = refl
perms_again takes_x false true false = refl
perms_again takes_x false false true = refl
perms_again takes_x false false false = refl

plain_perms : (r w x : Bool) → list_all is_plain (text (record { read = r; write = w; execute = x })) ≡ true
plain_perms true true true = refl
plain_perms true true false = refl
plain_perms true false true = refl
plain_perms true false false = refl
plain_perms false true true = refl
plain_perms false true false = refl
plain_perms false false true = refl
plain_perms false false false = refl

pub plain_text : (p : Perms) → list_all is_plain (text p) ≡ true
plain_text p = plain_perms p.read p.write p.execute

pub tag_plain : (form : Form) (k : Key) → list_all is_plain (tag_text form k) ≡ true
tag_plain Long keys.Owner = refl
tag_plain Long (keys.User id) = refl
tag_plain Long keys.OwningGroup = refl
tag_plain Long (keys.Group id) = refl
tag_plain Long keys.Mask = refl
tag_plain Long keys.Other = refl
tag_plain Short keys.Owner = refl
tag_plain Short (keys.User id) = refl
tag_plain Short keys.OwningGroup = refl
tag_plain Short (keys.Group id) = refl
tag_plain Short keys.Mask = refl
tag_plain Short keys.Other = refl

tag_some : (form : Form) (k : Key) → 0 < length (tag_text form k)
tag_some Long keys.Owner = omega arith
tag_some Long (keys.User id) = omega arith
tag_some Long keys.OwningGroup = omega arith
tag_some Long (keys.Group id) = omega arith
tag_some Long keys.Mask = omega arith
tag_some Long keys.Other = omega arith
tag_some Short keys.Owner = omega arith
tag_some Short (keys.User id) = omega arith
tag_some Short keys.OwningGroup = omega arith
tag_some Short (keys.Group id) = omega arith
tag_some Short keys.Mask = omega arith
tag_some Short keys.Other = omega arith

module _ (takes_default takes_x : Bool) (naming : Naming) where
  abbrev IsNamedKey : Key → Type 0
  IsNamedKey k = IsKeyNamed naming k

  -- ---- fields

  pub qualifier_plain : (k : Key) → id_of k < nobody → IsNamedKey k → list_all is_plain (qualifier naming k) ≡ true
  qualifier_plain keys.Owner lt named = refl
  qualifier_plain (keys.User id) lt named = (word_again naming.user_id id (naming.user_name id) lt named).plain
  qualifier_plain keys.OwningGroup lt named = refl
  qualifier_plain (keys.Group id) lt named = (word_again naming.group_id id (naming.group_name id) lt named).plain
  qualifier_plain keys.Mask lt named = refl
  qualifier_plain keys.Other lt named = refl

  abbrev FromFields : ℕ → List ℕ → List ℕ → Key → Perms → Type 0
  FromFields at tag word key p = entry_from naming (taking takes_default takes_x) at (tag ∷ word ∷ text p ∷ [])
      ≡ Ok (record { at = at; dflt = false; key = key; perm = Some (record { fixed = p; cond_x = false }) })

  user_again : (form : Form) (at : ℕ) (w : List ℕ) (id : ℕ) → IsWordOf naming.user_id id w → (p : Perms) → FromFields at (tag_text form (keys.User id)) w (keys.User id) p
  user_again form at [] id is p = absurd (omega (arith, is.some))
  user_again Long at (b ∷ bs) id is p = rw (perms_again takes_x p.read p.write p.execute, is.again) refl
  user_again Short at (b ∷ bs) id is p = rw (perms_again takes_x p.read p.write p.execute, is.again) refl

  group_again : (form : Form) (at : ℕ) (w : List ℕ) (id : ℕ) → IsWordOf naming.group_id id w → (p : Perms) → FromFields at (tag_text form (keys.Group id)) w (keys.Group id) p
  group_again form at [] id is p = absurd (omega (arith, is.some))
  group_again Long at (b ∷ bs) id is p = rw (perms_again takes_x p.read p.write p.execute, is.again) refl
  group_again Short at (b ∷ bs) id is p = rw (perms_again takes_x p.read p.write p.execute, is.again) refl

  pub key_again : (form : Form) (at : ℕ) (k : Key) (p : Perms) → id_of k < nobody → IsNamedKey k → FromFields at (tag_text form k) (qualifier naming k) k p
  key_again Long at keys.Owner p lt named = rw (perms_again takes_x p.read p.write p.execute) refl
  key_again Short at keys.Owner p lt named = rw (perms_again takes_x p.read p.write p.execute) refl
  key_again form at (keys.User id) p lt named = user_again form at (id_text id (naming.user_name id)) id (word_again naming.user_id id (naming.user_name id) lt named) p
  key_again Long at keys.OwningGroup p lt named = rw (perms_again takes_x p.read p.write p.execute) refl
  key_again Short at keys.OwningGroup p lt named = rw (perms_again takes_x p.read p.write p.execute) refl
  key_again form at (keys.Group id) p lt named = group_again form at (id_text id (naming.group_name id)) id (word_again naming.group_id id (naming.group_name id) lt named) p
  key_again Long at keys.Mask p lt named = rw (perms_again takes_x p.read p.write p.execute) refl
  key_again Short at keys.Mask p lt named = rw (perms_again takes_x p.read p.write p.execute) refl
  key_again Long at keys.Other p lt named = rw (perms_again takes_x p.read p.write p.execute) refl
  key_again Short at keys.Other p lt named = rw (perms_again takes_x p.read p.write p.execute) refl

  -- ---- entries

  pub entry_again : (form : Form) (at : ℕ) (e : Entry) → id_of e.key < nobody → IsNamedKey e.key → entry_of naming (taking takes_default takes_x) at (entry_text naming form e) ≡ Ok (spec_of at e)
  entry_again form at e lt named =
      ap (entry_from naming (taking takes_default takes_x) at)
      (fields_again (tag_text form e.key) (qualifier naming e.key) (text e.perm) (tag_plain form e.key) (qualifier_plain e.key lt named) (plain_text e.perm))
      ∙ key_again form at e.key e.perm lt named

  -- a test that fails at plain bytes and at a colon fails in all of an entry
  pub in_entry : (q : ℕ → Bool) → ((b : ℕ) → is_plain b ≡ true → q b ≡ false) → q 58 ≡ false → (form : Form) (e : Entry) → id_of e.key < nobody
      → IsNamedKey e.key → AllByRecursion (λ b. q b ≡ false) (entry_text naming form e)
  in_entry q why colon form e lt named =
      let word = qualifier naming e.key in
      all-append (λ b. q b ≡ false) (tag_text form e.key) (58 ∷ (word ++ 58 ∷ text e.perm)) (none_of is_plain q why (tag_text form e.key) (tag_plain form e.key))
      (colon, all-append (λ b. q b ≡ false) word (58 ∷ text e.perm) (none_of is_plain q why word (qualifier_plain e.key lt named)) (colon, none_of is_plain q why (text e.perm) (plain_text e.perm)))

  one_from : (sep : Sep) (at : ℕ) (specs : List Spec) (piece : List ℕ) (spec : Spec) → content sep piece ≡ piece → trimmed piece ≡ piece → 0 < length piece
      → entry_of naming (taking takes_default takes_x) at piece ≡ Ok spec → length specs < most_text_entries
      → one_more naming sep (taking takes_default takes_x) at specs piece ≡ Ok (specs ++ spec ∷ [])
  one_from sep at specs piece spec whole bare some e room =
      let full : (length piece == 0) ≡ false = ne_eqb (length piece) 0 (λ zero. omega arith) in
      let fits : leb most_text_entries (length specs) ≡ false = lt-leb most_text_entries (length specs) room in
      rw (whole, bare, full, e, fits) refl

  content_again : (sep : Sep) (form : Form) (e : Entry) → id_of e.key < nobody → IsNamedKey e.key → content sep (entry_text naming form e) ≡ entry_text naming form e
  content_again Comma form e lt named = refl
  content_again Line form e lt named = before_first_none (λ b. b == 35) (entry_text naming form e) (in_entry (λ b. b == 35) plain-hash refl form e lt named)

  one_again : (sep : Sep) (form : Form) (at : ℕ) (specs : List Spec) (e : Entry) → id_of e.key < nobody → IsNamedKey e.key → length specs < most_text_entries
      → one_more naming sep (taking takes_default takes_x) at specs (entry_text naming form e) ≡ Ok (specs ++ spec_of at e ∷ [])
  one_again sep form at specs e lt named room =
      one_from sep at specs (entry_text naming form e) (spec_of at e)
      (content_again sep form e lt named)
      (trimmed_none (entry_text naming form e) (in_entry is_blank plain-blank refl form e lt named))
      (omega (arith, tag_some form e.key, length-append (tag_text form e.key) (58 ∷ (qualifier naming e.key ++ 58 ∷ text e.perm))))
      (entry_again form at e lt named) room

  -- ---- lists

  abbrev HasSmallIds : List Entry → Type 0
  HasSmallIds es = AllByRecursion (λ e. id_of e.key < nobody) es

  abbrev reading : Sep → ℕ → List Spec → List (List ℕ) → Result (List Spec) TextFault
  reading sep at specs ps = read_each_from (one_more naming sep (taking takes_default takes_x)) at specs ps

  pub long_reads : (es : List Entry) (at : ℕ) (specs : List Spec) → HasSmallIds es → AreNamed naming es → length specs + length es ≤ most_text_entries
      → reading Line at specs (pieces 10 (long naming es)) ≡ Ok (specs ++ specs_from at es)
  long_reads [] at specs ids named room = ap (λ (s : List Spec). Ok s) (sym (append-nil specs))
  long_reads (e ∷ es) at specs ids named room =
      let entry = entry_text naming Long e in
      let first = one_again Line Long at specs e ids.0 named.0 (omega arith) in
      let rest = long_reads es (at + 1) (specs ++ spec_of at e ∷ []) ids.1 named.1 (omega (arith, length-append specs (spec_of at e ∷ []))) in
      let cut : pieces 10 (long naming (e ∷ es)) ≡ entry ∷ pieces 10 (long naming es) =
      ap (pieces 10) (append_assoc entry (10 ∷ []) (long naming es)) ∙ pieces_at 10 entry (long naming es) (in_entry (λ b. b == 10) plain-line refl Long e ids.0 named.0) in
      ap (reading Line at specs) cut
      ∙ (ap (λ j. at_place at j (λ more. reading Line (at + 1) more (pieces 10 (long naming es)))) first
      ∙ (rest ∙ ap (λ (s : List Spec). Ok s) (append_assoc specs (spec_of at e ∷ []) (specs_from (at + 1) es))))

  others_read : (e : Entry) (es : List Entry) (at : ℕ) (specs : List Spec) → HasSmallIds (e ∷ es) → AreNamed naming (e ∷ es) → length specs + length (e ∷ es) ≤ most_text_entries
      → reading Comma at specs (pieces 44 (short naming (e ∷ es))) ≡ Ok (specs ++ specs_from at (e ∷ es))
  others_read e [] at specs ids named room =
      let entry = entry_text naming Short e in
      let cut : pieces 44 (entry ++ []) ≡ entry ∷ [] = ap (pieces 44) (append-nil entry) ∙ pieces_none 44 entry (in_entry (λ b. b == 44) plain-comma refl Short e ids.0 named.0) in
      ap (reading Comma at specs) cut ∙ ap (λ j. at_place at j (λ more. reading Comma (at + 1) more [])) (one_again Comma Short at specs e ids.0 named.0 (omega arith))
  others_read e (f ∷ es) at specs ids named room =
      let entry = entry_text naming Short e in
      let first = one_again Comma Short at specs e ids.0 named.0 (omega arith) in
      let rest = others_read f es (at + 1) (specs ++ spec_of at e ∷ []) ids.1 named.1 (omega (arith, length-append specs (spec_of at e ∷ []))) in
      let cut : pieces 44 (short naming (e ∷ f ∷ es)) ≡ entry ∷ pieces 44 (short naming (f ∷ es)) =
      pieces_at 44 entry (short naming (f ∷ es)) (in_entry (λ b. b == 44) plain-comma refl Short e ids.0 named.0) in
      ap (reading Comma at specs) cut
      ∙ (ap (λ j. at_place at j (λ more. reading Comma (at + 1) more (pieces 44 (short naming (f ∷ es))))) first
      ∙ (rest ∙ ap (λ (s : List Spec). Ok s) (append_assoc specs (spec_of at e ∷ []) (specs_from (at + 1) (f ∷ es)))))

  pub short_reads : (es : List Entry) (at : ℕ) (specs : List Spec) → HasSmallIds es → AreNamed naming es → length specs + length es ≤ most_text_entries
      → reading Comma at specs (pieces 44 (short naming es)) ≡ Ok (specs ++ specs_from at es)
  short_reads [] at specs ids named room = ap (λ (s : List Spec). Ok s) (sym (append-nil specs))
  short_reads (e ∷ es) at specs ids named room = others_read e es at specs ids named room

-- ---- valid lists

room_for : (n : ℕ) (o : Option ListFault) → cond (ltb lists.most_entries n) (Some TooLong) o ≡ None → n ≤ lists.most_entries
room_for n o e =
    elim (cases_Bool (ltb lists.most_entries n)) [
      | inl long ↦ absurd (cc (rw long at e))
      | inr fits ↦ ltb-false lists.most_entries n fits
    ]

few : (m : KeyMap) → IsValid m → length (entries m) ≤ lists.most_entries
few m valid = omega (arith, room_for (length (lists.keys (entries m))) _ valid, length-map (entries m) (λ e. e.key))

-- a valid list is read as it was written, by each use that takes permissions
module _ (naming : Naming) (m : KeyMap) (valid : IsValid m) (ids : HasIds (entries m)) (named : AreNamed naming (entries m)) where
  small : AllByRecursion (λ e. id_of e.key < nobody) (entries m)
  small = recursion_from_All (λ (e : Entry). id_of e.key < nobody) (entries m) ids

  pub long_again : (want : Want) → (rules_of want).takes_perms ≡ true → entries_of naming Line want (long naming (entries m)) ≡ Ok (specs_from 1 (entries m))
  long_again WithPerms takes = long_reads true true naming (entries m) 1 [] small named (omega (arith, few m valid))
  long_again WithoutPerms takes = absurd cc
  long_again Plain takes = long_reads false false naming (entries m) 1 [] small named (omega (arith, few m valid))

  pub short_again : (want : Want) → (rules_of want).takes_perms ≡ true → entries_of naming Comma want (short naming (entries m)) ≡ Ok (specs_from 1 (entries m))
  short_again WithPerms takes = short_reads true true naming (entries m) 1 [] small named (omega (arith, few m valid))
  short_again WithoutPerms takes = absurd cc
  short_again Plain takes = short_reads false false naming (entries m) 1 [] small named (omega (arith, few m valid))
