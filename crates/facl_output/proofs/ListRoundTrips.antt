-- The texts that are printed of lists in the short form are read as the entries of these lists.
use Rattle.std.proofs.Common.{◌≡◌, ℕ, ◌+◌, ◌<◌, ◌≤◌, Bool, true, false, cond, leb, List, [], ◌∷◌, ◌++◌, map, length, Option, Some, None, Result, Ok, Err, refl}
use Rattle.std.proofs.Common.{sym, ap, ◌∙◌, append_assoc, length-append, arith}
use Rattle.std.specs.Prelude.{◌==◌, codes, ok_or}
use Rattle.std.specs.List.{flat_map, AllByRecursion}
use Rattle.std.proofs.lemmas.Bool.{ne_eqb, lt-leb}
use Rattle.std.proofs.lemmas.Grind.{flat_map-append}
use Rattle.std.proofs.lemmas.List.{append-nil, length-map}
use Rattle.std.proofs.lemmas.List.Elements.{recursion_from_All}
use Rattle.acl_text.proofs.EntryRoundTrips.{few}
use Rattle.acl_text.proofs.Plain.{plain-blank, plain-comma, trimmed_none, pieces_at, pieces_none, fields_again}
use Rattle.acl_text.proofs.WrittenLists.{plain_text, tag_plain, qualifier_plain, key_again, entry_again, in_entry, short_again}
use Rattle.acl_text.specs.RoundTrips.{IsList, IsListIf}
use Rattle.acl_edit.specs.declared.node.Node.{Node}
use Rattle.acl_entry.specs.Ids.{nobody}
use Rattle.acl_entry.specs.Keys.{id_of}
use Rattle.acl_entry.specs.Lists.{KeyMap, entries, fault, IsValid, most_entries}
use Rattle.acl_entry.specs.Perms.{text}
use Rattle.acl_entry.specs.declared.entry.Entry.{Entry}
use Rattle.acl_entry.specs.declared.entry.Key.{Key}
use Rattle.acl_entry.specs.declared.entry.Key.TheVariants as keys
use Rattle.acl_names.specs.Pieces.{pieces}
use Rattle.acl_people.specs.KnownPeople.{KnownPeople, naming_of}
use Rattle.acl_text.specs.Blanks.{is_blank, trimmed}
use Rattle.acl_text.specs.Entries.{rules_of, tagged, entry_from, entry_of, wanted_perms, key_of, allowed_key, most_text_entries, one_more, entries_of}
use Rattle.acl_text.specs.Fields.{EntryRow, entry_fields, row_of, is_default_word}
use Rattle.acl_text.specs.InTurn.{at_place, read_each_from}
use Rattle.acl_text.specs.Results.{◌>>=◌}
use Rattle.acl_text.specs.Naming.{Naming}
use Rattle.acl_text.specs.Writing.{tag_text, qualifier, entry_text, after_comma, short, spec_of, IsKeyNamed, AreNamed}
use Rattle.acl_text.specs.declared.entries.PermSpec.{PermSpec}
use Rattle.acl_text.specs.declared.entries.Rules.{Rules}
use Rattle.acl_text.specs.declared.entries.Sep.TheVariants.{Comma}
use Rattle.acl_text.specs.declared.entries.Spec.{Spec}
use Rattle.acl_text.specs.declared.entries.Want.TheVariants as wants
use Rattle.acl_text.specs.declared.fault.FaultKind.{FaultKind}
use Rattle.acl_text.specs.declared.fault.FaultKind.TheVariants.{BadTag}
use Rattle.acl_text.specs.declared.fault.TextFault.{TextFault}
use Rattle.acl_text.specs.declared.entries.Form.TheVariants.{Short}
use Rattle.acl_text.proofs.WrittenEntries.{bind_same}
use Rattle.facl_output.specs.RoundTrips.{IsListAgain, IsShortAgain, entries_for, dacl_entries, all_entries, specs_of}
use Rattle.facl_output.specs.TestListing.{default_entry, default_entries, lists_text}

-- ---- a `d` in front makes an entry a default one

abbrev rules : Rules
rules = rules_of wants.WithPerms

abbrev as_default : Result Spec FaultKind → Result Spec FaultKind
as_default (Ok spec) = Ok (record spec { dflt = true })
as_default (Err kind) = Err kind

default_tag : (k : Key) → is_default_word (tag_text Short k) ≡ false
default_tag keys.Owner = refl
default_tag (keys.User id) = refl
default_tag keys.OwningGroup = refl
default_tag (keys.Group id) = refl
default_tag keys.Mask = refl
default_tag keys.Other = refl

module _ (naming : Naming) where
  abbrev from_allowed : ℕ → Bool → Option PermSpec → Key → Result Spec FaultKind
  from_allowed at dflt perm key = Ok (record { at = at; dflt = dflt; key = key; perm = perm })

  abbrev from_key : ℕ → Bool → Option PermSpec → Key → Result Spec FaultKind
  from_key at dflt perm key = allowed_key rules key >>= from_allowed at dflt perm

  abbrev from_perm : ℕ → Bool → EntryRow → Option PermSpec → Result Spec FaultKind
  from_perm at dflt row perm = key_of naming row.tag row.word >>= from_key at dflt perm

  abbrev from_row : ℕ → Bool → EntryRow → Result Spec FaultKind
  from_row at dflt row = wanted_perms rules row.perms >>= from_perm at dflt row

  default_again : (at : ℕ) (tag word perm : List ℕ) → is_default_word tag ≡ false
      → entry_from naming rules at (codes "d" ∷ tag ∷ word ∷ perm ∷ []) ≡ as_default (entry_from naming rules at (tag ∷ word ∷ perm ∷ []))
  default_again at tag word perm plain =
      let fields = tag ∷ word ∷ perm ∷ [] in
      bind_same (ok_or (row_of fields) BadTag) (from_row at true) (from_row at false)
      (λ row. bind_same (wanted_perms rules row.perms) (from_perm at true row) (from_perm at false row)
      (λ p. bind_same (key_of naming row.tag row.word) (from_key at true p) (from_key at false p)
      (λ k. bind_same (allowed_key rules k) (from_allowed at true p) (from_allowed at false p) (λ a. refl))))
      ∙ ap (λ d. as_default (ok_or (tagged rules d) BadTag >>= from_row at d.0)) (ap (λ b. cond b (true, word ∷ perm ∷ []) (false, fields)) (sym plain))

  -- ---- one entry of one of the lists

  -- an entry as it is written, by its list
  abbrev written : Bool × Entry → List ℕ
  written (false, e) = entry_text naming Short e
  written (true, e) = 100 ∷ 58 ∷ entry_text naming Short e

  -- what it is read as
  abbrev meant : ℕ → Bool × Entry → Spec
  meant at e = record (spec_of at e.1) { dflt = e.0 }

  -- its id is one, and its name is found again
  abbrev IsReadable : Bool × Entry → Type 0
  IsReadable e = (id_of e.1.key < nobody) × IsKeyNamed naming e.1.key

  fields_are : (e : Entry) → IsReadable (true, e) → entry_fields (entry_text naming Short e) ≡ tag_text Short e.key ∷ qualifier naming e.key ∷ text e.perm ∷ []
  fields_are e is =
      fields_again (tag_text Short e.key) (qualifier naming e.key) (text e.perm) (tag_plain Short e.key)
      (qualifier_plain true true naming e.key is.0 is.1) (plain_text e.perm)

  read_as : (at : ℕ) (e : Bool × Entry) → IsReadable e → entry_of naming rules at (written e) ≡ Ok (meant at e)
  read_as at (false, e) is = entry_again true true naming Short at e is.0 is.1
  read_as at (true, e) is =
      let bare = entry_text naming Short e in
      let cut : entry_fields (codes "d" ++ 58 ∷ bare) ≡ codes "d" ∷ entry_fields bare = ap (map trimmed) (pieces_at 58 (codes "d") bare (refl, tt)) in
      ap (entry_from naming rules at) (cut ∙ ap (λ (f : List (List ℕ)). codes "d" ∷ f) (fields_are e is))
      ∙ (default_again at (tag_text Short e.key) (qualifier naming e.key) (text e.perm) (default_tag e.key)
      ∙ ap as_default (key_again true true naming Short at e.key e.perm is.0 is.1))

  in_written : (q : ℕ → Bool) → q 58 ≡ false → q 100 ≡ false → (e : Bool × Entry) → AllByRecursion (λ b. q b ≡ false) (entry_text naming Short e.1) → AllByRecursion (λ b. q b ≡ false) (written e)
  in_written q colon mark (false, e) none = none
  in_written q colon mark (true, e) none = (mark, (colon, none))

  no_comma : (e : Bool × Entry) → IsReadable e → AllByRecursion (λ b. (b == 44) ≡ false) (written e)
  no_comma e is = in_written (λ b. b == 44) refl refl e (in_entry true true naming (λ b. b == 44) plain-comma refl Short e.1 is.0 is.1)

  no_blank : (e : Bool × Entry) → IsReadable e → AllByRecursion (λ b. is_blank b ≡ false) (written e)
  no_blank e is = in_written is_blank refl refl e (in_entry true true naming is_blank plain-blank refl Short e.1 is.0 is.1)

  some_written : (e : Bool × Entry) → 0 < length (written e)
  some_written (false, e) = omega (arith, length-append (tag_text Short e.key) (58 ∷ (qualifier naming e.key ++ 58 ∷ text e.perm)))
  some_written (true, e) = omega arith

  one_from : (at : ℕ) (specs : List Spec) (piece : List ℕ) (spec : Spec) → trimmed piece ≡ piece → 0 < length piece → entry_of naming rules at piece ≡ Ok spec → length specs < most_text_entries
      → one_more naming Comma rules at specs piece ≡ Ok (specs ++ spec ∷ [])
  one_from at specs piece spec bare some e room =
      let full : (length piece == 0) ≡ false = ne_eqb (length piece) 0 (λ zero. omega arith) in
      let fits : leb most_text_entries (length specs) ≡ false = lt-leb most_text_entries (length specs) room in
      rw (bare, full, e, fits) refl

  -- ---- the entries of a text

  abbrev reading : ℕ → List Spec → List (List ℕ) → Result (List Spec) TextFault
  reading at specs ps = read_each_from (one_more naming Comma rules) at specs ps

  each_read : (es : List (Bool × Entry)) (at : ℕ) (specs : List Spec) → AllByRecursion IsReadable es → length specs + length es ≤ most_text_entries
      → reading at specs (map written es) ≡ Ok (specs ++ specs_of at es)
  each_read [] at specs are room = ap (λ (s : List Spec). Ok s) (sym (append-nil specs))
  each_read (e ∷ es) at specs are room =
      let spec = meant at e in
      let first = one_from at specs (written e) spec (trimmed_none (written e) (no_blank e are.0)) (some_written e) (read_as at e are.0) (omega arith) in
      let rest = each_read es (at + 1) (specs ++ spec ∷ []) are.1 (omega (arith, length-append specs (spec ∷ []))) in
      ap (λ j. at_place at j (λ more. reading (at + 1) more (map written es))) first
      ∙ (rest ∙ ap (λ (s : List Spec). Ok s) (append_assoc specs (spec ∷ []) (specs_of (at + 1) es)))

  -- entries after others
  abbrev following : List (Bool × Entry) → List ℕ
  following es = flat_map (λ e. 44 ∷ written e) es

  cut_all : (e : Bool × Entry) (es : List (Bool × Entry)) → IsReadable e → AllByRecursion IsReadable es → pieces 44 (written e ++ following es) ≡ written e ∷ map written es
  cut_all e [] is are = ap (pieces 44) (append-nil (written e)) ∙ pieces_none 44 (written e) (no_comma e is)
  cut_all e (f ∷ es) is are = pieces_at 44 (written e) (written f ++ following es) (no_comma e is) ∙ ap (λ (ps : List (List ℕ)). written e ∷ ps) (cut_all f es are.0 are.1)

  access_following : (es : List Entry) → flat_map (after_comma naming) es ≡ following (entries_for false es)
  access_following [] = refl
  access_following (e ∷ es) = ap (λ (l : List ℕ). 44 ∷ (entry_text naming Short e ++ l)) (access_following es)

  default_following : (es : List Entry) → flat_map (default_entry naming) es ≡ following (entries_for true es)
  default_following [] = refl
  default_following (e ∷ es) = ap (λ (l : List ℕ). 44 ∷ 100 ∷ 58 ∷ (entry_text naming Short e ++ l)) (default_following es)

  defaults_following : (dacl : Option KeyMap) → default_entries naming dacl ≡ following (dacl_entries dacl)
  defaults_following None = refl
  defaults_following (Some dacl) = default_following (entries dacl)

  both_cut : (es : List Entry) (ds : List (Bool × Entry)) → fault es ≡ None → AllByRecursion IsReadable (entries_for false es ++ ds)
      → pieces 44 (short naming es ++ following ds) ≡ map written (entries_for false es ++ ds)
  both_cut [] ds valid are = absurd (cc valid)
  both_cut (e ∷ es) ds valid are =
      let first = entry_text naming Short e in
      ap (pieces 44)
      (append_assoc first (flat_map (after_comma naming) es) (following ds)
      ∙ ap (λ (l : List ℕ). first ++ l) (ap (λ (l : List ℕ). l ++ following ds) (access_following es) ∙ sym (flat_map-append (λ e. 44 ∷ written e) (entries_for false es) ds)))
      ∙ cut_all (false, e) (entries_for false es ++ ds) are.0 are.1

  -- ---- both lists of a file

  readable_entries : (dflt : Bool) (es : List Entry) → AllByRecursion (λ e. id_of e.key < nobody) es → AreNamed naming es → AllByRecursion IsReadable (entries_for dflt es)
  readable_entries dflt [] small named = tt
  readable_entries dflt (e ∷ es) small named = ((small.0, named.0), readable_entries dflt es small.1 named.1)

  both_readable : (es ds : List (Bool × Entry)) → AllByRecursion IsReadable es → AllByRecursion IsReadable ds → AllByRecursion IsReadable (es ++ ds)
  both_readable [] ds are more = more
  both_readable (e ∷ es) ds are more = (are.0, both_readable es ds are.1 more)

  readable_list : (dflt : Bool) (acl : KeyMap) → IsList naming acl → AllByRecursion IsReadable (entries_for dflt (entries acl))
  readable_list dflt acl is = readable_entries dflt (entries acl) (recursion_from_All (λ (e : Entry). id_of e.key < nobody) (entries acl) is.ids) is.named

  readable_dacl : (dacl : Option KeyMap) → IsListIf naming dacl → AllByRecursion IsReadable (dacl_entries dacl)
  readable_dacl None is = tt
  readable_dacl (Some dacl) is = readable_list true dacl is

  few_for : (dflt : Bool) (acl : KeyMap) → IsValid acl → length (entries_for dflt (entries acl)) ≤ most_entries
  few_for dflt acl valid = omega (arith, few acl valid, length-map {B = Bool × Entry} (entries acl) (λ e. (dflt, e)))

  few_dacl : (dacl : Option KeyMap) → IsListIf naming dacl → length (dacl_entries dacl) ≤ most_entries
  few_dacl None is = omega arith
  few_dacl (Some dacl) is = few_for true dacl is.valid

  both_read : (n : Node) → IsList naming n.label.acl → IsListIf naming n.dacl
      → entries_of naming Comma wants.WithPerms (lists_text naming n) ≡ Ok (specs_of 1 (all_entries n))
  both_read n is default =
      let es = entries n.label.acl in
      let are = both_readable (entries_for false es) (dacl_entries n.dacl) (readable_list false n.label.acl is) (readable_dacl n.dacl default) in
      ap (λ (l : List ℕ). reading 1 [] (pieces 44 (short naming es ++ l))) (defaults_following n.dacl)
      ∙ (ap (reading 1 []) (both_cut es (dacl_entries n.dacl) is.valid are)
      ∙ each_read (all_entries n) 1 [] are
      (omega (arith, length-append (entries_for false es) (dacl_entries n.dacl), few_for false n.label.acl is.valid, few_dacl n.dacl default)))

pub both_again : (known : KnownPeople) (n : Node) → IsListAgain known n.label.acl → IsListIf (naming_of known) n.dacl
    → entries_of (naming_of known) Comma wants.WithPerms (lists_text (naming_of known) n) ≡ Ok (specs_of 1 (all_entries n))
both_again known n is default = both_read (naming_of known) n is default

pub short_is_again : (known : KnownPeople) (acl : KeyMap) → IsListAgain known acl → IsShortAgain known acl
short_is_again known acl is = record {
  valid = is.valid;
  read = short_again (naming_of known) acl is.valid is.ids is.named wants.Plain refl;
}
