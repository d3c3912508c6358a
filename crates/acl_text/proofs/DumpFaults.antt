-- The first fault of a dump is returned, and what is returned is the first fault.
use Rattle.std.proofs.Common.{◌≡◌, ℕ, Bool, true, false, List, [], ◌∷◌, ◌++◌, Option, Some, None, Result, Ok, Err, refl, sym, ap, subst, ◌∙◌, inl, inr}
use Rattle.std.specs.Prelude.{◌⊎◌, if◌then◌else◌, ok_or}
use Rattle.acl_text.specs.Naming.{Naming}
use Rattle.acl_text.specs.declared.fault.FaultKind.{FaultKind}
use Rattle.acl_text.specs.declared.fault.FaultKind.TheVariants.{BadHeader, BadPath, RepeatedFile}
use Rattle.acl_text.specs.declared.fault.TextFault.{TextFault}
use Rattle.acl_text.specs.InTurn.{at_place}
use Rattle.acl_text.specs.Results.{◌>>=◌}
use Rattle.acl_names.specs.Paths.{path_of}
use Rattle.acl_names.proofs.Basics.{cases_Result}
use Rattle.acl_text.specs.declared.record.DumpUse.{DumpUse}
use Rattle.acl_text.specs.declared.record.DumpRecord.{DumpRecord}
use Rattle.acl_text.specs.declared.draft.RecordDraft.{RecordDraft}
use Rattle.acl_text.specs.declared.item.Item.{Item}
use Rattle.acl_text.specs.declared.item.Item.TheVariants.{Owner, OwningGroup, Flags, Entry}
use Rattle.acl_text.specs.Groups.{in_turn, streamed}
use Rattle.acl_text.specs.Lines.{content_of}
use Rattle.acl_text.specs.Records.{Numbered, begins, opened_draft, open_record, line_in, close, item_of, add, may_head, with_entry, is_repeated, ends_in_slash, record_of}
use Rattle.acl_text.specs.Faults.{added, IsOfALine, IsOfTheRecord, records_in, IsOfALaterRecord, IsFirstFault}
use Rattle.acl_text.proofs.Streams.{streamed_by_groups}
use Rattle.acl_text.proofs.FirstFaults.{InPiece, InWhole, InLater, reported_found, group_reported, later_reported}

module _ (naming : Naming) where
  abbrev line : Option RecordDraft → Numbered → Result (Option RecordDraft) TextFault
  line draft l = line_in naming draft l

  -- before the first record there is no content
  no_item : (at : ℕ) (r : Result (Option Item) FaultKind) (d : Option RecordDraft) → at_place at (r >>= (λ item. add item None)) (λ new. Ok new) ≡ Ok d → d ≡ None
  no_item at (Err kind) d e = absurd cc
  no_item at (Ok None) d e = cc
  no_item at (Ok (Some item)) d e = absurd cc

  none_added : (ls : List Numbered) (d : Option RecordDraft) → added naming None ls ≡ Ok d → d ≡ None
  none_added [] d e = cc
  none_added (l ∷ ls) d e =
      elim (cases_Result (line None l)) [
        | inl fine ↦
            let none : fine.0 ≡ None = no_item l.0 (item_of naming l.0 (content_of l.1).0 (content_of l.1).1) fine.0 fine.1 in
            none_added ls d (sym (ap (λ r. r >>= (λ more. in_turn line more ls)) (fine.1 ∙ ap (λ n. Ok n) none)) ∙ e)
        | inr bad ↦ absurd cc
      ]

  -- the open record begins at this place
  abbrev IsAtLine : ℕ → Option RecordDraft → Type 0
  IsAtLine at None = Unit {0}
  IsAtLine at (Some d) = d.at ≡ at

  headed_at : (at : ℕ) (b : Bool) (new : RecordDraft) (d : Option RecordDraft) → new.at ≡ at → ((if b then Ok new else Err BadHeader) >>= (λ x. Ok (Some x))) ≡ Ok d → IsAtLine at d
  headed_at at true new d is e = let same : Some new ≡ d = cc in subst (IsAtLine at) same is
  headed_at at false new d is e = absurd cc

  item_at : (at : ℕ) (item : Option Item) (old d : Option RecordDraft) → IsAtLine at old → add item old ≡ Ok d → IsAtLine at d
  item_at at None old d is_at e = let same : old ≡ d = cc in subst (IsAtLine at) same is_at
  item_at at (Some x) None d is_at e = absurd cc
  item_at at (Some (Owner id)) (Some old) d is_at e = headed_at at (may_head old.owner old) (record old { owner = Some id }) d is_at e
  item_at at (Some (OwningGroup id)) (Some old) d is_at e = headed_at at (may_head old.group old) (record old { group = Some id }) d is_at e
  item_at at (Some (Flags flags)) (Some old) d is_at e = headed_at at (may_head old.flags old) (record old { flags = Some flags }) d is_at e
  item_at at (Some (Entry true entry)) (Some old) d is_at e = let same : Some (with_entry true entry old) ≡ d = cc in subst (IsAtLine at) same is_at
  item_at at (Some (Entry false entry)) (Some old) d is_at e = let same : Some (with_entry false entry old) ≡ d = cc in subst (IsAtLine at) same is_at

  judged_at : (at n : ℕ) (r : Result (Option Item) FaultKind) (old d : Option RecordDraft) → IsAtLine at old → at_place n (r >>= (λ item. add item old)) (λ new. Ok new) ≡ Ok d → IsAtLine at d
  judged_at at n (Err kind) old d is_at e = absurd cc
  judged_at at n (Ok item) old d is_at e =
      elim (cases_Result (add item old)) [
        | inl fine ↦
            let same : fine.0 ≡ d = cc (sym (ap (λ j. at_place n j (λ new. let r : Result (Option RecordDraft) TextFault = Ok new in r)) fine.1) ∙ e) in
            subst (IsAtLine at) same (item_at at item old fine.0 is_at fine.1)
        | inr bad ↦ absurd (cc (sym (ap (λ j. at_place n j (λ new. let r : Result (Option RecordDraft) TextFault = Ok new in r)) bad.1) ∙ e))
      ]

  added_at : (at : ℕ) (ls : List Numbered) (old d : Option RecordDraft) → IsAtLine at old → added naming old ls ≡ Ok d → IsAtLine at d
  added_at at [] old d is_at e = let same : old ≡ d = cc in subst (IsAtLine at) same is_at
  added_at at (l ∷ ls) old d is_at e =
      elim (cases_Result (line old l)) [
        | inl fine ↦ added_at at ls fine.0 d (judged_at at l.0 (item_of naming l.0 (content_of l.1).0 (content_of l.1).1) old fine.0 is_at fine.1)
            (sym (ap (λ r. r >>= (λ more. in_turn line more ls)) fine.1) ∙ e)
        | inr bad ↦ absurd (cc (sym (ap (λ r. r >>= (λ more. in_turn line more ls)) bad.1) ∙ e))
      ]

  abbrev draft_of : ℕ → List ℕ → List (List ℕ) → RecordDraft
  draft_of at name path = record { at = at; path = path; slash = ends_in_slash name; owner = None; group = None; flags = None; access = []; dacl = [] }

  abbrev new_draft : List DumpRecord → ℕ → List ℕ → List (List ℕ) → Result RecordDraft FaultKind
  new_draft records at name path = if is_repeated records path then Err RepeatedFile else Ok (draft_of at name path)

  module _ (dump_use : DumpUse) where
    abbrev stream : List DumpRecord → Option RecordDraft → List Numbered → Result (List DumpRecord) TextFault
    stream records draft ls = streamed begins open_record line (close dump_use) records draft ls

    by_stream : (ls : List Numbered) → stream [] None ls ≡ records_in naming dump_use ls
    by_stream ls = streamed_by_groups begins open_record line (close dump_use) [] None ls

    of_piece : (draft : Option RecordDraft) (ls : List Numbered) (fault : TextFault) → InPiece begins open_record line (close dump_use) draft ls fault → IsOfALine naming draft ls fault
    of_piece draft ls fault w =
        record {
          before = w.before;
          line = w.piece;
          after = w.after;
          parts = w.parts;
          same_record = w.same_group;
          begins_none = w.begins_none;
          so_far =
              w.so_far;
          no_fault_before = w.no_fault_before;
          faulty = w.faulty;
        }

    to_piece : (draft : Option RecordDraft) (ls : List Numbered) (fault : TextFault) → IsOfALine naming draft ls fault → InPiece begins open_record line (close dump_use) draft ls fault
    to_piece draft ls fault w =
        record {
          before = w.before;
          piece = w.line;
          after = w.after;
          parts = w.parts;
          same_group = w.same_record;
          begins_none = w.begins_none;
          so_far =
              w.so_far;
          no_fault_before = w.no_fault_before;
          faulty = w.faulty;
        }

    -- an open record keeps its place
    opened_at : (records : List DumpRecord) (l : Numbered) (d : Option RecordDraft) → open_record records l ≡ Ok d → IsAtLine l.0 d
    opened_at records l d e = from_value (content_of l.1).1 d e
      where
        from_path : (bytes : List ℕ) (o : Option (List (List ℕ))) (d : Option RecordDraft)
            → at_place l.0 (ok_or o BadPath >>= new_draft records l.0 bytes) (λ draft. Ok (Some draft)) ≡ Ok d → IsAtLine l.0 d
        from_path bytes None d e = absurd cc
        from_path bytes (Some path) d e = by (is_repeated records path) e
          where
            by : (b : Bool) → at_place l.0 (if b then Err RepeatedFile else Ok (draft_of l.0 bytes path)) (λ draft. Ok (Some draft)) ≡ Ok d → IsAtLine l.0 d
            by true e = absurd cc
            by false e = let same : Some (draft_of l.0 bytes path) ≡ d = cc in subst (IsAtLine l.0) same refl

        from_value : (value : List ℕ) (d : Option RecordDraft) → at_place l.0 (opened_draft records l.0 value) (λ draft. Ok (Some draft)) ≡ Ok d → IsAtLine l.0 d
        from_value [] d e = absurd cc
        from_value (b ∷ bs) d e = from_path (b ∷ bs) (path_of (b ∷ bs)) d e

    whole_at : (at : ℕ) (records : List DumpRecord) (d : Option RecordDraft) (fault : TextFault) → IsAtLine at d → close dump_use records d ≡ Err fault → fault.at ≡ at
    whole_at at records None fault is_at e = absurd cc
    whole_at at records (Some d) fault is_at e = by (record_of dump_use d) e ∙ is_at
      where
        by : (r : Result DumpRecord FaultKind) → at_place d.at r (λ x. let rs : Result (List DumpRecord) TextFault = Ok (records ++ x ∷ []) in rs) ≡ Err fault → fault.at ≡ d.at
        by (Ok x) e = absurd cc
        by (Err kind) e = let same : record { kind = kind; at = d.at } ≡ fault = cc in sym (ap (λ (f : TextFault). f.at) same)

    of_group : (at : ℕ) (records : List DumpRecord) (draft : Option RecordDraft) (ls : List Numbered) (fault : TextFault) → IsAtLine at draft
        → InPiece begins open_record line (close dump_use) draft ls fault ⊎ InWhole begins open_record line (close dump_use) records draft ls fault
        → IsOfTheRecord naming dump_use at records draft ls fault
    of_group at records draft ls fault is_at found =
        elim found [
          | inl w ↦ inl (of_piece draft ls fault w)
          | inr w ↦ inr (record {
            place = whole_at at records w.so_far fault (added_at at w.others draft w.so_far is_at w.no_faulty_piece) w.faulty;
            others =
                w.others;
            after = w.after;
            parts = w.parts;
            same_record = w.same_group;
            ended = w.ends;
            so_far = w.so_far;
            no_faulty_line = w.no_faulty_piece;
            faulty = w.faulty;
          })
        ]

    to_group : (at : ℕ) (records : List DumpRecord) (draft : Option RecordDraft) (ls : List Numbered) (fault : TextFault)
        → IsOfTheRecord naming dump_use at records draft ls fault
        → InPiece begins open_record line (close dump_use) draft ls fault ⊎ InWhole begins open_record line (close dump_use) records draft ls fault
    to_group at records draft ls fault found =
        elim found [
          | inl w ↦ inl (to_piece draft ls fault w)
          | inr w ↦ inr (record {
            others = w.others;
            after = w.after;
            parts = w.parts;
            same_group = w.same_record;
            ends = w.ended;
            so_far = w.so_far;
            no_faulty_piece = w.no_faulty_line;
            faulty = w.faulty;
          })
        ]

    of_later : (ls : List Numbered) (fault : TextFault) → InLater begins open_record line (close dump_use) [] None ls fault → IsOfALaterRecord naming dump_use ls fault
    of_later ls fault w = record {
      before = w.before;
      file = w.head;
      following = w.following;
      parts = w.parts;
      begins_one = w.begins_one;
      records = w.more;
      no_fault_before = sym (by_stream w.before) ∙ w.no_fault_before;
      faulty = elim w.faulty [
        | inl bad ↦ inl bad
        | inr b ↦ inr (record { draft = b.draft; no_fault = b.no_fault; following = of_group w.head.0 w.more b.draft w.following fault (opened_at w.more w.head b.draft b.no_fault) b.following })
      ];
    }

    to_later : (ls : List Numbered) (fault : TextFault) → IsOfALaterRecord naming dump_use ls fault → InLater begins open_record line (close dump_use) [] None ls fault
    to_later ls fault w = record {
      before = w.before;
      head = w.file;
      following = w.following;
      parts = w.parts;
      begins_one = w.begins_one;
      more = w.records;
      no_fault_before = by_stream w.before ∙ w.no_fault_before;
      faulty = elim w.faulty [
        | inl bad ↦ inl bad
        | inr b ↦ inr (record { draft = b.draft; no_fault = b.no_fault; following = to_group w.file.0 w.records b.draft w.following fault b.following })
      ];
    }

    -- nothing is closed before the first record
    no_whole : (ls : List Numbered) (fault : TextFault) → InWhole begins open_record line (close dump_use) [] None ls fault → ⊥
    no_whole ls fault w = cc (sym (ap (λ d. close dump_use [] d) (none_added w.others w.so_far w.no_faulty_piece)) ∙ w.faulty)

    pub reported_is_first : (ls : List Numbered) (fault : TextFault) → records_in naming dump_use ls ≡ Err fault → IsFirstFault naming dump_use ls fault
    reported_is_first ls fault e =
        elim (reported_found begins open_record line (close dump_use) [] None ls fault (by_stream ls ∙ e)) [
          | inl here ↦ elim here [
            | inl w ↦ inl (of_piece None ls fault w)
            | inr w ↦ absurd (no_whole ls fault w)
          ]
          | inr w ↦ inr (of_later ls fault w)
        ]

    pub first_is_reported : (ls : List Numbered) (fault : TextFault) → IsFirstFault naming dump_use ls fault → records_in naming dump_use ls ≡ Err fault
    first_is_reported ls fault first =
        sym (by_stream ls)
        ∙ elim first [
          | inl w ↦ group_reported begins open_record line (close dump_use) [] None ls fault (inl (to_piece None ls fault w))
          | inr w ↦ later_reported begins open_record line (close dump_use) [] None ls fault (to_later ls fault w)
        ]
