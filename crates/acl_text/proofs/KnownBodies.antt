-- Bodies that were read, and the lines of a dump that they are.
use Rattle.std.proofs.Common.{◌≡◌, ℕ, ◌+◌, Bool, true, false, cond, List, [], ◌∷◌, ◌++◌, length, get_or, Option, Some, None, Result, Ok, inl, inr, sym, ap, subst, ◌∙◌, arith, length-append}
use Rattle.std.specs.List.{enumerate_from}
use Rattle.std.proofs.lemmas.List.{append-nil, get_or_append_left}
use Rattle.std.proofs.Math.Seq.{get_or-append_seam}
use Rattle.acl_names.specs.Pieces.{pieces, BeginsWithPiece}
use Rattle.acl_text.specs.Naming.{Naming}
use Rattle.acl_text.specs.declared.fault.TextFault.{TextFault}
use Rattle.acl_text.specs.InTurn.{at_place}
use Rattle.acl_text.specs.Results.{◌>>=◌}
use Rattle.acl_text.specs.declared.bodies.Known.{Known}
use Rattle.acl_text.specs.declared.record.DumpUse.{DumpUse}
use Rattle.acl_text.specs.declared.record.DumpRecord.{DumpRecord}
use Rattle.acl_text.specs.declared.draft.RecordDraft.{RecordDraft}
use Rattle.acl_text.specs.Groups.{in_turn}
use Rattle.acl_text.specs.Lines.{content_of, begins_record}
use Rattle.acl_text.specs.declared.line.LineKind.{LineKind}
use Rattle.acl_text.specs.declared.line.LineKind.TheVariants as lines
use Rattle.acl_text.specs.Records.{add, item_of, line_in, record_of, close}
use Rattle.acl_text.specs.Watched.{stream, open_record, opened_draft}
use Rattle.acl_text.specs.SameBodies.{begins_one, BeginNone, IsBody, Ends, added, closed, Says, ReadsTo, rest_of}
use Rattle.acl_text.specs.KnownBodies.{IsKnown}
use Rattle.acl_text.proofs.CutBodies.{pieces_after}
use Rattle.acl_text.proofs.SameBodies.{line_at}
use Rattle.acl_text.proofs.Streams.{next_assoc}
use Rattle.acl_text.proofs.WatchedPaths.{next-ok, at_place-ok, ok-is}

module _ (naming : Naming) (dump_use : DumpUse) where
  -- ---- what is known stays known

  pub known_more : (records more : List DumpRecord) (k : Known) → IsKnown naming dump_use records k → IsKnown naming dump_use (records ++ more) k
  known_more records more k known = record {
    body = known.body;
    place = let within = known.place in let all = length-append records more in omega (arith, within, all);
    says = λ d. subst (Says naming dump_use k.body.bytes.now) (sym (get_or_append_left records more d k.place known.place)) (known.says d);
  }

  pub known_last : (records : List DumpRecord) (r : DumpRecord) (k : Known) → k.place ≡ length records → IsBody k.body.bytes.now k.body.lines
      → Says naming dump_use k.body.bytes.now r → IsKnown naming dump_use (records ++ r ∷ []) k
  known_last records r k place body says = record {
    body = body;
    place = let all = length-append records (r ∷ []) in omega (arith, place, all);
    says = λ d. subst (Says naming dump_use k.body.bytes.now) (sym (ap (λ n. get_or (records ++ r ∷ []) n d) place ∙ get_or-append_seam records r [] d)) says;
  }

  -- ---- lines of the open record

  abbrev reading : List DumpRecord → Option RecordDraft → ℕ → List (List ℕ) → Result (List DumpRecord) TextFault
  reading records draft at ls = stream naming false dump_use records draft (enumerate_from at ls)

  -- one line, by its content
  abbrev step : List DumpRecord → Option RecordDraft → ℕ → LineKind × List ℕ → Result (List DumpRecord × Option RecordDraft) TextFault
  step records draft at c =
      cond (begins_record c.0) (close dump_use records draft >>= (λ more. at_place at (opened_draft false more at c.1) (λ d. Ok (Some d)) >>= (λ new. Ok (more, new))))
      ((at_place at (item_of naming at c.0 c.1 >>= (λ item. add item draft)) (λ new. Ok new)) >>= (λ more. Ok (records, more)))

  abbrev on : ℕ → List (List ℕ) → Result (List DumpRecord × Option RecordDraft) TextFault → Result (List DumpRecord) TextFault
  on at ls r = r >>= (λ s. reading s.0 s.1 at ls)

  abbrev step_if : Bool → List DumpRecord → Option RecordDraft → ℕ → List ℕ → Result (List DumpRecord × Option RecordDraft) TextFault
  step_if b records draft at l =
      cond b (close dump_use records draft >>= (λ more. open_record false more (at, l) >>= (λ new. Ok (more, new)))) (line_in naming draft (at, l) >>= (λ more. Ok (records, more)))

  line_first : (b : Bool) (records : List DumpRecord) (draft : Option RecordDraft) (at : ℕ) (l : List ℕ) (ls : List (List ℕ)) → b ≡ false
      → on (at + 1) ls (step_if b records draft at l) ≡ (line_in naming draft (at, l) >>= (λ more. reading records more (at + 1) ls))
  line_first true records draft at l ls e = absurd (cc e)
  line_first false records draft at l ls e = next_assoc (line_in naming draft (at, l)) (λ more. Ok (records, more)) (λ s. reading s.0 s.1 (at + 1) ls)

  lines_first : (ls ks : List (List ℕ)) (records : List DumpRecord) (draft more : Option RecordDraft) (at : ℕ) → BeginNone ls → in_turn (line_in naming) draft (enumerate_from at ls) ≡ Ok more
      → reading records draft at (ls ++ ks) ≡ reading records more (at + length ls) ks
  lines_first [] ks records draft more at none e = ap (λ d. reading records d at ks) (ok-is draft more e) ∙ ap (λ n. reading records more n ks) (let n : at ≡ at + 0 = omega arith in n)
  lines_first (l ∷ ls) ks records draft more at none e =
      let s = next-ok (line_in naming draft (at, l)) (λ d. in_turn (line_in naming) d (enumerate_from (at + 1) ls)) more e in
      line_first (begins_one l) records draft at l (ls ++ ks) none.0
      ∙ (ap (λ r. r >>= (λ more. reading records more (at + 1) (ls ++ ks))) s.1.0
      ∙ (lines_first ls ks records s.0 more (at + 1) none.1 s.1.1
      ∙ ap (λ n. reading records more n ks) (let n : (at + 1) + length ls ≡ at + length (l ∷ ls) = omega arith in n)))

  -- where nothing more belongs to a record, it is closed
  begins_next : (b : Bool) (records all : List DumpRecord) (draft : Option RecordDraft) (at : ℕ) (l : List ℕ) (ls : List (List ℕ)) → b ≡ true → close dump_use records draft ≡ Ok all
      → on (at + 1) ls (step_if b records draft at l) ≡ on (at + 1) ls (step_if b all None at l)
  begins_next true records all draft at l ls e closes = ap (λ r. on (at + 1) ls (r >>= (λ more. open_record false more (at, l) >>= (λ new. Ok (more, new))))) closes
  begins_next false records all draft at l ls e closes = absurd (cc e)

  pub closed_before : (records all : List DumpRecord) (draft : Option RecordDraft) (at : ℕ) (after : List ℕ) → Ends after
      → close dump_use records draft ≡ Ok all → reading records draft at (pieces 10 after) ≡ reading all None at (pieces 10 after)
  closed_before records all draft at after ends closes =
      elim ends [
        | inl empty ↦ ap (λ t. reading records draft at (pieces 10 t)) empty ∙ (closes ∙ sym (ap (λ t. reading all None at (pieces 10 t)) empty))
        | inr b ↦
            ap (λ ls. reading records draft at ls) b.parts
            ∙ (begins_next (begins_one b.first) records all draft at b.first b.others b.begins closes
            ∙ sym (ap (λ ls. reading all None at ls) b.parts))
      ]

  -- an empty line at the end adds nothing
  last_empty : (ls : List (List ℕ)) (draft more : Option RecordDraft) (at : ℕ) → in_turn (line_in naming) draft (enumerate_from at (ls ++ [] ∷ [])) ≡ Ok more
      → in_turn (line_in naming) draft (enumerate_from at ls) ≡ Ok more
  last_empty [] draft more at e = e
  last_empty (l ∷ ls) draft more at e =
      let s = next-ok (line_in naming draft (at, l)) (λ d. in_turn (line_in naming) d (enumerate_from (at + 1) (ls ++ [] ∷ []))) more e in
      ap (λ r. r >>= (λ d. in_turn (line_in naming) d (enumerate_from (at + 1) ls))) s.1.0 ∙ last_empty ls s.0 more (at + 1) s.1.1

  -- a record whose body ends where the next record begins, or with the dump
  pub reads_to : (records more : List DumpRecord) (draft : RecordDraft) (text body after : List ℕ) (count : ℕ) → text ≡ body ++ after → IsBody body count → Ends after
      → ((from : ℕ) → closed naming dump_use records draft from body ≡ Ok more) → ReadsTo naming dump_use records draft text more count after
  reads_to records more draft text body after count parts is ends closes at =
      let s = next-ok (added naming (Some draft) at body) (λ whole. close dump_use records whole) more (closes at) in
      let adds = last_empty is.each (Some draft) s.0 at (sym (ap (λ ls. in_turn (line_in naming) (Some draft) (enumerate_from at ls)) is.parts) ∙ s.1.0) in
      ap (λ ls. reading records (Some draft) at ls) (ap (pieces 10) parts ∙ pieces_after body after is.each is.parts)
      ∙ (lines_first is.each (pieces 10 after) records (Some draft) s.0 at is.none adds
      ∙ (closed_before records more s.0 (at + length is.each) after ends s.1.1
      ∙ ap (λ n. reading more None (at + n) (pieces 10 after)) is.counted))

  -- one line of the open record
  pub line_read : (records : List DumpRecord) (draft more : Option RecordDraft) (at k : ℕ) (rest line after : List ℕ) → BeginsWithPiece 10 rest line after
      → begins_one line ≡ false → line_in naming draft (k, line) ≡ Ok more
      → reading records draft at (pieces 10 rest) ≡ reading records more (at + 1) (pieces 10 after)
  line_read records draft more at k rest line after cut begins_none adds =
      let adds_here = line_at naming k at line draft more adds in
      elim cut [
        | inl parts ↦
            ap (λ ls. reading records draft at ls) parts
            ∙ (line_first (begins_one line) records draft at line (pieces 10 after) begins_none
            ∙ ap (λ r. r >>= (λ more. reading records more (at + 1) (pieces 10 after))) adds_here)
        | inr last ↦
            ap (λ ls. reading records draft at ls) last.0
            ∙ (line_first (begins_one line) records draft at line [] begins_none
            ∙ (ap (λ r. r >>= (λ more. reading records more (at + 1) [])) adds_here
            ∙ sym (ap (λ t. reading records more (at + 1) (pieces 10 t)) last.1)))
      ]

  -- what closes a record leaves those before it
  pub closed_more : (records all : List DumpRecord) (draft : Option RecordDraft) → close dump_use records draft ≡ Ok all → (more : List DumpRecord) × (all ≡ records ++ more)
  closed_more records all None e = ([], sym (ok-is records all e) ∙ sym (append-nil records))
  closed_more records all (Some draft) e =
      let s = at_place-ok draft.at (record_of dump_use draft) (λ r. Ok (records ++ r ∷ [])) all e in
      (s.0 ∷ [], sym (ok-is (records ++ s.0 ∷ []) all s.1.1))

  -- a `file:` line, and what it opens
  pub file_read : (records more : List DumpRecord) (draft : RecordDraft) (at count : ℕ) (rest line text after : List ℕ) (c : LineKind × List ℕ)
      → pieces 10 rest ≡ line ∷ pieces 10 text → c ≡ content_of line → c.0 ≡ lines.File
      → opened_draft false records at c.1 ≡ Ok draft → ReadsTo naming dump_use records draft text more count after
      → rest_of naming dump_use records at rest ≡ rest_of naming dump_use more (at + (count + 1)) after
  file_read records more draft at count rest line text after c parts same is opens reads =
      let ls = pieces 10 text in
      ap (λ ls. reading records None at ls) parts
      ∙ (ap (λ c. on (at + 1) ls (step records None at c)) (sym same)
      ∙ (ap (λ k. on (at + 1) ls (step records None at (k, c.1))) is
      ∙ (ap (λ d. on (at + 1) ls (at_place at d (λ d. Ok (Some d)) >>= (λ new. Ok (records, new)))) opens
      ∙ (reads (at + 1)
      ∙ ap (λ n. reading more None n (pieces 10 after)) (let n : (at + 1) + count ≡ at + (count + 1) = omega arith in n)))))

  -- a line without content, where no record is open
  pub nothing_read : (records : List DumpRecord) (at : ℕ) (rest line text : List ℕ) (c : LineKind × List ℕ) → pieces 10 rest ≡ line ∷ pieces 10 text → c ≡ content_of line → c.0 ≡ lines.Nothing
      → rest_of naming dump_use records at rest ≡ rest_of naming dump_use records (at + 1) text
  nothing_read records at rest line text c parts same is =
      let ls = pieces 10 text in
      ap (λ ls. reading records None at ls) parts
      ∙ (ap (λ c. on (at + 1) ls (step records None at c)) (sym same)
      ∙ ap (λ k. on (at + 1) ls (step records None at (k, c.1))) is)
