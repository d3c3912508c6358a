-- The first fault of pieces in groups, and that each such fault is returned.
use Rattle.std.proofs.Common.{◌≡◌, List, [], ◌∷◌, ◌++◌, Bool, true, false, cond, Result, Ok, Err, refl, sym, ap, ◌∙◌, inl, inr}
use Rattle.std.specs.Prelude.{◌⊎◌}
use Rattle.std.specs.List.{AllByRecursion}
use Rattle.std.proofs.lemmas.Bool.{cases_Bool}
use Rattle.acl_names.proofs.Basics.{cases_Result}
use Rattle.acl_text.specs.declared.fault.TextFault.{TextFault}
use Rattle.acl_text.specs.Groups.{in_turn, streamed}
use Rattle.acl_text.proofs.Streams.{next_assoc}
use Rattle.acl_text.specs.Results.{◌>>=◌}

same_fault : {A : Type 0} (e f : TextFault) → (let r : Result A TextFault = Err e in r ≡ Err f) → e ≡ f
same_fault e f h = cc

module _ {S D P : Type 0} (begins : P → Bool) (first : S → P → Result D TextFault) (line : D → P → Result D TextFault) (close : S → D → Result S TextFault) where
  abbrev none_begins : List P → Type 0
  none_begins ps = AllByRecursion (λ p. begins p ≡ false) ps

  abbrev ended : List P → Type 0
  ended [] = Unit {0}
  ended (p ∷ ps) = begins p ≡ true

  abbrev stream : S → D → List P → Result S TextFault
  stream item draft ps = streamed begins first line close item draft ps

  pub record InPiece (draft : D) (ps : List P) (fault : TextFault) : Type 0 where
    pub before : List P
    pub piece : P
    pub after : List P
    pub parts : ps ≡ before ++ piece ∷ after
    pub same_group : none_begins before
    pub begins_none : begins piece ≡ false
    pub so_far : D
    pub no_fault_before : in_turn line draft before ≡ Ok so_far
    pub faulty : line so_far piece ≡ Err fault

  pub record InWhole (item : S) (draft : D) (ps : List P) (fault : TextFault) : Type 0 where
    pub others : List P
    pub after : List P
    pub parts : ps ≡ others ++ after
    pub same_group : none_begins others
    pub ends : ended after
    pub so_far : D
    pub no_faulty_piece : in_turn line draft others ≡ Ok so_far
    pub faulty : close item so_far ≡ Err fault

  pub record IsInAFollowing (item : S) (head : P) (ps : List P) (fault : TextFault) : Type 0 where
    pub draft : D
    pub no_fault : first item head ≡ Ok draft
    pub following : InPiece draft ps fault ⊎ InWhole item draft ps fault

  pub record InLater (item : S) (draft : D) (ps : List P) (fault : TextFault) : Type 0 where
    pub before : List P
    pub head : P
    pub following : List P
    pub parts : ps ≡ before ++ head ∷ following
    pub begins_one : begins head ≡ true
    pub more : S
    pub no_fault_before : stream item draft before ≡ Ok more
    pub faulty : (first more head ≡ Err fault) ⊎ IsInAFollowing more head following fault

  abbrev pub Found : S → D → List P → TextFault → Type 0
  Found item draft ps fault = (InPiece draft ps fault ⊎ InWhole item draft ps fault) ⊎ InLater item draft ps fault

  -- ---- what is returned is the first fault

  abbrev with_draft : S → Result D TextFault → Result (S × D) TextFault
  with_draft item r = r >>= (λ new. Ok (item, new))

  abbrev with_item : P → Result S TextFault → Result (S × D) TextFault
  with_item p r = r >>= (λ more. with_draft more (first more p))

  abbrev goes_on : List P → Result (S × D) TextFault → Result S TextFault
  goes_on ps r = r >>= (λ s. stream s.0 s.1 ps)

  abbrev step_by : Bool → S → D → P → Result (S × D) TextFault
  step_by b item draft p = cond b (with_item p (close item draft)) (with_draft item (line draft p))

  on_line : (item : S) (draft new : D) (p : P) (ps : List P) → begins p ≡ false → line draft p ≡ Ok new → stream item draft (p ∷ ps) ≡ stream item new ps
  on_line item draft new p ps plain fine =
      ap (λ b. goes_on ps (step_by b item draft p)) plain
      ∙ ap (λ r. goes_on ps (with_draft item r)) fine

  bad_line : (item : S) (draft : D) (p : P) (ps : List P) (e : TextFault) → begins p ≡ false → line draft p ≡ Err e → stream item draft (p ∷ ps) ≡ Err e
  bad_line item draft p ps e plain bad =
      ap (λ b. goes_on ps (step_by b item draft p)) plain
      ∙ ap (λ r. goes_on ps (with_draft item r)) bad

  bad_whole : (item : S) (draft : D) (p : P) (ps : List P) (e : TextFault) → begins p ≡ true → close item draft ≡ Err e → stream item draft (p ∷ ps) ≡ Err e
  bad_whole item draft p ps e heads bad =
      ap (λ b. goes_on ps (step_by b item draft p)) heads
      ∙ ap (λ r. goes_on ps (with_item p r)) bad

  -- a piece that begins a group, once the group before it is closed
  on_head : (item more : S) (draft : D) (p : P) (ps : List P) → begins p ≡ true → close item draft ≡ Ok more → stream item draft (p ∷ ps) ≡ (first more p >>= (λ new. stream more new ps))
  on_head item more draft p ps heads fine =
      ap (λ b. goes_on ps (step_by b item draft p)) heads
      ∙ (ap (λ r. goes_on ps (with_item p r)) fine
      ∙ next_assoc (first more p) (λ new. Ok (more, new)) (λ s. stream s.0 s.1 ps))

  -- a fault after a line that is not faulty
  after_line : (item : S) (draft new : D) (p : P) (ps : List P) (fault : TextFault) → begins p ≡ false → line draft p ≡ Ok new → Found item new ps fault → Found item draft (p ∷ ps) fault
  after_line item draft new p ps fault plain fine found =
      elim found [
        | inl here ↦ elim here [
          | inl w ↦ inl (inl (record {
            before = p ∷ w.before;
            piece = w.piece;
            after = w.after;
            parts = ap (λ (qs : List P). p ∷ qs) w.parts;
            same_group = (plain, w.same_group);
            begins_none = w.begins_none;
            so_far = w.so_far;
            no_fault_before = ap (λ r. r >>= (λ more. in_turn line more w.before)) fine ∙ w.no_fault_before;
            faulty = w.faulty;
          }))
          | inr w ↦ inl (inr (record {
            others = p ∷ w.others;
            after = w.after;
            parts = ap (λ (qs : List P). p ∷ qs) w.parts;
            same_group = (plain, w.same_group);
            ends = w.ends;
            so_far = w.so_far;
            no_faulty_piece = ap (λ r. r >>= (λ more. in_turn line more w.others)) fine ∙ w.no_faulty_piece;
            faulty = w.faulty;
          }))
        ]
        | inr w ↦ inr (record {
          before = p ∷ w.before;
          head = w.head;
          following = w.following;
          parts = ap (λ (qs : List P). p ∷ qs) w.parts;
          begins_one = w.begins_one;
          more = w.more;
          no_fault_before = on_line item draft new p w.before plain fine ∙ w.no_fault_before;
          faulty = w.faulty;
        })
      ]

  -- a fault after a piece that begins a group and is not faulty
  after_head : (item more : S) (draft new : D) (p : P) (ps : List P) (fault : TextFault) → begins p ≡ true → close item draft ≡ Ok more → first more p ≡ Ok new
      → Found more new ps fault → Found item draft (p ∷ ps) fault
  after_head item more draft new p ps fault heads closed fine found =
      elim found [
        | inl here ↦ inr (record {
          before = [];
          head = p;
          following = ps;
          parts = refl;
          begins_one = heads;
          more = more;
          no_fault_before = closed;
          faulty = inr (record { draft = new; no_fault = fine; following = here });
        })
        | inr w ↦ inr (record {
          before = p ∷ w.before;
          head = w.head;
          following = w.following;
          parts = ap (λ (qs : List P). p ∷ qs) w.parts;
          begins_one = w.begins_one;
          more = w.more;
          no_fault_before = on_head item more draft p w.before heads closed ∙ (ap (λ r. r >>= (λ d. stream more d w.before)) fine ∙ w.no_fault_before);
          faulty = w.faulty;
        })
      ]

  whole_here : (item : S) (draft : D) (ps : List P) (fault : TextFault) → ended ps → close item draft ≡ Err fault → Found item draft ps fault
  whole_here item draft ps fault ends bad = inl (inr (record { others = []; after = ps; parts = refl; same_group = tt; ends = ends; so_far = draft; no_faulty_piece = refl; faulty = bad }))

  head_here : (item more : S) (draft : D) (p : P) (ps : List P) (fault : TextFault) → begins p ≡ true → close item draft ≡ Ok more → first more p ≡ Err fault → Found item draft (p ∷ ps) fault
  head_here item more draft p ps fault heads closed bad =
      inr (record { before = []; head = p; following = ps; parts = refl; begins_one = heads; more = more; no_fault_before = closed; faulty = inl bad })

  piece_here : (item : S) (draft : D) (p : P) (ps : List P) (fault : TextFault) → begins p ≡ false → line draft p ≡ Err fault → Found item draft (p ∷ ps) fault
  piece_here item draft p ps fault plain bad =
      inl (inl (record { before = []; piece = p; after = ps; parts = refl; same_group = tt; begins_none = plain; so_far = draft; no_fault_before = refl; faulty = bad }))

  pub reported_found : (item : S) (draft : D) (ps : List P) (fault : TextFault) → stream item draft ps ≡ Err fault → Found item draft ps fault
  reported_found item draft [] fault e = whole_here item draft [] fault tt e
  reported_found item draft (p ∷ ps) fault e =
      elim (cases_Bool (begins p)) [
        | inl heads ↦ elim (cases_Result (close item draft)) [
          | inr bad ↦ whole_here item draft (p ∷ ps) fault heads (bad.1 ∙ (sym (bad_whole item draft p ps bad.0 heads bad.1) ∙ e))
          | inl closed ↦
              let rest = sym (on_head item closed.0 draft p ps heads closed.1) ∙ e in
              elim (cases_Result (first closed.0 p)) [
                | inr bad ↦ head_here item closed.0 draft p ps fault heads closed.1
                    (bad.1 ∙ ap (λ x. Err x) (same_fault {A = S} bad.0 fault (sym (ap (λ r. r >>= (λ new. stream closed.0 new ps)) bad.1) ∙ rest)))
                | inl fine ↦ after_head item closed.0 draft fine.0 p ps fault heads closed.1 fine.1
                    (reported_found closed.0 fine.0 ps fault (sym (ap (λ r. r >>= (λ new. stream closed.0 new ps)) fine.1) ∙ rest))
              ]
        ]
        | inr plain ↦ elim (cases_Result (line draft p)) [
          | inr bad ↦ piece_here item draft p ps fault plain (bad.1 ∙ ap (λ x. Err x) (same_fault {A = S} bad.0 fault (sym (bad_line item draft p ps bad.0 plain bad.1) ∙ e)))
          | inl fine ↦ after_line item draft fine.0 p ps fault plain fine.1 (reported_found item fine.0 ps fault (sym (on_line item draft fine.0 p ps plain fine.1) ∙ e))
        ]
      ]

  -- ---- the first fault is returned

  -- pieces of one group, without a fault
  along : (item : S) (draft new : D) (before ps : List P) → none_begins before → in_turn line draft before ≡ Ok new → stream item draft (before ++ ps) ≡ stream item new ps
  along item draft new [] ps none fine = let same : draft ≡ new = cc in ap (λ (d : D). stream item d ps) same
  along item draft new (p ∷ before) ps none fine =
      elim (cases_Result (line draft p)) [
        | inl one ↦
            on_line item draft one.0 p (before ++ ps) none.0 one.1
            ∙ along item one.0 new before ps none.1 (sym (ap (λ r. r >>= (λ more. in_turn line more before)) one.1) ∙ fine)
        | inr bad ↦ absurd (cc (ap (λ r. r >>= (λ more. in_turn line more before)) bad.1))
      ]

  -- whole groups, without a fault
  past : (item more : S) (draft : D) (before : List P) (p : P) (ps : List P) → begins p ≡ true → stream item draft before ≡ Ok more
      → stream item draft (before ++ p ∷ ps) ≡ (first more p >>= (λ new. stream more new ps))
  past item more draft [] p ps heads fine = on_head item more draft p ps heads fine
  past item more draft (q ∷ before) p ps heads fine =
      elim (cases_Bool (begins q)) [
        | inl head ↦ elim (cases_Result (close item draft)) [
          | inr bad ↦ absurd (cc (bad_whole item draft q before bad.0 head bad.1))
          | inl closed ↦ elim (cases_Result (first closed.0 q)) [
            | inr bad ↦ absurd (cc (on_head item closed.0 draft q before head closed.1, ap (λ r. r >>= (λ new. stream closed.0 new before)) bad.1))
            | inl one ↦
                on_head item closed.0 draft q (before ++ p ∷ ps) head closed.1
                ∙ (ap (λ r. r >>= (λ new. stream closed.0 new (before ++ p ∷ ps))) one.1
                ∙ past closed.0 more one.0 before p ps heads (sym (on_head item closed.0 draft q before head closed.1 ∙ ap (λ r. r >>= (λ new. stream closed.0 new before)) one.1) ∙ fine))
          ]
        ]
        | inr plain ↦ elim (cases_Result (line draft q)) [
          | inr bad ↦ absurd (cc (bad_line item draft q before bad.0 plain bad.1))
          | inl one ↦
              on_line item draft one.0 q (before ++ p ∷ ps) plain one.1
              ∙ past item more one.0 before p ps heads (sym (on_line item draft one.0 q before plain one.1) ∙ fine)
        ]
      ]

  whole_reported : (item : S) (draft : D) (ps : List P) (fault : TextFault) → ended ps → close item draft ≡ Err fault → stream item draft ps ≡ Err fault
  whole_reported item draft [] fault ends bad = bad
  whole_reported item draft (p ∷ ps) fault ends bad = bad_whole item draft p ps fault ends bad

  pub group_reported : (item : S) (draft : D) (ps : List P) (fault : TextFault) → InPiece draft ps fault ⊎ InWhole item draft ps fault → stream item draft ps ≡ Err fault
  group_reported item draft ps fault found =
      elim found [
        | inl w ↦ ap (λ (qs : List P). stream item draft qs) w.parts
            ∙ (along item draft w.so_far w.before (w.piece ∷ w.after) w.same_group w.no_fault_before ∙ bad_line item w.so_far w.piece w.after fault w.begins_none w.faulty)
        | inr w ↦ ap (λ (qs : List P). stream item draft qs) w.parts
            ∙ (along item draft w.so_far w.others w.after w.same_group w.no_faulty_piece ∙ whole_reported item w.so_far w.after fault w.ends w.faulty)
      ]

  pub later_reported : (item : S) (draft : D) (ps : List P) (fault : TextFault) → InLater item draft ps fault → stream item draft ps ≡ Err fault
  later_reported item draft ps fault w =
      ap (λ (qs : List P). stream item draft qs) w.parts
      ∙ (past item w.more draft w.before w.head w.following w.begins_one w.no_fault_before
      ∙ elim w.faulty [
        | inl bad ↦ ap (λ r. r >>= (λ new. stream w.more new w.following)) bad
        | inr b ↦ ap (λ r. r >>= (λ new. stream w.more new w.following)) b.no_fault ∙ group_reported w.more b.draft w.following fault b.following
      ])
