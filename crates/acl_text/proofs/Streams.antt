-- Groups that are read as a stream.
use Rattle.std.proofs.Common.{◌≡◌, List, [], ◌∷◌, Bool, true, false, cond, Option, Result, Ok, Err, refl, sym, ◌∙◌}
use Rattle.acl_text.specs.declared.fault.TextFault.{TextFault}
use Rattle.acl_text.specs.Groups.{in_turn, grouped, put_front, group_of, by_groups, streamed}
use Rattle.acl_text.specs.Naming.{Naming}
use Rattle.acl_text.specs.Records.{Numbered, begins, open_record, line_in, close}
use Rattle.acl_text.specs.Results.{◌>>=◌}
use Rattle.acl_text.specs.declared.draft.RecordDraft.{RecordDraft}
use Rattle.acl_text.specs.declared.record.DumpRecord.{DumpRecord}
use Rattle.acl_text.specs.declared.record.DumpUse.{DumpUse}

pub next_assoc : {A B C : Type 0} (r : Result A TextFault) (f : A → Result B TextFault) (g : B → Result C TextFault) → ((r >>= f) >>= g) ≡ (r >>= (λ x. f x >>= g))
next_assoc (Ok x) f g = refl
next_assoc (Err e) f g = refl

next_same : {A B : Type 0} (r : Result A TextFault) (f g : A → Result B TextFault) → ((x : A) → f x ≡ g x) → (r >>= f) ≡ (r >>= g)
next_same (Ok x) f g same = same x
next_same (Err e) f g same = refl

next_ok : {A : Type 0} (r : Result A TextFault) → (r >>= (λ x. Ok x)) ≡ r
next_ok (Ok x) = refl
next_ok (Err e) = refl

module _ {S D P : Type 0} (begins : P → Bool) (first : S → P → Result D TextFault) (line : D → P → Result D TextFault) (close : S → D → Result S TextFault) where
  abbrev stream : S → D → List P → Result S TextFault
  stream = streamed begins first line close

  abbrev groups : S → D → List P × List (P × List P) → Result S TextFault
  groups = by_groups begins first line close

  abbrev step_by : Bool → S → D → P → Result (S × D) TextFault
  step_by b item draft p = cond b (close item draft >>= (λ more. first more p >>= (λ new. Ok (more, new)))) (line draft p >>= (λ more. Ok (item, more)))

  by_case : (item : S) (draft : D) (p : P) (ps : List P) (b : Bool) → ((s : S) (d : D) → stream s d ps ≡ groups s d (grouped begins ps))
      → (step_by b item draft p >>= (λ s. stream s.0 s.1 ps)) ≡ groups item draft (put_front b p (grouped begins ps))
  by_case item draft p ps true again =
      let g = grouped begins ps in
      next_assoc (close item draft) (λ more. first more p >>= (λ new. Ok (more, new))) (λ s. stream s.0 s.1 ps)
      ∙ next_same (close item draft) (λ more. (first more p >>= (λ new. Ok (more, new))) >>= (λ s. stream s.0 s.1 ps)) (λ more. in_turn (group_of begins first line close) more ((p, g.0) ∷ g.1))
      (λ more.
      next_assoc (first more p) (λ new. Ok (more, new)) (λ s. stream s.0 s.1 ps)
      ∙ next_same (first more p) (λ new. stream more new ps) (λ new. groups more new g) (λ new. again more new)
      ∙ sym (next_assoc (first more p) (λ new. in_turn line new g.0 >>= (λ whole. close more whole)) (λ last. in_turn (group_of begins first line close) last g.1)
      ∙ next_same (first more p)
      (λ new. (in_turn line new g.0 >>= (λ whole. close more whole)) >>= (λ last. in_turn (group_of begins first line close) last g.1))
      (λ new. groups more new g) (λ new. next_assoc (in_turn line new g.0) (λ whole. close more whole) (λ last. in_turn (group_of begins first line close) last g.1))))
  by_case item draft p ps false again =
      let g = grouped begins ps in
      next_assoc (line draft p) (λ more. Ok (item, more)) (λ s. stream s.0 s.1 ps)
      ∙ next_same (line draft p) (λ more. stream item more ps) (λ more. groups item more g) (λ more. again item more)
      ∙ sym (next_assoc (line draft p) (λ more. in_turn line more g.0) (λ whole. close item whole >>= (λ more. in_turn (group_of begins first line close) more g.1)))

  pub streamed_by_groups : (item : S) (draft : D) (ps : List P) → streamed begins first line close item draft ps ≡ by_groups begins first line close item draft (grouped begins ps)
  streamed_by_groups item draft [] = sym (next_ok (close item draft))
  streamed_by_groups item draft (p ∷ ps) = by_case item draft p ps (begins p) (λ s d. streamed_by_groups s d ps)

-- a dump that is read line by line
abbrev pub dump_stream : Naming → DumpUse → List DumpRecord → Option RecordDraft → List Numbered → Result (List DumpRecord) TextFault
dump_stream naming dump_use records draft lines = streamed begins open_record (line_in naming) (close dump_use) records draft lines
