-- How a run ends, from how far it has come.
use Rattle.std.proofs.Common.{◌≡◌, ◌≤◌, ◌+◌, ◌-◌, ℕ, Bool, true, false, List, [], ◌∷◌, ◌++◌, length, length-append, length-take, take, drop, Option, None}
use Rattle.std.proofs.Common.{Some, Result, Ok, Err, refl, sym, ap, ◌∙◌, subst, arith, append_assoc, append-nil}
use Rattle.std.specs.Prelude.{IfSome}
use lib.Seq.{take-append_seam}
use Rattle.std.specs.Io.KnownBytes.{Consumes, Keeps, IsAtEnd, prepend_known}
use Rattle.std.proofs.KnownBytes.{Appends-trans}
use Rattle.std.proofs.lemmas.Option.{none-some}
use Rattle.facl_script.specs.declared.fault.ScriptFault.{ScriptFault}
use Rattle.facl_script.specs.declared.fault.ScriptFault.TheVariants.{Read, Write, TooLong, NoMemory}
use Rattle.facl_script.specs.declared.source.ByteSource.{ByteSource}
use Rattle.facl_script.specs.Limits.{script_limit, chunk_limit}
use Rattle.facl_script.specs.declared.unit.Script.{Script}
use Rattle.facl_script.specs.ByteSource.{pending, taken_count, StopsAfter}
use Rattle.facl_script.specs.Script.{script_left, script_taken}
use Rattle.facl_script.specs.Lines.{lines_of}
use Rattle.facl_script.specs.Units.{ScriptUnit, outside, cut, units_of, full_units, HasNoUnit}
use Rattle.facl_script.specs.ReadUnit.{IsNextUnit}
use Rattle.facl_script.specs.Play.{Answer, joined, play, session}
use Rattle.facl_script.specs.Streams.{Streams, Moment}
use Rattle.facl_script.specs.Write.{Writes}
use Rattle.facl_script.specs.Run.{IsGiven, Breaks, Ends, IsAnswered, StopsWith}
use Rattle.facl_script.proofs.Progress.{Progress}
use Rattle.facl_script.proofs.SourceLemmas.{stops_later}
use Rattle.facl_script.proofs.ProgressLemmas.{full_answer, next_splits, updated, updated_at, updated_agrees}

pub Consumes-none : (none : List ℕ) (a : Option (List ℕ)) → none ≡ [] → Consumes a (prepend_known none a) []
Consumes-none none None h = tt
Consumes-none none (Some x) h = rw h refl

pub left_consumes : (a b : Option (List ℕ)) → b ≡ a → Consumes a b []
left_consumes None b h = tt
left_consumes (Some x) b h = subst (λ (o : Option (List ℕ)). Consumes (Some x) o []) (sym h) refl

pub Keeps-refl : (a : Option (List ℕ)) → Keeps a a
Keeps-refl None = tt
Keeps-refl (Some x) = refl

pub gives_same : {S : Type 0} (a b : Answer S) (old new : Moment S) → a ≡ b → IsGiven a old new → IsGiven b old new
gives_same a b old new h g = subst (λ (x : Answer _). IsGiven x old new) h g

pending_short : (s : ByteSource) → length (pending s) ≤ chunk_limit
pending_short s = omega (arith, s.in_chunk, length-take (s.end - s.start) (drop s.start s.chunk))

units_answered : {S : Type 0} (asks : List ℕ → Bool) (answered : Bool → ScriptUnit → S → Answer S) (old new : Moment S) (taken : List ℕ) (number : ℕ)
    (answer_so_far : Answer S) → Progress asks answered old.state taken number false answer_so_far
    → (tail : List ℕ) → HasNoUnit asks tail → IsGiven answer_so_far old new → IsAnswered answered (full_units (units_of asks (taken ++ tail))) old new
units_answered asks answered old new taken number answer_so_far p tail none g =
    record { m = p.m; gives = gives_same answer_so_far _ old new (sym (full_answer asks answered old.state taken number answer_so_far p tail none)) g }

stops_known : {S : Type 0} (asks : List ℕ → Bool) (answered : Bool → ScriptUnit → S → Answer S) (old new : Moment S) (fault : ScriptFault) (script : List ℕ)
    (r : Option (List ℕ)) (s : ByteSource) (failed : Bool)
    (taken : List ℕ) (number : ℕ) (answer_so_far : Answer S) → Progress asks answered old.state taken number false answer_so_far → (tail : List ℕ) → HasNoUnit asks tail
    → StopsAfter fault (Some script) s r failed (taken ++ tail) → taken_count s ≡ length (taken ++ tail) → IsGiven answer_so_far old new → StopsWith asks fault answered script r old new
stops_known asks answered old new Read script r s failed taken number answer_so_far p tail none stop count g =
    (taken ++ tail, stop.0, units_answered asks answered old new taken number answer_so_far p tail none g)
stops_known asks answered old new TooLong script None s failed taken number answer_so_far p tail none stop count g = absurd stop.0.2
stops_known asks answered old new TooLong script (Some rest) s failed taken number answer_so_far p tail none stop count g =
    let more = stop.0.0 in
    let all : script ≡ (taken ++ tail) ++ (more ++ rest) = stop.0.2 ∙ append_assoc (taken ++ tail) more rest in
    let len : length (taken ++ tail) ≡ script_limit = sym count ∙ stop.2 in
    let front : take script_limit script ≡ taken ++ tail = ap (λ l. take script_limit l) all ∙ ap (λ n. take n ((taken ++ tail) ++ (more ++ rest))) (sym len)
    ∙ take-append_seam (taken ++ tail) (more ++ rest) in (
      more,
      stop.0.1,
      rw front stop.0.2,
      omega (arith, len, stop.0.1, ap length all, length-append (taken ++ tail) (more ++ rest), length-append more rest),
      rw front (units_answered asks answered old new taken number answer_so_far p tail none g),
    )
stops_known asks answered old new NoMemory script None s failed taken number answer_so_far p tail none stop count g = absurd stop
stops_known asks answered old new NoMemory script (Some rest) s failed taken number answer_so_far p tail none stop count g =
    (taken ++ tail, pending s, stop ∙ sym (append_assoc (taken ++ tail) (pending s) rest), pending_short s, units_answered asks answered old new taken number answer_so_far p tail none g)
stops_known asks answered old new Write script r s failed taken number answer_so_far p tail none stop count g = absurd stop

-- the source stopped: what was written is the answer to the units done
pub stops_reading : {S : Type 0} (asks : List ℕ → Bool) (answered : Bool → ScriptUnit → S → Answer S) (old new : Moment S) (fault : ScriptFault)
    (a mid r : Option (List ℕ)) (s : Script) (failed : Bool)
    (taken : List ℕ) (number : ℕ) (answer_so_far : Answer S) → Progress asks answered old.state taken number false answer_so_far → (tail : List ℕ) → HasNoUnit asks tail
    → Consumes a mid taken → StopsAfter fault mid s.source r failed tail → script_taken s ≡ length taken + length tail → IsGiven answer_so_far old new
    → IfSome a (λ script. StopsWith asks fault answered script r old new)
stops_reading asks answered old new fault None mid r s failed taken number answer_so_far p tail none c stop count g = tt
stops_reading asks answered old new fault (Some script) mid r s failed taken number answer_so_far p tail none c stop count g =
    stops_known asks answered old new fault script r s.source failed taken number answer_so_far p tail none
    (stops_later fault s.source (Some script) mid r failed taken tail c stop) (omega (arith, count, length-append taken tail)) g

pub Writes-joined : (old mid new : Streams) (a_out a_err b_out b_err : List ℕ) → Writes old mid a_out a_err → Writes mid new b_out b_err → Writes old new (a_out ++ b_out) (a_err ++ b_err)
Writes-joined old mid new a_out a_err b_out b_err v w = record {
  out_grows = Appends-trans old.out mid.out new.out a_out b_out v.out_grows w.out_grows;
  err_grows = Appends-trans old.err mid.err new.err a_err b_err v.err_grows w.err_grows;
}

fails_known : {S : Type 0} (asks : List ℕ → Bool) (answered : Bool → ScriptUnit → S → Answer S) (old mid new : Moment S) (script : List ℕ)
    (r : Option (List ℕ)) (s : Script) (taken : List ℕ) (number number' : ℕ) (answer_so_far : Answer S)
    → Progress asks answered old.state taken number false answer_so_far
    → (before : Option (List ℕ)) (old_count new_count : ℕ) (piece : List ℕ) (u : ScriptUnit) → IsNextUnit asks before (script_left s r) old_count new_count number number' piece u
    → Consumes (Some script) (script_left s r) (taken ++ piece) → IsGiven answer_so_far old mid → (ran_out : Bool) → Breaks (answered ran_out u mid.state) mid new
    → StopsWith asks Write answered script r old new
fails_known asks answered old mid new script None s taken number number' answer_so_far p before old_count new_count piece u next c g ran_out h = absurd c
fails_known asks answered old mid new script (Some rest) s taken number number' answer_so_far p before old_count new_count piece u next c g ran_out h =
    let m = updated number ran_out p.m in
    let played : play answered m p.done old.state ≡ answer_so_far = p.plays m (updated_agrees number ran_out p.m) in
    let left : List ℕ = pending s.source ++ rest in
    let wanted : m u.number ≡ ran_out = ap m next.numbered ∙ updated_at number ran_out p.m in
    record {
      m = m;
      before = p.done;
      unit = u;
      after = cut asks outside number' (lines_of left);
      units = ap (units_of asks) c ∙ next_splits asks answered old.state taken number number' answer_so_far p before
          (Some left) old_count new_count piece u next left next.last ∙ append_assoc p.done (u ∷ []) (cut asks outside number' (lines_of left));
      read = taken ++ piece;
      pending = pending s.source;
      consumes = c ∙ sym (append_assoc (taken ++ piece) (pending s.source) rest);
      near = pending_short s.source;
      units_read = sym (ap (units_of asks) (append-nil (taken ++ piece)))
          ∙ next_splits asks answered old.state taken number number' answer_so_far p before (Some left) old_count new_count piece u next [] (λ f. refl) ∙ append-nil (p.done ++ u ∷ []);
      now = mid;
      answer_so_far = rw played g;
      breaks = rw wanted h;
    }

-- a writer failed in the midst of the unit that was found
pub fails_writing : {S : Type 0} (asks : List ℕ → Bool) (answered : Bool → ScriptUnit → S → Answer S) (old mid new : Moment S) (a r : Option (List ℕ))
    (s : Script) (taken : List ℕ) (number number' : ℕ) (answer_so_far : Answer S)
    → Progress asks answered old.state taken number false answer_so_far
    → (before : Option (List ℕ)) (old_count new_count : ℕ) (piece : List ℕ) (u : ScriptUnit) → IsNextUnit asks before (script_left s r) old_count new_count number number' piece u
    → Consumes a (script_left s r) (taken ++ piece) → IsGiven answer_so_far old mid → (ran_out : Bool) → Breaks (answered ran_out u mid.state) mid new
    → IfSome a (λ script. StopsWith asks Write answered script r old new)
fails_writing asks answered old mid new None r s taken number number' answer_so_far p before old_count new_count piece u next c g ran_out h = tt
fails_writing asks answered old mid new (Some script) r s taken number number' answer_so_far p before old_count new_count piece u next c g ran_out h =
    fails_known asks answered old mid new script r s taken number number' answer_so_far p before old_count new_count piece u next c g ran_out h

-- nothing is left
pub ends_here : {S : Type 0} (asks : List ℕ → Bool) (answered : Bool → ScriptUnit → S → Answer S) (old new : Moment S) (a mid after : Option (List ℕ))
    (taken : List ℕ) (number : ℕ) (over : Bool) (answer_so_far : Answer S)
    → Progress asks answered old.state taken number over answer_so_far → Consumes a mid taken → Keeps mid after → IsAtEnd after → length taken ≤ script_limit
    → IsGiven answer_so_far old new → (refused : Bool) → refused ≡ answer_so_far.refused
    → IfSome a (λ script. Ends asks answered script refused old new)
ends_here asks answered old new None mid after taken number over answer_so_far p c k last short g refused same = tt
ends_here asks answered old new (Some script) None after taken number over answer_so_far p c k last short g refused same = absurd c
ends_here asks answered old new (Some script) (Some x) None taken number over answer_so_far p c k last short g refused same = absurd k
ends_here asks answered old new (Some script) (Some x) (Some y) taken number over answer_so_far p c k last short g refused same =
    let all : script ≡ taken ++ [] = c ∙ ap (λ l. taken ++ l) (sym k ∙ last) in
    let units : units_of asks script ≡ p.done = ap (units_of asks) all ∙ p.splits [] (λ e. refl) ∙ append-nil p.done in
    let played : session asks answered p.m script old.state ≡ answer_so_far = ap (λ us. play answered p.m us old.state) units ∙ p.plays p.m (λ j lt. refl) in
    record {
      m = p.m;
      within = omega (arith, short, ap length (all ∙ append-nil taken));
      gives = gives_same answer_so_far _ old new (sym played) g;
      refused_is = same ∙ ap (λ (z : Answer _). z.refused) (sym played);
    }

-- whether the end was reached before or is reached now, nothing is left
pub at_end : (over : Bool) (mid after : Option (List ℕ)) → (over ≡ true → (after ≡ mid) × IsAtEnd mid) → (over ≡ false → Keeps mid after × IsAtEnd after) → Keeps mid after × IsAtEnd after
at_end true mid after h k = let e = h refl in rw e.0 (Keeps-refl mid, e.1)
at_end false mid after h k = k refl

-- where nothing is pending or left, the reader is at its end
pub reader_ended : (more : List ℕ) (r : Option (List ℕ)) → IsAtEnd (prepend_known more r) → IsAtEnd r
reader_ended more None h = tt
reader_ended [] (Some x) h = h
reader_ended (b ∷ more) (Some x) h = absurd (omega (arith, ap length h))

pub not_over : (over : Bool) → (over ≡ true → ⊥) → over ≡ false
not_over true h = absurd (h refl)
not_over false h = refl

pub either_way : {P : Type 0} (over : Bool) → (over ≡ true → P) → (over ≡ false → P) → P
either_way true h k = h refl
either_way false h k = k refl

pub none_of : {A : Type 0} (o : Option A) → ((x : A) → o ≡ Some x → ⊥) → o ≡ None
none_of None h = refl
none_of (Some x) h = absurd (h x refl)

-- an answer that is `Some` is not the end
of_ok : {A E : Type 0} → Result (Option A) E → Option A
of_ok (Ok o) = o
of_ok (Err e) = None

pub not_end : {A E : Type 0} (o : Option A) (x : A) → o ≡ Some x → (r : Result (Option A) E) → r ≡ Ok None → r ≡ Ok o → ⊥
unfolding of_ok
not_end o x some r end ok = none-some x (sym (ap of_ok (sym ok ∙ end)) ∙ some)

-- one unit was answered at a state
abbrev pub IsGivenAt : {S : Type 0} → (Bool → ScriptUnit → S → Answer S) → ScriptUnit → S → Bool → (old new : Moment S) → Type 0
IsGivenAt answered unit state refused old new = (ran_out : Bool) × IsGiven (answered ran_out unit state) old new × (refused ≡ (answered ran_out unit state).refused)

pub IsGiven-joined : {S : Type 0} (a b : Answer S) (old mid new : Moment S) → IsGiven a old mid → IsGiven b mid new → IsGiven (joined a b) old new
IsGiven-joined a b old mid new v w =
    record { spends = omega (arith, v.spends, w.spends); writes = Writes-joined old.streams mid.streams new.streams a.out a.err b.out b.err v.writes w.writes; state_is = w.state_is }
