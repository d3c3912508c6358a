-- The parts of a line, one after another: each is at fault, or the next ones decide.
use Rattle.std.proofs.Common.{◌≡◌, ◌≤◌, ℕ, List, Result, Ok, Err, if◌then◌else◌, refl, sym, ◌∙◌, arith}
use Rattle.std.specs.Prelude.{◌==◌}
use Rattle.acl_names.proofs.Basics.{ok_or_err}
use Rattle.acl_tree.specs.Files.{Files}
use Rattle.facl_output.specs.declared.fault.LineFault.{LineFault}
use Rattle.facl_script.specs.Forms.{Text}
use Rattle.facl.specs.FirstPart.{IsRefusedForFirst}
use Rattle.facl.specs.ToolParts.{Part, in_first_text, in_second_text, in_third_text, in_two_texts, in_operand, in_user, in_file, in_command, rank, place, IsBadOperand, IsUnrecorded}
use Rattle.facl_tools.specs.Replies.{Reply}
use Rattle.facl.proofs.FirstPart.{accepted, refused_at}
use Rattle.facl.proofs.NoPaths.{IsFirstBad, Reads}
use Rattle.facl.proofs.Unrecorded.{IsFirstUnrecorded, one_unrecorded}
use Rattle.facl.proofs.Outcomes.{err_eq}
use Rattle.acl_text.specs.Results.{◌>>=◌}

abbrev pub named : ℕ → ℕ → Part
named r n =
    if r == 0 then in_first_text else if r == 1 then in_second_text else if r == 2 then in_third_text
    else if r == 3 then in_two_texts else if r == 4 then in_operand n else if r == 5 then in_user else if r == 6 then in_file n else in_command

pub is_named : (p : Part) → p ≡ named (rank p) (place p)
is_named in_first_text = refl
is_named in_second_text = refl
is_named in_third_text = refl
is_named in_two_texts = refl
is_named (in_operand n) = refl
is_named in_user = refl
is_named (in_file n) = refl
is_named in_command = refl

pub from_zero : (n : ℕ) → 0 ≤ n
from_zero n = omega arith

at_zero : (m n : ℕ) → m ≡ 0 → m ≤ n
at_zero m n h = omega arith

module _ (W : Part → LineFault → Type 0) where
  abbrev pub Refused : Result Reply LineFault → Type 0
  Refused r = IsRefusedForFirst rank place W r

  -- only parts from this rank on may be at fault
  abbrev pub From : ℕ → Type 0
  From n = (q : Part) (g : LineFault) → W q g → n ≤ rank q

  -- a part is at fault that is alone in its rank
  pub refused_in : (r : Result Reply LineFault) (p : Part) (f : LineFault) → place p ≡ 0 → r ≡ Err f → W p f → ((g : LineFault) → W p g → f ≡ g) → From (rank p) → Refused r
  refused_in r p f none is here only clear =
      refused_at rank place named is_named W r p f is here only
      (λ q g h. record { by_rank = clear q g h; by_place = λ _. at_zero (place p) (place q) none })

  -- what a text or a name is read as, and then the rest
  pub step : {A : Type 0} (p : Part) (read : Result A LineFault) (next : A → Result Reply LineFault) → place p ≡ 0
      → ((f : LineFault) → W p f → read ≡ Err f) → ((f : LineFault) → read ≡ Err f → W p f) → From (rank p)
      → ((a : A) → read ≡ Ok a → Refused (next a)) → Refused (read >>= next)
  step {A = A} p read next none there back clear rest = by read refl
    where
      by : (r : Result A LineFault) → read ≡ r → Refused (r >>= next)
      by (Ok a) is = rest a is
      by (Err f) is = refused_in (Err f) p f none refl (back f is) (λ g h. err_eq read f g is (there g h)) clear

  -- operands share a rank
  place_from : (n : ℕ) → ((m : ℕ) (g : LineFault) → W (in_operand m) g → n ≤ m) → (q : Part) (g : LineFault) → W q g → rank q ≡ 4 → n ≤ place q
  place_from n first in_first_text g h same = absurd (omega arith)
  place_from n first in_second_text g h same = absurd (omega arith)
  place_from n first in_third_text g h same = absurd (omega arith)
  place_from n first in_two_texts g h same = absurd (omega arith)
  place_from n first (in_operand m) g h same = first m g h
  place_from n first in_user g h same = absurd (omega arith)
  place_from n first (in_file m) g h same = absurd (omega arith)
  place_from n first in_command g h same = absurd (omega arith)

  -- an operand is no path
  pub refused_operand : (words : List Text) (r : Result Reply LineFault) (f : LineFault) → r ≡ Err f → IsFirstBad words 1 f
      → ((n : ℕ) (g : LineFault) → W (in_operand n) g → IsBadOperand words n g) → ((n : ℕ) (g : LineFault) → IsBadOperand words n g → W (in_operand n) g)
      → From 4 → Refused r
  refused_operand words r f is bad there back clear =
      refused_at rank place named is_named W r (in_operand bad.n) f is (back bad.n f (bad.is, bad.bad)) (λ g h. bad.is ∙ sym (there bad.n g h).0)
      (λ q g h. record {
        by_rank = clear q g h;
        by_place = λ same. place_from bad.n (λ m g h. bad.first m (there m g h).1) q g h same;
      })

  -- and so do their files
  file_from : (n : ℕ) → ((m : ℕ) (g : LineFault) → W (in_file m) g → n ≤ m) → (q : Part) (g : LineFault) → W q g → rank q ≡ 6 → n ≤ place q
  file_from n first in_first_text g h same = absurd (omega arith)
  file_from n first in_second_text g h same = absurd (omega arith)
  file_from n first in_third_text g h same = absurd (omega arith)
  file_from n first in_two_texts g h same = absurd (omega arith)
  file_from n first (in_operand m) g h same = absurd (omega arith)
  file_from n first in_user g h same = absurd (omega arith)
  file_from n first (in_file m) g h same = first m g h
  file_from n first in_command g h same = absurd (omega arith)

  -- the file of an operand is not recorded
  pub refused_file : (t : Files) (words : List Text) (r : Result Reply LineFault) (f : LineFault) → r ≡ Err f → IsFirstUnrecorded t words f
      → ((n : ℕ) (g : LineFault) → W (in_file n) g → IsUnrecorded t words n g) → ((n : ℕ) (g : LineFault) → IsUnrecorded t words n g → W (in_file n) g)
      → From 6 → Refused r
  refused_file t words r f is first there back clear =
      refused_at rank place named is_named W r (in_file first.n) f is (back first.n f first.unrecorded)
      (λ g h. one_unrecorded t words first.n f g first.unrecorded (there first.n g h))
      (λ q g h. record {
        by_rank = clear q g h;
        by_place = λ same. file_from first.n (λ m g h. first.first m g (there m g h)) q g h same;
      })

  -- the operands, and then the rest
  pub operands : {A : Type 0} (words : List Text) (read : Result A LineFault) (next : A → Result Reply LineFault) → Reads words read
      → ((n : ℕ) (g : LineFault) → W (in_operand n) g → IsBadOperand words n g) → ((n : ℕ) (g : LineFault) → IsBadOperand words n g → W (in_operand n) g)
      → From 4 → ((a : A) → read ≡ Ok a → Refused (next a)) → Refused (read >>= next)
  operands {A = A} words read next reads there back clear rest = by read refl
    where
      by : (r : Result A LineFault) → read ≡ r → Refused (r >>= next)
      by (Ok a) is = rest a is
      by (Err f) is = refused_operand words (Err f) f refl (reads.bad f is) there back clear

  -- what is done at last
  pub last : (r : Result Reply LineFault) → ((f : LineFault) → W in_command f → r ≡ Err f) → ((f : LineFault) → r ≡ Err f → W in_command f) → From 7 → Refused r
  last r there back clear = by r refl
    where
      none : (reply : Reply) → r ≡ Ok reply → (q : Part) (g : LineFault) → W q g → ⊥
      none reply is in_command g h = ok_or_err r reply g is (there g h)
      none reply is in_first_text g h = let k = clear in_first_text g h in omega arith
      none reply is in_second_text g h = let k = clear in_second_text g h in omega arith
      none reply is in_third_text g h = let k = clear in_third_text g h in omega arith
      none reply is in_two_texts g h = let k = clear in_two_texts g h in omega arith
      none reply is (in_operand n) g h = let k = clear (in_operand n) g h in omega arith
      none reply is (in_file n) g h = let k = clear (in_file n) g h in omega arith
      none reply is in_user g h = let k = clear in_user g h in omega arith

      by : (x : Result Reply LineFault) → r ≡ x → Refused x
      by (Ok reply) is = accepted rank place named is_named W (Ok reply) reply refl (none reply is)
      by (Err f) is = refused_in (Err f) in_command f refl refl (back f is) (λ g h. err_eq r f g is (there g h)) clear
