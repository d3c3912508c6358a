-- Texts that are added one after another.
use Rattle.std.proofs.Common.{◌≡◌, ◌++◌, ℕ, List, Result, Ok, Err, length, take, drop, take-append-drop, sym, ap, ◌∙◌, append_assoc, arith}
use Rattle.std.specs.Prelude.{OnOk, Vec}
use Rattle.std.proofs.lemmas.List.{take_all}
use Rattle.std.proofs.Math.Seq.{take-append_seam}
use Rattle.acl_names.proofs.Appended.{still_begins}
use Rattle.acl_names.specs.Appends.{Appends, AppendsWhole}

pub two_parts : (a b c s t : List ℕ) → s ≡ a ++ b → t ≡ s ++ c → t ≡ a ++ (b ++ c)
two_parts a b c s t first second = second ∙ (ap (λ (l : List ℕ). l ++ c) first ∙ append_assoc a b c)

pub three_parts : (a b c d s t u : List ℕ) → s ≡ a ++ b → t ≡ s ++ c → u ≡ t ++ d → u ≡ a ++ (b ++ (c ++ d))
three_parts a b c d s t u first second third = two_parts a b (c ++ d) s u first (two_parts s c d t u second third)

-- a text stays the beginning of what begins with a text that it begins
pub begins_later : (a t u : List ℕ) → take (length a) t ≡ a → take (length t) u ≡ t → take (length a) u ≡ a
begins_later a t u begins later =
    still_begins a (drop (length a) t) t u (sym (take-append-drop (length a) t) ∙ ap (λ (l : List ℕ). l ++ drop (length a) t) begins) later

-- and where more is added
pub begins_more : (a t x u : List ℕ) → take (length a) t ≡ a → u ≡ t ++ x → take (length a) u ≡ a
begins_more a t x u begins more = begins_later a t u begins (ap (take (length t)) more ∙ take-append_seam t x)

pub begins_itself : (a : List ℕ) → take (length a) a ≡ a
begins_itself a = take_all (length a) a (omega arith)

-- the first part was added, and a call that adds the second was made
pub added_both : {A E : Type 0} (result : Result A E) (a b c s t : List ℕ) → s ≡ a ++ b → OnOk result (t ≡ s ++ c) → OnOk result (t ≡ a ++ (b ++ c))
added_both (Ok x) a b c s t first second = two_parts a b c s t first second
added_both (Err fault) a b c s t first second = second

-- so where the second call adds all or nothing, and the text stays the beginning
pub appends_last : {A E Z : Type 0} (result : Result A E) (old mid new : Vec ℕ Z) (first second : List ℕ) → mid.items ≡ old.items ++ first
    → AppendsWhole result mid new second → Appends result old new (first ++ second)
appends_last (Ok x) old mid new first second added more = two_parts old.items first second mid.items new.items added more
appends_last (Err fault) old mid new first second added same =
    still_begins old.items first mid.items new.items added (ap (take (length mid.items)) same ∙ take_all (length mid.items) mid.items (omega arith))
