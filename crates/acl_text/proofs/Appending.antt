-- A text that is added in two parts.
use Rattle.std.proofs.Common.{◌≡◌, ℕ, List, ◌++◌, Result, Ok, Err, ap, ◌∙◌, append_assoc}
use Rattle.std.specs.Prelude.{Vec}
use Rattle.acl_names.specs.Appends.{Appends}
use Rattle.acl_names.proofs.Appended.{still_begins}

-- the first part was added, and a call that adds the second was made
pub appends_both : {A E Z : Type 0} (result : Result A E) (old mid new : Vec ℕ Z) (first second : List ℕ) → mid.items ≡ old.items ++ first
    → Appends result mid new second → Appends result old new (first ++ second)
appends_both (Ok x) old mid new first second added more = more ∙ ap (λ (l : List ℕ). l ++ second) added ∙ append_assoc old.items first second
appends_both (Err fault) old mid new first second added more = still_begins old.items first mid.items new.items added more

-- two parts that were added, as one
pub both_added : (old first second t u : List ℕ) → t ≡ old ++ first → u ≡ t ++ second → u ≡ old ++ (first ++ second)
both_added old first second t u one other = other ∙ ap (λ (l : List ℕ). l ++ second) one ∙ append_assoc old first second
