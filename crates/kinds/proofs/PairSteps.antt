-- Steps of the loops over changes and pairs.
use Rattle.std.proofs.Common.{◌≡◌, ℕ, ◌+◌, ◌<◌, List, ◌++◌, length, get_or, take, drop, sym, ap, subst, ◌∙◌, append_assoc, take-append-drop}
use Rattle.std.proofs.lemmas.List.{drop_more}
use Rattle.kinds.specs.declared.pairs.pair.Pair.{Pair}
use Rattle.kinds.specs.declared.pairs.pair.Change.{Change}
use Rattle.kinds.specs.PairSets.{is_before, AreRising}
use Rattle.kinds.specs.PairParts.{changed}
use Rattle.kinds.proofs.PairLists.{rising_left, rising_right}
use Rattle.kinds.proofs.PairChanges.{put_of, earlier, later}

-- one change more
pub change_more : (cs : List Change) (i : ℕ) (d : Change) (old with_before new rest before after all : List Pair) → i < length cs
    → before ≡ earlier (get_or cs i d) rest → after ≡ later (get_or cs i d) rest → with_before ≡ old ++ before → new ≡ with_before ++ put_of (get_or cs i d)
    → old ++ changed (drop i cs) rest ≡ all → new ++ changed (drop (i + 1) cs) after ≡ all
change_more cs i d old with_before new rest before after all lt is_before is_after e f h =
    let c = get_or cs i d in
    let more = changed (drop (i + 1) cs) (later (get_or cs i d) rest) in
    (λ j. f j ++ changed (drop (i + 1) cs) (is_after j))
    ∙ (λ j. ((e ∙ ap (λ l. old ++ l) is_before) j ++ put_of c) ++ more)
    ∙ append_assoc (old ++ earlier c rest) (put_of c) more
    ∙ append_assoc old (earlier c rest) (put_of c ++ more)
    ∙ ap (λ l. old ++ changed l rest) (sym (drop_more cs i d lt))
    ∙ h

pub rising_take : (n : ℕ) (xs front back : List Pair) → front ≡ take n xs → back ≡ drop n xs → AreRising xs → AreRising front
rising_take n xs front back is_front is_back h = rising_left front back (subst AreRising (sym ((λ i. is_front i ++ is_back i) ∙ take-append-drop n xs)) h)

pub rising_drop : (n : ℕ) (xs front back : List Pair) → front ≡ take n xs → back ≡ drop n xs → AreRising xs → AreRising back
rising_drop n xs front back is_front is_back h = rising_right front back (subst AreRising (sym ((λ i. is_front i ++ is_back i) ∙ take-append-drop n xs)) h)
