-- Ranges of bytes that are kept for nodes.
use Rattle.std.proofs.Common.{◌≡◌, ◌≤◌, ◌<◌, ◌-◌, ◌%◌, ℕ, List, [], ◌++◌, Option, Some, None, Bor, length, take, drop, replicate, sym, ap, subst, ◌∙◌, arith, length-append, length-drop}
use Rattle.std.specs.Prelude.{slice_range, IfSome, SomeIff}
use Rattle.std.specs.List.{All}
use Rattle.std.specs.Slice.{IsItemAt, IsGetRangeResult}
use Rattle.std.proofs.lemmas.List.{take_all, take-append-le, drop-append-le}
use Rattle.std.proofs.lemmas.List.Elements.{All-nil, All-same, All-take, All-append, All-replicate, All-weaker}
use Rattle.std.proofs.lemmas.Nat.{mod_below}
use Rattle.std.proofs.Math.Seq.{drop-append_seam}
use Rattle.acl_edit.specs.declared.node.Node.{Node}
use Rattle.facl_output.specs.declared.kept_texts.Kept.{Kept}
use Rattle.facl_output.specs.KeptTexts.{IsKept}

-- more bytes change no range of those before them
range_stays : (bytes more : List ℕ) (start end : ℕ) → start ≤ end → end ≤ length bytes → slice_range (bytes ++ more) start end ≡ slice_range bytes start end
range_stays bytes more start end rises within =
    ap (take (end - start)) (drop-append-le start bytes more (omega arith))
    ∙ take-append-le (end - start) (drop start bytes) more (omega (arith, length-drop start bytes))

-- the bytes added last
range_added : (bytes more : List ℕ) → slice_range (bytes ++ more) (length bytes) (length (bytes ++ more)) ≡ more
range_added bytes more =
    ap (take (length (bytes ++ more) - length bytes)) (drop-append_seam bytes more)
    ∙ take_all (length (bytes ++ more) - length bytes) more (omega (arith, length-append bytes more))

-- what a text has from a place on
pub rest_found : (text : List ℕ) (start : ℕ) (rest : Bor (List ℕ)) → IsGetRangeResult text start (length text) (Some rest) → rest.now ≡ drop start text
rest_found text start rest got = got.0.2 ∙ take_all (length text - start) (drop start text) (omega (arith, length-drop start text))

module _ (text_of : Node → List ℕ) where
  one_stays : (bytes more : List ℕ) (place : Option Kept) → IsKept text_of bytes place → IsKept text_of (bytes ++ more) place
  one_stays bytes more None kept = kept
  one_stays bytes more (Some k) kept =
      (kept.0, omega (arith, kept.1, length-append bytes more), range_stays bytes more k.start k.end kept.0 kept.1 ∙ kept.2)

  -- what is kept stays where bytes are added
  pub all_stay : (bytes more new : List ℕ) (places : List (Option Kept)) → new ≡ bytes ++ more → All (IsKept text_of bytes) places → All (IsKept text_of new) places
  all_stay bytes more new places added kept =
      All-weaker (IsKept text_of bytes) (IsKept text_of new) (λ place one. subst (λ (l : List ℕ). IsKept text_of l place) (sym added) (one_stays bytes more place one)) places kept

  -- what was added last is kept of a node whose text it is
  pub last_kept : (bytes more new : List ℕ) (node : Bor Node) (mark start end : ℕ) → new ≡ bytes ++ more → start ≡ length bytes → end ≡ length new → more ≡ text_of node.now
      → IsKept text_of new (Some (record { node = node; mark = mark; start = start; end = end }))
  last_kept bytes more new node mark start end added from to is =
      let stop : end ≡ length (bytes ++ more) = to ∙ ap length added in (
        omega (arith, from, stop, length-append bytes more),
        omega (arith, to),
        (λ i. slice_range (added i) (from i) (stop i)) ∙ (range_added bytes more ∙ is),
      )

  -- places that have nothing
  pub none_kept : (bytes : List ℕ) (count more : ℕ) (old places : List (Option Kept)) → old ≡ [] → places ≡ take count old ++ replicate more None
      → All (IsKept text_of bytes) places
  none_kept bytes count more old places empty are =
      let P = IsKept text_of bytes in
      All-same P places (take count old ++ replicate more None) are
      (All-append P (take count old) (replicate more None) (All-take P count old (All-same P old [] empty (All-nil P))) (All-replicate P more None tt))

  -- what is found at a place
  pub at_place : (bytes : List ℕ) (places items : List (Option Kept)) (i : ℕ) (found : Bor (Option Kept)) → items ≡ places → All (IsKept text_of bytes) places
      → IsItemAt items i (Some found) → IsKept text_of bytes found.now
  at_place bytes places items i found same kept read =
      let P = IsKept text_of bytes in
      subst P (sym (read.3.1 found.now)) (All-same P items places same kept i found.now read.3.0)

  -- the text that is found
  pub text_found : (bytes items : List ℕ) (k : Kept) (wanted : Node) (result : Option (Bor (List ℕ))) → items ≡ bytes → IsKept text_of bytes (Some k) → k.node.now ≡ wanted
      → IsGetRangeResult items k.start k.end result → IfSome result (λ text. text.now ≡ text_of wanted)
  text_found bytes items k wanted None same kept is got = tt
  text_found bytes items k wanted (Some text) same kept is got = got.0.2 ∙ (ap (λ (l : List ℕ). slice_range l k.start k.end) same ∙ (kept.2 ∙ ap text_of is))

-- a mark's place is one of those that there are
pub place_below : (mark count : ℕ) (places : List (Option Kept)) (result : Option ℕ) → SomeIff result (0 < count) (mark % count) → count ≡ length places
    → IfSome result (λ place. place < length places)
place_below mark count places None found is = tt
place_below mark count places (Some place) found is = subst (λ (p : ℕ). p < length places) (sym found.1) (subst (λ (n : ℕ). mark % count < n) is (mod_below mark count found.0))
