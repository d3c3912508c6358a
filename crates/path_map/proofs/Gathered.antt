-- Paths and values that a builder has gathered, after the entries of its chunks.
use Rattle.std.proofs.Common.{◌≡◌, List, [], ◌∷◌, ◌++◌, length, refl, sym, ap, subst, ◌∙◌, arith, append_assoc, append-nil}
use Rattle.std.specs.List.{zip}
use Rattle.acl_names.specs.Paths.{PathOf}
use Rattle.path_map.specs.Entries.{IsInOrder}
use Rattle.path_map.specs.Inner.{AreGathered}
use Rattle.path_map.proofs.Chunks.{in_order-left}

module _ {V : Type 0} where
  zip_pushed : (ps : List PathOf) (vs : List V) (p : PathOf) (v : V) → length vs ≡ length ps → zip (ps ++ p ∷ []) (vs ++ v ∷ []) ≡ zip ps vs ++ (p, v) ∷ []
  zip_pushed [] [] p v same = refl
  zip_pushed [] (w ∷ vs) p v same = absurd (omega arith)
  zip_pushed (q ∷ ps) [] p v same = absurd (omega arith)
  zip_pushed (q ∷ ps) (w ∷ vs) p v same = ap (λ l. (q, w) ∷ l) (zip_pushed ps vs p v (omega arith))

  -- one more path and value are one more entry
  pub one_more : (es : List (PathOf × V)) (ps new_ps : List PathOf) (vs new_vs : List V) (p : PathOf) (v : V) → length vs ≡ length ps
      → new_ps ≡ ps ++ p ∷ [] → new_vs ≡ vs ++ v ∷ [] → es ++ zip new_ps new_vs ≡ (es ++ zip ps vs) ++ (p, v) ∷ []
  one_more es ps new_ps vs new_vs p v same is_ps is_vs =
      ap (λ l. es ++ l) ((λ i. zip (is_ps i) (is_vs i)) ∙ zip_pushed ps vs p v same) ∙ sym (append_assoc es (zip ps vs) ((p, v) ∷ []))

  -- where all are in chunks, nothing is left
  pub none_left : (es : List (PathOf × V)) (ps : List PathOf) (vs : List V) → IsInOrder es → ps ≡ [] → vs ≡ [] → AreGathered es ps vs
  none_left es ps vs h no_ps no_vs = record {
    order = subst IsInOrder (sym (append-nil es) ∙ (λ i. es ++ zip (sym no_ps i) (sym no_vs i))) h;
    same = ap length no_vs ∙ sym (ap length no_ps);
    few = let none : length vs ≡ 0 = ap length no_vs in omega arith;
  }

  -- the entries of chunks are in order by themselves
  pub chunks_order : (es : List (PathOf × V)) (ps : List PathOf) (vs : List V) → AreGathered es ps vs → IsInOrder es
  chunks_order es ps vs h = in_order-left es (zip ps vs) h.order
