-- Counts of the files of two states by classes.
use Rattle.std.proofs.Common.{◌≡◌, ℕ, cond, true, List, [], ◌∷◌, ◌++◌, append_assoc, append-nil, Option, Some, None, refl, sym, ap, subst, ◌∙◌}
use Rattle.acl_names.specs.Below.{encloses}
use Rattle.acl_names.specs.Paths.{PathOf}
use Rattle.path_map.specs.Entries.{IsInOrder}
use Rattle.path_classes.specs.Classes.{KeepRows}
use Rattle.facl_answers.specs.BothStates.{AreClassesOf, BothClassed, IsClassOf, IsTaken, RowsOfFile, Sides, TakesNextWithin, front, rows_of_both}
use Rattle.facl_counts.specs.InnerGains.{AreCounted, AreKeysOf}
use Rattle.path_classes.specs.Tallies.{Tallied, SaysAs, one}

-- ---- counts

class_kept : (old new : List (List ℕ)) → KeepRows old new → (class : Option ℕ) (row : Option (List ℕ)) → IsClassOf old class row → IsClassOf new class row
class_kept old new keep None None h = tt
class_kept old new keep None (Some row) h = absurd h
class_kept old new keep (Some class) None h = absurd h
class_kept old new keep (Some class) (Some row) h = keep class row h

module _ (old new : BothClassed) (before : KeepRows old.0.0 new.0.0) (after : KeepRows old.1.0 new.1.0) where
  keys_kept : (keys : List (Tallied Sides)) (files : List (PathOf × RowsOfFile)) → AreKeysOf old.0.0 old.1.0 keys files → AreKeysOf new.0.0 new.1.0 keys files
  keys_kept [] [] h = tt
  keys_kept [] (file ∷ files) h = absurd h
  keys_kept (key ∷ keys) [] h = absurd h
  keys_kept (key ∷ keys) (file ∷ files) h =
      ((h.0.0, (class_kept old.0.0 new.0.0 before key.key.0 file.1.0 h.0.1.0, class_kept old.1.0 new.1.0 after key.key.1 file.1.1 h.0.1.1)), keys_kept keys files h.1)

keys_more : (before after : List (List ℕ)) (keys : List (Tallied Sides)) (files : List (PathOf × RowsOfFile)) (key : Sides) (path : PathOf) (rows : RowsOfFile)
    → AreKeysOf before after keys files → AreClassesOf before after key rows
    → AreKeysOf before after (keys ++ one key path ∷ []) (files ++ (path, rows) ∷ [])
keys_more before after [] [] key path rows h has = ((refl, has), tt)
keys_more before after [] (file ∷ files) key path rows h has = absurd h
keys_more before after (k ∷ keys) [] key path rows h has = absurd h
keys_more before after (k ∷ keys) (file ∷ files) key path rows h has = (h.0, keys_more before after keys files key path rows h.1 has)

-- so many files of both at or below a path are counted
pub record IsCounting (top : PathOf) (start both : BothClassed) (tallies : List (Tallied Sides)) : Type 0 where
  pub files : List (PathOf × RowsOfFile)
  pub counted : AreCounted both tallies files
  pub rest : files ++ front top (rows_of_both both.0.1 both.1.1) ≡ front top (rows_of_both start.0.1 start.1.1)
  pub before : IsInOrder both.0.1
  pub after : IsInOrder both.1.1

pub counting_starts : (top : PathOf) (start : BothClassed) (tallies : List (Tallied Sides)) → IsInOrder start.0.1 → IsInOrder start.1.1 → tallies ≡ [] → IsCounting top start start tallies
counting_starts top start tallies ob oa none = record {
  files = [];
  counted = record { keys = []; says = subst (λ ts. SaysAs ts []) (sym none) (record { counts = λ test. refl; firsts = λ test. refl }); are = tt };
  rest = refl;
  before = ob;
  after = oa;
}

pub counting_more : (top : PathOf) (start both next : BothClassed) (ts more : List (Tallied Sides)) (path : PathOf) (key : Sides) → IsCounting top start both ts
    → encloses top path ≡ true → IsTaken both (path, key) next
    → ((others : List (Tallied Sides)) → SaysAs ts others → SaysAs more (others ++ one key path ∷ [])) → IsCounting top start next more
counting_more top start both next ts more path key at inside taken added = record {
  files = at.files ++ (path, taken.rows) ∷ [];
  counted = record {
    keys = at.counted.keys ++ one key path ∷ [];
    says = added at.counted.keys at.counted.says;
    are = keys_more next.0.0 next.1.0 at.counted.keys at.files key path taken.rows (keys_kept both next taken.keep_before taken.keep_after at.counted.keys at.files at.counted.are) taken.has;
  };
  rest =
      append_assoc at.files ((path, taken.rows) ∷ []) (front top (rows_of_both next.0.1 next.1.1))
      ∙ ap (λ l. at.files ++ l)
      (sym (ap (front top) taken.is ∙ ap (λ b. cond b ((path, taken.rows) ∷ front top (rows_of_both next.0.1 next.1.1)) []) inside))
      ∙ at.rest;
  before = taken.before_order;
  after = taken.after_order;
}

pub counting_ends : (top : PathOf) (start both next : BothClassed) (ts : List (Tallied Sides)) → TakesNextWithin top both None next → IsCounting top start both ts
    → AreCounted next ts (front top (rows_of_both start.0.1 start.1.1))
counting_ends top start both next ts over at =
    subst (AreCounted next ts) (sym (append-nil at.files) ∙ ap (λ l. at.files ++ l) (sym over.0) ∙ at.rest)
    (record {
      keys = at.counted.keys;
      says = at.counted.says;
      are = keys_kept both next over.1.0 over.1.1 at.counted.keys at.files at.counted.are;
    })
