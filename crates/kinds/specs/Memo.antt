-- Edits of nodes by their numbers, with a memo of the numbers that were edited. Few public contracts name one of these
-- definitions.
use Rattle.std.specs.Prelude.{◌≡◌, ℕ, ◌+◌, ◌-◌, ◌<◌, ◌≤◌, ◌==◌, ◌||◌, Bool, false, if◌then◌else◌, List, [], ◌∷◌, ◌++◌, length, get_or, slice_set, Option, Some, Result, Ok, Err}
use Rattle.std.specs.List.{AllByRecursion}
use Rattle.acl_names.specs.Paths.{PathOf}
use Rattle.path_map.specs.Merged.{put_all}
use Rattle.kinds.specs.declared.memo.Met.{Met}
use Rattle.kinds.specs.Kinds.{KindsOf, node_at, count_at, IsNode}
use Rattle.kinds.specs.Numbered.{Numbers, Kept, entries_by, entries_in, paths_with, AreUsed}
use Rattle.kinds.specs.Inner.{Extends, paths_in}
use Rattle.kinds.specs.Given.{used_at}

-- an edit of nodes
abbrev pub NodeEdit : Type 0 → Type 0 → Type 0
NodeEdit N F = N → Result N F

-- one entry edited, before others
abbrev pub and_others : {N F : Type 0} → PathOf → Result N F → Result (List (PathOf × N)) (PathOf × F) → Result (List (PathOf × N)) (PathOf × F)
and_others p (Err fault) others = Err (p, fault)
and_others p (Ok n) (Err fault) = Err fault
and_others p (Ok n) (Ok es) = Ok ((p, n) ∷ es)

-- each entry edited, or the first fault with its path
abbrev pub edit_each : {N F : Type 0} → NodeEdit N F → List (PathOf × N) → Result (List (PathOf × N)) (PathOf × F)
edit_each edit [] = Ok []
edit_each edit (e ∷ es) = and_others e.0 (edit e.1) (edit_each edit es)

-- how many of the edited paths had a number before the edit, and have it after it
abbrev pub met_before : ℕ → List Met → ℕ
met_before n [] = 0
met_before n (m ∷ ms) = (if m.old == n then m.count else 0) + met_before n ms

abbrev pub met_after : ℕ → List Met → ℕ
met_after n [] = 0
met_after n (m ∷ ms) = (if m.new == n then m.count else 0) + met_after n ms

-- whether a number is the result of one that was edited
abbrev pub is_new : ℕ → List Met → Bool
is_new n [] = false
is_new n (m ∷ ms) = (m.new == n) || is_new n ms

-- what an edit made of a node
pub record IsEdited {N F : Type 0} (edit : NodeEdit N F) (before after : KindsOf N) (old new : ℕ) : Type 0 where
  pub node : N
  pub edited : N
  pub is_before : node_at before old ≡ Some node
  pub makes : edit node ≡ Ok edited
  pub is_after : node_at after new ≡ Some edited

-- some numbers were edited, which makes these numbers
pub record AreEdited {N F : Type 0} (edit : NodeEdit N F) (before : KindsOf N) (done : Numbers) (after : KindsOf N) (met : List Met) (puts : Numbers) : Type 0 where
  pub extends : Extends before after
  pub counts : (n : ℕ) → count_at after n ≡ count_at before n
  pub others : (n : ℕ) → is_new n met ≡ false → node_at after n ≡ node_at before n
  pub known : AllByRecursion (λ m. IsEdited edit before after m.old m.new) met
  pub paths : paths_in puts ≡ paths_in done
  pub used : AreUsed after puts
  pub few : length met ≤ length done
  pub olds : (n : ℕ) → met_before n met ≡ paths_with n done
  pub news : (n : ℕ) → met_after n met ≡ paths_with n puts
  pub made : edit_each edit (entries_by before done) ≡ Ok (entries_by after puts)

-- where some entries were edited, one more was
abbrev pub EditsOneMore : {N F : Type 0} → NodeEdit N F → PathOf × ℕ → KindsOf N → List Met → Numbers → KindsOf N → List Met → Numbers → Type 0
EditsOneMore {N} edit e k met puts k' met' puts' =
    (before : KindsOf N) (done : Numbers) → IsNode before e.1 → AreEdited edit before done k met puts → AreEdited edit before (done ++ e ∷ []) k' met' puts'

-- a number that was edited is at a place
pub record IsMetAt (met : List Met) (number at : ℕ) : Type 0 where
  pub within : at < length met
  pub is : (d : Met) → (get_or met at d).old ≡ number

-- what an edit makes of the node of a number
pub record EditsOne {N F : Type 0} (edit : NodeEdit N F) (k : KindsOf N) (n : ℕ) (edited : N) : Type 0 where
  pub node : N
  pub is : node_at k n ≡ Some node
  pub makes : edit node ≡ Ok edited

-- the count at a place grows by one path, which gets the number there
pub record CountsAgain (at : ℕ) (old new : List Met) (given : ℕ) : Type 0 where
  pub met : (d : Met) → new ≡ slice_set old at (record (get_or old at d) { count = (get_or old at d).count + 1 })
  pub number : (d : Met) → given ≡ (get_or old at d).new

-- the edited paths are added to the counts of their new numbers
pub record GrantsMet {N : Type 0} (old : KindsOf N) (met : List Met) (new : KindsOf N) : Type 0 where
  pub nodes : (n : ℕ) → node_at new n ≡ node_at old n
  pub counts : (n : ℕ) → count_at new n ≡ count_at old n + met_after n met

-- the edited paths are taken from the counts of their old numbers
pub record ReleasesMet {N : Type 0} (old : KindsOf N) (met : List Met) (new : KindsOf N) : Type 0 where
  pub nodes : (n : ℕ) → 0 < count_at new n → node_at new n ≡ node_at old n
  pub counts : (n : ℕ) → count_at new n ≡ count_at old n - met_before n met

-- both
pub record Moves {N : Type 0} (old : KindsOf N) (met : List Met) (new : KindsOf N) : Type 0 where
  pub nodes : (n : ℕ) → 0 < count_at new n → node_at new n ≡ node_at old n
  pub counts : (n : ℕ) → count_at new n ≡ (count_at old n + met_after n met) - met_before n met

-- the entries of these paths were put among those of a map: they have these numbers after it
pub record ArePut {N : Type 0} (old new : Kept N) (puts : Numbers) : Type 0 where
  pub used : AreUsed new.0 puts
  pub put : entries_in new ≡ put_all (entries_by new.0 puts) (entries_in old)

-- a node is what an edit makes of that of a number, if paths have the number
abbrev pub EditsUsed : {N F : Type 0} → NodeEdit N F → KindsOf N → ℕ → Option N → Type 0
EditsUsed {N} edit k n made = (x : N) → used_at k n ≡ Some x → (y : N) × ((made ≡ Some y) × (edit x ≡ Ok y))
