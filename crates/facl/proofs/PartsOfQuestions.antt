-- Listings and questions are refused for their first part at fault.
use Rattle.std.proofs.Common.{◌≡◌, ◌≤◌, ℕ, List, [], ◌∷◌, slice_get, Option, Some, None, option_map, option_and_then, Result, Ok, Err, refl, sym, ap, subst, arith}
use Rattle.std.specs.FinMap.{find}
use Rattle.std.specs.Prelude.{ok_or}
use Rattle.facl_answers.specs.Requests.{requests_line}
use Rattle.acl_edit.specs.declared.node.Node.{Node}
use Rattle.acl_entry.specs.Person.{Person}
use Rattle.acl_tree.specs.declared.fault.TreeFault.TheVariants.{NoSuchFile, NoSuchUser}
use Rattle.acl_names.specs.Paths.{path_cmp, PathOf}
use Rattle.acl_names.proofs.Basics.{ok_is_not_err, ok_or_err, some_is_not_none}
use Rattle.acl_people.specs.KnownPeople.{KnownPeople, users_of}
use Rattle.acl_people.specs.NameTables.{place_of_word}
use Rattle.acl_text.specs.declared.rows.PasswdRow.{PasswdRow}
use Rattle.acl_text.specs.Results.{◌>>=◌, unless}
use Rattle.acl_tree.specs.Files.{Files}
use Rattle.acl_tree.specs.Operands.{first_missing}
use Rattle.acl_tree.specs.State.{State}
use Rattle.facl_output.specs.declared.fault.LineFault.{LineFault}
use Rattle.facl_output.specs.declared.fault.LineFault.TheVariants.{Tree}
use Rattle.facl_script.specs.Forms.{Text}
use Rattle.facl.specs.ToolParts.{Part, in_operand, in_user, in_file, rank, place, OfListing, OfUser, OfUserAndFiles, IsUnrecorded}
use Rattle.facl_tools.specs.Operands.{path_at, paths_from, name_meant, user_at, not_recorded}
use Rattle.facl_tools.specs.Replies.{Reply, printed}
use Rattle.facl.specs.Below.{place_of}
use Rattle.facl.specs.Why.{person_named}
use Rattle.facl.proofs.FirstPart.{accepted}
use Rattle.facl.proofs.NoPaths.{Reads, reads_files, reads_file}
use Rattle.facl.proofs.Outcomes.{was_there, after_both}
use Rattle.facl.proofs.Parts.{Refused, named, is_named, refused_in, refused_file, step, operands}
use Rattle.facl.proofs.Unrecorded.{first_unrecorded, all_recorded, one_missing, one_recorded, has_row, ReadsUser, reads_place, reads_person}

-- ---- files that are looked at

module _ (t : Files) (words : List Text) (use_of : List PathOf → Reply) where
  abbrev OfThese : Part → LineFault → Type 0
  OfThese = OfListing t words

  listing_from : (q : Part) (g : LineFault) → OfListing t words q g → 4 ≤ rank q
  listing_from (in_operand n) g h = omega arith
  listing_from (in_file n) g h = omega arith
  listing_from q g h = absurd h

  listing_next : (ps : List PathOf) → paths_from 1 words ≡ Ok ps → (q : Part) (g : LineFault) → OfListing t words q g → 6 ≤ rank q
  listing_next ps are (in_operand n) g h = let reads = reads_files words in absurd (reads.good ps are n h.1)
  listing_next ps are (in_file n) g h = omega arith
  listing_next ps are q g h = absurd h

  all_are_there : (ps : List PathOf) → paths_from 1 words ≡ Ok ps → first_missing ps t ≡ None → (q : Part) (g : LineFault) → OfListing t words q g → ⊥
  all_are_there ps are found (in_operand n) g h = let reads = reads_files words in reads.good ps are n h.1
  all_are_there ps are found (in_file n) g h = all_recorded t 1 words ps are found n g h
  all_are_there ps are found q g h = h

  pub listing_refused : Refused (OfListing t words) (paths_from 1 words >>= λ ps. unless (not_recorded ps t) (Ok (use_of ps)))
  listing_refused =
      operands OfThese words (paths_from 1 words) (λ ps. unless (not_recorded ps t) (Ok (use_of ps))) (reads_files words) (λ n g h. h) (λ n g h. h) listing_from
      (λ ps are. by ps are (first_missing ps t) refl)
    where
      by : (ps : List PathOf) → paths_from 1 words ≡ Ok ps → (o : Option PathOf) → first_missing ps t ≡ o → Refused OfThese (unless (option_map (λ path. Tree (NoSuchFile path)) o) (Ok (use_of ps)))
      by ps are None found = accepted rank place named is_named OfThese (Ok (use_of ps)) (use_of ps) refl (all_are_there ps are found)
      by ps are (Some p) missing =
          refused_file OfThese t words (Err (Tree (NoSuchFile p))) (Tree (NoSuchFile p)) refl (first_unrecorded t 1 words ps p are missing) (λ n g h. h) (λ n g h. h) (listing_next ps are)

-- ---- one file that is looked at

module _ (t : Files) (word : Text) (look : PathOf → Node → List ℕ) (s : State) where
  abbrev OfOne : Part → LineFault → Type 0
  OfOne = OfListing t (word ∷ [])

  one_from : (q : Part) (g : LineFault) → OfListing t (word ∷ []) q g → 4 ≤ rank q
  one_from (in_operand n) g h = omega arith
  one_from (in_file n) g h = omega arith
  one_from q g h = absurd h

  one_next : (path : PathOf) → path_at 1 word ≡ Ok path → (q : Part) (g : LineFault) → OfListing t (word ∷ []) q g → 6 ≤ rank q
  one_next path is (in_operand n) g h = let reads = reads_file word in absurd (reads.good path is n h.1)
  one_next path is (in_file n) g h = omega arith
  one_next path is q g h = absurd h

  it_is_there : (path : PathOf) → path_at 1 word ≡ Ok path → (node : Node) → find path_cmp path t ≡ Some node → (q : Part) (g : LineFault) → OfListing t (word ∷ []) q g → ⊥
  it_is_there path is node found (in_operand n) g h = let reads = reads_file word in reads.good path is n h.1
  it_is_there path is node found (in_file n) g h = one_recorded t word path node is found n g h
  it_is_there path is node found q g h = h

  abbrev looked_at : PathOf → Option Node → Result Reply LineFault
  looked_at path o = ok_or (option_map (look path) o) (Tree (NoSuchFile path)) >>= λ out. Ok (printed s out)

  pub one_file_refused : Refused (OfListing t (word ∷ [])) (path_at 1 word >>= λ path. ok_or (option_map (look path) (find path_cmp path t)) (Tree (NoSuchFile path)) >>= λ out. Ok (printed s out))
  one_file_refused =
      operands OfOne (word ∷ []) (path_at 1 word) (λ path. looked_at path (find path_cmp path t)) (reads_file word) (λ n g h. h) (λ n g h. h) one_from
      (λ path is. by path is (find path_cmp path t) refl)
    where
      by : (path : PathOf) → path_at 1 word ≡ Ok path → (o : Option Node) → find path_cmp path t ≡ o → Refused OfOne (looked_at path o)
      by path is None missing =
          refused_file OfOne t (word ∷ []) (Err (Tree (NoSuchFile path))) (Tree (NoSuchFile path)) refl (one_missing t word path is missing) (λ n g h. h) (λ n g h. h) (one_next path is)
      by path is (Some node) found = accepted rank place named is_named OfOne (Ok (printed s (look path node))) (printed s (look path node)) refl (it_is_there path is node found)

-- ---- a question about a user

module _ (known : KnownPeople) (word : Text) (look : PasswdRow → List ℕ) (s : State) where
  abbrev OfAsked : Part → LineFault → Type 0
  OfAsked = OfUser known word

  user_from : (q : Part) (g : LineFault) → OfUser known word q g → 5 ≤ rank q
  user_from in_user g h = omega arith
  user_from q g h = absurd h

  user_is_there : (i : ℕ) → place_of_word (name_meant word) (users_of known) ≡ Some i → (q : Part) (g : LineFault) → OfUser known word q g → ⊥
  user_is_there i is in_user g h = some_is_not_none (place_of_word (name_meant word) (users_of known)) i is h.1
  user_is_there i is q g h = h

  abbrev asked : Option ℕ → Result Reply LineFault
  asked o = ok_or (option_and_then (λ i. option_map look (slice_get known.users i)) o) (Tree (NoSuchUser (name_meant word))) >>= λ out. Ok (printed s out)

  pub user_refused : Refused (OfUser known word) (asked (place_of_word (name_meant word) (users_of known)))
  user_refused = by (place_of_word (name_meant word) (users_of known)) refl
    where
      by_row : (i : ℕ) → place_of_word (name_meant word) (users_of known) ≡ Some i → (o : Option PasswdRow) → slice_get known.users i ≡ o
          → Refused OfAsked (ok_or (option_map look o) (Tree (NoSuchUser (name_meant word))) >>= λ out. Ok (printed s out))
      by_row i is None none = absurd (has_row known (name_meant word) i is none)
      by_row i is (Some row) found = accepted rank place named is_named OfAsked (Ok (printed s (look row))) (printed s (look row)) refl (user_is_there i is)

      by : (o : Option ℕ) → place_of_word (name_meant word) (users_of known) ≡ o → Refused OfAsked (asked o)
      by None missing =
          refused_in OfAsked (Err (Tree (NoSuchUser (name_meant word)))) in_user (Tree (NoSuchUser (name_meant word))) refl refl (refl, missing) (λ g h. sym h.0) user_from
      by (Some i) is = by_row i is (slice_get known.users i) refl

-- ---- a question about a user and files

module _ (s : State) (word : Text) (files : List Text) where
  abbrev OfThem : Part → LineFault → Type 0
  OfThem = OfUserAndFiles s word files

  both_from : (q : Part) (g : LineFault) → OfUserAndFiles s word files q g → 4 ≤ rank q
  both_from (in_operand n) g h = omega arith
  both_from in_user g h = omega arith
  both_from (in_file n) g h = omega arith
  both_from q g h = absurd h

  module _ {A B : Type 0} (paths : Result A LineFault) (reads : Reads files paths) (user : Result B LineFault) (reads_user : ReadsUser s.people word user) where
    user_next : (a : A) → paths ≡ Ok a → (q : Part) (g : LineFault) → OfUserAndFiles s word files q g → 5 ≤ rank q
    user_next a is (in_operand n) g h = absurd (reads.good a is n h.1)
    user_next a is in_user g h = omega arith
    user_next a is (in_file n) g h = omega arith
    user_next a is q g h = absurd h

    files_next : (a : A) → paths ≡ Ok a → (b : B) → user ≡ Ok b → (q : Part) (g : LineFault) → OfUserAndFiles s word files q g → 6 ≤ rank q
    files_next a is b also (in_operand n) g h = absurd (reads.good a is n h.1)
    files_next a is b also in_user g h = absurd (ok_or_err user b g also (reads_user.bad g h))
    files_next a is b also (in_file n) g h = omega arith
    files_next a is b also q g h = absurd h

    both_are_there : (a : A) → paths ≡ Ok a → (b : B) → user ≡ Ok b → ((n : ℕ) (g : LineFault) → IsUnrecorded s.tree.files files n g → ⊥)
        → (q : Part) (g : LineFault) → OfUserAndFiles s word files q g → ⊥
    both_are_there a is b also recorded (in_operand n) g h = reads.good a is n h.1
    both_are_there a is b also recorded in_user g h = ok_or_err user b g also (reads_user.bad g h)
    both_are_there a is b also recorded (in_file n) g h = recorded n g h
    both_are_there a is b also recorded q g h = h

    -- the operands are read, then the user, and then the files are looked at
    both_refused : (look : A → B → Result Text LineFault) → ((a : A) → paths ≡ Ok a → (b : B) → user ≡ Ok b → Refused OfThem (look a b >>= λ out. Ok (printed s out)))
        → Refused OfThem ((paths >>= λ a. user >>= look a) >>= λ out. Ok (printed s out))
    both_refused look rest =
        subst (Refused OfThem) (after_both paths user look (λ out. Ok (printed s out)))
        (operands OfThem files paths (λ a. user >>= λ b. look a b >>= λ out. Ok (printed s out)) reads (λ n g h. h) (λ n g h. h) both_from
        (λ a is. step OfThem in_user user (λ b. look a b >>= λ out. Ok (printed s out)) refl reads_user.bad reads_user.only (user_next a is) (rest a is)))

-- one file, by the row of the user

module _ (s : State) (word file : Text) (look : PathOf → Node → PasswdRow → ℕ) where
  abbrev OfIt : Part → LineFault → Type 0
  OfIt = OfUserAndFiles s word (file ∷ [])

  abbrev place_read : Result ℕ LineFault
  place_read = user_at s.people (name_meant word)

  abbrev shown : PathOf → Option Node → Option PasswdRow → Result Text LineFault
  shown path o row = ok_or (option_and_then (λ n. option_map (look path n) row) o) (Tree (NoSuchFile path)) >>= λ granted. Ok (requests_line granted)

  abbrev shown_at : PathOf → ℕ → Result Text LineFault
  shown_at path i = shown path (find path_cmp path s.tree.files) (slice_get s.people.users i)

  by_node : (path : PathOf) → path_at 1 file ≡ Ok path → (i : ℕ) → user_at s.people (name_meant word) ≡ Ok i
      → (o : Option Node) → find path_cmp path s.tree.files ≡ o → (row : Option PasswdRow) → slice_get s.people.users i ≡ row → Refused OfIt (shown path o row >>= λ out. Ok (printed s out))
  by_node path is i also None missing row are =
      refused_file OfIt s.tree.files (file ∷ []) (Err (Tree (NoSuchFile path))) (Tree (NoSuchFile path)) refl (one_missing s.tree.files file path is missing) (λ n g h. h) (λ n g h. h)
      (files_next s word (file ∷ []) (path_at 1 file) (reads_file file) place_read (reads_place s.people word) path is i also)
  by_node path is i also (Some node) found None none =
      absurd (has_row s.people (name_meant word) i (was_there (Tree (NoSuchUser (name_meant word))) (place_of_word (name_meant word) (users_of s.people)) i also) none)
  by_node path is i also (Some node) found (Some row) are =
      accepted rank place named is_named OfIt (Ok (printed s (requests_line (look path node row)))) (printed s (requests_line (look path node row))) refl
      (both_are_there s word (file ∷ []) (path_at 1 file) (reads_file file) place_read (reads_place s.people word) path is i also (one_recorded s.tree.files file path node is found))

  pub user_and_file_refused : Refused (OfUserAndFiles s word (file ∷ [])) ((path_at 1 file >>= λ path. user_at s.people (name_meant word) >>= shown_at path) >>= λ out. Ok (printed s out))
  user_and_file_refused =
      both_refused s word (file ∷ []) (path_at 1 file) (reads_file file) place_read (reads_place s.people word) shown_at
      (λ path is i also. by_node path is i also (find path_cmp path s.tree.files) refl (slice_get s.people.users i) refl)

-- files, by the user

module _ {B : Type 0} (s : State) (word : Text) (files : List Text) (user : Result B LineFault) (reads_user : ReadsUser s.people word user) (look : List PathOf → B → Text) where
  abbrev OfAll : Part → LineFault → Type 0
  OfAll = OfUserAndFiles s word files

  abbrev looked_at_all : List PathOf → B → Result Text LineFault
  looked_at_all ps u = unless (not_recorded ps s.tree.files) (Ok (look ps u))

  by_missing : (ps : List PathOf) → paths_from 1 files ≡ Ok ps → (u : B) → user ≡ Ok u
      → (o : Option PathOf) → first_missing ps s.tree.files ≡ o → Refused OfAll (unless (option_map (λ path. Tree (NoSuchFile path)) o) (Ok (look ps u)) >>= λ out. Ok (printed s out))
  by_missing ps are u also None found =
      accepted rank place named is_named OfAll (Ok (printed s (look ps u))) (printed s (look ps u)) refl
      (both_are_there s word files (paths_from 1 files) (reads_files files) user reads_user ps are u also (all_recorded s.tree.files 1 files ps are found))
  by_missing ps are u also (Some p) missing =
      refused_file OfAll s.tree.files files (Err (Tree (NoSuchFile p))) (Tree (NoSuchFile p)) refl (first_unrecorded s.tree.files 1 files ps p are missing) (λ n g h. h) (λ n g h. h)
      (files_next s word files (paths_from 1 files) (reads_files files) user reads_user ps are u also)

  all_refused : Refused (OfUserAndFiles s word files) ((paths_from 1 files >>= λ ps. user >>= looked_at_all ps) >>= λ out. Ok (printed s out))
  all_refused =
      both_refused s word files (paths_from 1 files) (reads_files files) user reads_user looked_at_all (λ ps are u also. by_missing ps are u also (first_missing ps s.tree.files) refl)

-- the user as the check sees one
pub user_and_files_refused : (s : State) (word : Text) (files : List Text) (look : List PathOf → Person → Text) → Refused (OfUserAndFiles s word files)
    ((paths_from 1 files >>= λ ps. ok_or (person_named s.people (name_meant word)) (Tree (NoSuchUser (name_meant word))) >>= λ u. unless
    (not_recorded ps s.tree.files) (Ok (look ps u))) >>= λ out. Ok (printed s out))
user_and_files_refused s word files look =
    all_refused s word files (ok_or (person_named s.people (name_meant word)) (Tree (NoSuchUser (name_meant word)))) (reads_person s.people word) look

-- the user by the place
pub placed_and_files_refused : (s : State) (word : Text) (files : List Text) (look : List PathOf → ℕ → Text) → Refused (OfUserAndFiles s word files)
    ((paths_from 1 files >>= λ ps. user_at s.people (name_meant word) >>= λ i. unless (not_recorded ps s.tree.files) (Ok (look ps i))) >>= λ out. Ok (printed s out))
placed_and_files_refused s word files look = all_refused s word files (user_at s.people (name_meant word)) (reads_place s.people word) look

-- the user by the place, or all users
asks_place : (s : State) (word : Text) → ReadsUser s.people word (place_of s.people (Some word))
asks_place s word = record {
  bad = λ f h. ap (λ (r : Result ℕ LineFault). r >>= λ user. Ok (Some user)) (reads.bad f h);
  only = λ f h. reads.only f (by (user_at s.people (name_meant word)) f h);
}
  where
    reads : ReadsUser s.people word (user_at s.people (name_meant word))
    reads = reads_place s.people word

    by : (r : Result ℕ LineFault) (f : LineFault) → (r >>= λ user. Ok (Some user)) ≡ Err f → r ≡ Err f
    by (Ok user) f h = absurd (ok_is_not_err (Some user) f h)
    by (Err e) f h = ap (λ e. Err e) (let same : e ≡ f = cc in same)

pub asked_and_files_refused : (s : State) (word : Text) (files : List Text) (look : List PathOf → Option ℕ → Text) → Refused (OfUserAndFiles s word files)
    ((paths_from 1 files >>= λ ps. place_of s.people (Some word) >>= λ user. unless (not_recorded ps s.tree.files) (Ok (look ps user))) >>= λ out. Ok (printed s out))
asked_and_files_refused s word files look = all_refused s word files (place_of s.people (Some word)) (asks_place s word) look
