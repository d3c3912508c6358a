-- The entries of a text are read one after another, each at its number.
use Rattle.std.proofs.Common.{◌≡◌, ℕ, ◌+◌, ◌≤◌, Bool, false, leb, List, [], ◌∷◌, ◌++◌, length, map, Result, Ok, Err, refl, sym, ap, ◌∙◌, inl, inr, arith, append_assoc, append-nil, length-append}
use Rattle.std.specs.Prelude.{◌↔◌, ◌==◌, not, filter}
use Rattle.std.specs.List.{enumerate_from}
use Rattle.std.proofs.lemmas.Bool.{cases_Bool, leb-false, lt-leb}
use Rattle.acl_names.specs.Pieces.{pieces}
use Rattle.acl_text.specs.Naming.{Naming}
use Rattle.acl_text.specs.declared.fault.FaultKind.{FaultKind}
use Rattle.acl_text.specs.declared.fault.TextFault.{TextFault}
use Rattle.acl_text.specs.declared.entries.Sep.{Sep}
use Rattle.acl_text.specs.declared.entries.Rules.{Rules}
use Rattle.acl_text.specs.declared.entries.Spec.{Spec}
use Rattle.acl_text.specs.InTurn.{read_each_from, read_each}
use Rattle.acl_text.specs.Blanks.{trimmed}
use Rattle.acl_text.specs.Entries.{content, separator, entry_of, most_text_entries, one_more}
use Rattle.acl_text.specs.Means.{AreRead}

module _ (naming : Naming) (sep : Sep) (rules : Rules) where
  abbrev read : ℕ × List ℕ → Result Spec FaultKind
  read e = entry_of naming rules e.0 e.1

  abbrev has_no_content : List ℕ → Bool
  has_no_content piece = length (trimmed (content sep piece)) == 0

  abbrev entries_from : ℕ → List (List ℕ) → List (ℕ × List ℕ)
  entries_from at ps = filter (λ e. not (length (trimmed e.1) == 0)) (enumerate_from at (map (content sep) ps))

  abbrev reads_specs : ℕ → List Spec → List (List ℕ) → Result (List Spec) TextFault
  reads_specs at some ps = read_each_from (one_more naming sep rules) at some ps

  -- once some entries are read, what the other pieces add
  record Adds (at : ℕ) (some : List Spec) (ps : List (List ℕ)) (out : List Spec) : Type 0 where
    specs : List Spec
    each : map read (entries_from at ps) ≡ map (λ spec. Ok spec) specs
    out_is : out ≡ some ++ specs
    few : length out ≤ most_text_entries

  module _ (at : ℕ) (some : List Spec) (p : List ℕ) (ps : List (List ℕ)) (means : has_no_content p ≡ false) where
    one_adds : (out : List Spec) (spec : Spec) → read (at, content sep p) ≡ Ok spec → Adds (at + 1) (some ++ spec ∷ []) ps out → Adds at some (p ∷ ps) out
    one_adds out spec is more = record {
      specs = spec ∷ more.specs;
      each = rw (means, is) (ap (λ (rs : List (Result Spec FaultKind)). Ok spec ∷ rs) more.each);
      out_is = more.out_is ∙ append_assoc some (spec ∷ []) more.specs;
      few = more.few;
    }

    added_one : (out : List Spec) (r : Result Spec FaultKind) → read (at, content sep p) ≡ r → reads_specs at some (p ∷ ps) ≡ Ok out
        → ((more : List Spec) → length more ≤ most_text_entries → reads_specs (at + 1) more ps ≡ Ok out → Adds (at + 1) more ps out) → Adds at some (p ∷ ps) out
    added_one out (Err kind) is e goes_on = let read_each = rw (means, is) at e in absurd cc
    added_one out (Ok spec) is e goes_on =
        elim (cases_Bool (leb most_text_entries (length some))) [
          | inl full ↦ let read_each = rw (means, is, full) at e in absurd cc
          | inr room ↦
              let fits : length (some ++ spec ∷ []) ≤ most_text_entries = omega (arith, length-append some (spec ∷ []), leb-false most_text_entries (length some) room) in
              one_adds out spec is (goes_on (some ++ spec ∷ []) fits (rw (means, is, room) at e))
        ]

    reads_one : (specs : List Spec) → read (at, content sep p) ∷ map read (entries_from (at + 1) ps) ≡ map (λ spec. Ok spec) specs → length (some ++ specs) ≤ most_text_entries
        → ((more rest : List Spec) → map read (entries_from (at + 1) ps) ≡ map (λ spec. Ok spec) rest → length (more ++ rest) ≤ most_text_entries → reads_specs (at + 1) more ps ≡ Ok (more ++ rest))
        → reads_specs at some (p ∷ ps) ≡ Ok (some ++ specs)
    reads_one [] are few goes_on = absurd cc
    reads_one (spec ∷ specs) are few goes_on =
        let is : read (at, content sep p) ≡ Ok spec = cc in
        let others : map read (entries_from (at + 1) ps) ≡ map (λ spec. Ok spec) specs = cc in
        let along : some ++ (spec ∷ specs) ≡ (some ++ spec ∷ []) ++ specs = sym (append_assoc some (spec ∷ []) specs) in
        let room : leb most_text_entries (length some) ≡ false = lt-leb most_text_entries (length some) (omega (arith, few, length-append some (spec ∷ specs))) in
        rw (means, is, room, along) (goes_on (some ++ spec ∷ []) specs others (rw along at few))

  added : (at : ℕ) (some : List Spec) (ps : List (List ℕ)) (out : List Spec) → length some ≤ most_text_entries → reads_specs at some ps ≡ Ok out → Adds at some ps out
  added at some [] out few e =
      let same : some ≡ out = cc in
      record { specs = []; each = refl; out_is = sym same ∙ sym (append-nil some); few = rw (← same) few }
  added at some (p ∷ ps) out few e =
      elim (cases_Bool (has_no_content p)) [
        | inl nothing ↦
            let more = added (at + 1) some ps out few (rw nothing at e) in
            record { specs = more.specs; each = rw nothing more.each; out_is = more.out_is; few = more.few }
        | inr means ↦ added_one at some p ps means out (read (at, content sep p)) refl e (λ more room goes. added (at + 1) more ps out room goes)
      ]

  reads_added : (at : ℕ) (some : List Spec) (ps : List (List ℕ)) (specs : List Spec) → map read (entries_from at ps) ≡ map (λ spec. Ok spec) specs
      → length (some ++ specs) ≤ most_text_entries → reads_specs at some ps ≡ Ok (some ++ specs)
  reads_added at some [] [] are few = ap (λ (ss : List Spec). Ok ss) (sym (append-nil some))
  reads_added at some [] (spec ∷ specs) are few = absurd cc
  reads_added at some (p ∷ ps) specs are few =
      elim (cases_Bool (has_no_content p)) [
        | inl nothing ↦ rw nothing (reads_added (at + 1) some ps specs (rw nothing at are) few)
        | inr means ↦ reads_one at some p ps means specs (rw means at are) few (λ more rest goes room. reads_added (at + 1) more ps rest goes room)
      ]

  pub read_in_order : (bytes : List ℕ) (specs : List Spec) → (read_each (one_more naming sep rules) [] (pieces (separator sep) bytes) ≡ Ok specs) ↔ AreRead naming sep rules bytes specs
  read_in_order bytes specs = (
    λ e.
        let more = added 1 [] (pieces (separator sep) bytes) specs (omega arith) e in
        record { each = more.each ∙ ap (map (λ spec. Ok spec)) (sym more.out_is); few = more.few },
    λ are. reads_added 1 [] (pieces (separator sep) bytes) specs are.each are.few,
  )
