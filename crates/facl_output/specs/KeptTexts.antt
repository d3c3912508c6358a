-- Texts that are kept of nodes, so that they are not made again.
use Rattle.std.specs.Prelude.{◌≡◌, ◌≤◌, ℕ, List, length, slice_range, Option, IfSome}
use Rattle.std.specs.List.{All}
use Rattle.acl_edit.specs.declared.node.Node.{Node}
use Rattle.facl_output.specs.declared.kept_texts.Kept.{Kept}
use Rattle.facl_output.specs.declared.kept_texts.KeptTexts.{KeptTexts}

module _ (text_of : Node → List ℕ) where
  -- A place has nothing, or says where among the bytes the text of its node is.
  abbrev pub IsKept : List ℕ → Option Kept → Type 0
  IsKept bytes place =
      IfSome place (λ kept. (kept.start ≤ kept.end) × (kept.end ≤ length bytes) × (slice_range bytes kept.start kept.end ≡ text_of kept.node.now))

  abbrev pub AreKept : KeptTexts → Type 0
  AreKept texts = All (IsKept texts.bytes.items) texts.places.items
