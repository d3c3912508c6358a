-- What opens and reads files: what is known of the bytes of each, and of those that the open one has left.
use Rattle.std.specs.Prelude.{◌≡◌, ◌<◌, ◌≤◌, ℕ, List, [], ◌++◌, length, take, Result, MatchResult, ⊤}

-- What is known of the bytes of a file, or of those that it has left: they are these, or a read fails before their end.
pub data Bytes : Type 0 where
  unknown : Bytes
  known : List ℕ → Bytes
  broken : Bytes

-- The file is open: what it has left is what it has.
abbrev pub IsOpened : Bytes → Bytes → Type 0
IsOpened unknown left = ⊤
IsOpened (known bytes) left = left ≡ known bytes
IsOpened broken left = left ≡ broken

-- an error may be returned: it is not known that all bytes can be read
abbrev pub MayFail : Bytes → Type 0
MayFail unknown = ⊤
MayFail (known bytes) = ⊥
MayFail broken = ⊤

-- this piece is the next of the bytes that the file has left
abbrev pub Loses : Bytes → Bytes → List ℕ → Type 0
Loses unknown left piece = ⊤
Loses (known bytes) left piece = (rest : List ℕ) × (left ≡ known rest) × (bytes ≡ piece ++ rest)
Loses broken left piece = left ≡ broken

-- no byte is left
abbrev pub IsOver : Bytes → Type 0
IsOver unknown = ⊤
IsOver (known bytes) = bytes ≡ []
IsOver broken = ⊥

-- A file that is opened has its bytes left. An error comes only where it is not known that they can be read.
abbrev pub Opens : {E A : Type 0} → Bytes → Bytes → Result A E → Type 0
Opens bytes left result = MatchResult result (λ _. IsOpened bytes left) (λ _. MayFail bytes)

-- A read gives the next bytes that are left, and none of them only at the end or without room. An error comes only
-- where it is not known that they can be read.
abbrev pub Reads : {E : Type 0} → Bytes → Bytes → Result ℕ E → List ℕ → Type 0
Reads left left' result piece =
    MatchResult result (λ n. Loses left left' (take n piece) × (n ≡ 0 → 0 < length piece → IsOver left')) (λ _. MayFail left)

-- all bytes are read, and they are within a limit
abbrev pub IsText : ℕ → Bytes → List ℕ → Type 0
IsText limit unknown text = ⊤
IsText limit (known bytes) text = (text ≡ bytes) × (length bytes ≤ limit)
IsText limit broken text = ⊥

-- it is not known that all bytes can be read and are within a limit
abbrev pub HasNoText : ℕ → Bytes → Type 0
HasNoText limit unknown = ⊤
HasNoText limit (known bytes) = limit < length bytes
HasNoText limit broken = ⊤
