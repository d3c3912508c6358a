-- The attributes that `attr` prints are read again as the lists that they were made of.
use Rattle.std.proofs.Common.{◌<◌, ◌%◌, ◌/◌, ◌^◌, ℕ, zero, suc, List, [], ◌∷◌, ◌++◌, Option, Some, None, arith}
use Rattle.std.specs.Int.{byte_at, bytes_low_first}
use Rattle.std.specs.List.{flat_map, AllByRecursion}
use Rattle.acl_text.proofs.EntryRoundTrips.{attr_again}
use Rattle.acl_text.specs.Attr.{tag_of, written_id, entry_bytes, attr_bytes}
use Rattle.std.specs.Prelude.{IfSome}
use Rattle.acl_text.specs.RoundTrips.{IsListIf}
use Rattle.acl_edit.specs.declared.node.Node.{Node}
use Rattle.acl_entry.specs.Lists.{KeyMap, entries}
use Rattle.acl_entry.specs.Perms.{number}
use Rattle.acl_entry.specs.declared.entry.Entry.{Entry}
use Rattle.acl_people.specs.KnownPeople.{KnownPeople, naming_of}
use Rattle.acl_names.specs.Paths.{PathOf}
use Rattle.acl_tree.specs.Files.{Files}
use Rattle.hex.proofs.HexLemmas.{decode_of-encode_lower}
use Rattle.hex.specs.Hex.{IsBytes}
use Rattle.facl_output.specs.RoundTrips.{IsListAgain, IsReadAgain, IsAttributeAgain, AreAttributesAgain}

nil_bytes : IsBytes []
nil_bytes i = omega arith

cons_bytes : (b : ℕ) (bs : List ℕ) → b < 256 → IsBytes bs → IsBytes (b ∷ bs)
cons_bytes b bs h hs zero = h
cons_bytes b bs h hs (suc i) = hs i

append_bytes : (xs ys : List ℕ) → IsBytes xs → IsBytes ys → IsBytes (xs ++ ys)
append_bytes [] ys h k = k
append_bytes (x ∷ xs) ys h k = cons_bytes x (xs ++ ys) (h 0) (append_bytes xs ys (λ i. h (suc i)) k)

a_byte : (n : ℕ) → n % 256 < 256
a_byte n = omega arith

byte_at_is : (i n : ℕ) → byte_at i n < 256
byte_at_is zero n = a_byte n
byte_at_is (suc i) n = a_byte (n / 256 ^ suc i)

low_bytes : (i k n : ℕ) → IsBytes (bytes_low_first i k n)
low_bytes i zero n = nil_bytes
low_bytes i (suc k) n = cons_bytes (byte_at i n) (bytes_low_first (suc i) k n) (byte_at_is i n) (low_bytes (suc i) k n)

entry_is_bytes : (e : Entry) → IsBytes (entry_bytes e)
entry_is_bytes e =
    append_bytes (bytes_low_first 0 2 (tag_of e.key)) (bytes_low_first 0 2 (number e.perm) ++ bytes_low_first 0 4 (written_id e.key)) (low_bytes 0 2 (tag_of e.key))
    (append_bytes (bytes_low_first 0 2 (number e.perm)) (bytes_low_first 0 4 (written_id e.key)) (low_bytes 0 2 (number e.perm)) (low_bytes 0 4 (written_id e.key)))

entries_are_bytes : (es : List Entry) → IsBytes (flat_map entry_bytes es)
entries_are_bytes [] = nil_bytes
entries_are_bytes (e ∷ es) = append_bytes (entry_bytes e) (flat_map entry_bytes es) (entry_is_bytes e) (entries_are_bytes es)

attribute_is_bytes : (acl : KeyMap) → IsBytes (attr_bytes acl)
attribute_is_bytes acl = append_bytes (bytes_low_first 0 4 2) (flat_map entry_bytes (entries acl)) (low_bytes 0 4 2) (entries_are_bytes (entries acl))

attribute_again : (known : KnownPeople) (acl : KeyMap) → IsListAgain known acl → IsAttributeAgain acl
attribute_again known acl h = record {
  digits = decode_of-encode_lower (attr_bytes acl) (attribute_is_bytes acl);
  list = attr_again acl h.valid h.ids;
}

default_again : (known : KnownPeople) (o : Option KeyMap) → IsListIf (naming_of known) o → IfSome o IsAttributeAgain
default_again known None h = tt
default_again known (Some acl) h = attribute_again known acl h

node_again : (known : KnownPeople) (e : PathOf × Node) → IsReadAgain known e → AreAttributesAgain e.1
node_again known e h = record { access = attribute_again known e.1.label.acl h.access; dacl = default_again known e.1.dacl h.dacl }

pub attributes_again : (known : KnownPeople) (es : Files) → AllByRecursion (IsReadAgain known) es → AllByRecursion (λ e. AreAttributesAgain e.1) es
attributes_again known [] h = tt
attributes_again known (e ∷ es) h = (node_again known e h.0, attributes_again known es h.1)
