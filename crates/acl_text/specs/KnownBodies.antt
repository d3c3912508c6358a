-- The bodies that were read, each with a record that has what it says. Only the clauses of inner functions name it.
use Rattle.std.specs.Prelude.{◌≡◌, ◌<◌, ℕ, List, length, Some, slice_get, slice_index_or}
use Rattle.acl_text.specs.Naming.{Naming}
use Rattle.acl_text.specs.declared.bodies.Known.{Known}
use Rattle.acl_text.specs.declared.bodies.Bodies.{Bodies}
use Rattle.acl_text.specs.declared.record.DumpUse.{DumpUse}
use Rattle.acl_text.specs.declared.record.DumpRecord.{DumpRecord}
use Rattle.acl_text.specs.SameBodies.{IsBody, Says}

-- a body that is kept
pub record IsAmong (bodies : Bodies) (k : Known) : Type 0 where
  pub at : ℕ
  pub there : slice_get bodies.kept.items at ≡ Some (Some k)

module _ (naming : Naming) (dump_use : DumpUse) where
  -- a body, and the place of a record that has what it says
  pub record IsKnown (records : List DumpRecord) (k : Known) : Type 0 where
    pub body : IsBody k.body.bytes.now k.body.lines
    pub place : k.place < length records
    pub says : (r : DumpRecord) → Says naming dump_use k.body.bytes.now (slice_index_or records k.place r)

  abbrev pub AreKnown : List DumpRecord → Bodies → Type 0
  AreKnown records bodies = (k : Known) → IsAmong bodies k → IsKnown records k
