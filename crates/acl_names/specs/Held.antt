-- How bytes are kept: as the first bytes of an array, with their number, or in an allocation.
use Rattle.std.specs.Prelude.{◌≡◌, ℕ, ◌≤◌, List, length, take, ⊤}
use Rattle.acl_names.specs.declared.held_bytes.FewBytes.{FewBytes}
use Rattle.acl_names.specs.declared.held_bytes.BytesForm.{BytesForm}
use Rattle.acl_names.specs.declared.held_bytes.BytesForm.TheVariants.{Few, Many}

abbrev pub few_in : FewBytes → List ℕ
few_in few = take few.count few.array

-- the array has 38 bytes, and no more are counted
abbrev pub IsFew : FewBytes → Type 0
IsFew few = (few.count ≤ 38) × (length few.array ≡ 38)

abbrev pub bytes_in : BytesForm → List ℕ
bytes_in (Few few) = few_in few
bytes_in (Many bytes) = bytes.items

abbrev pub IsHeld : BytesForm → Type 0
IsHeld (Few few) = IsFew few
IsHeld (Many bytes) = ⊤
