-- The mask that a setfacl(1) line leaves in a list that it names.
use Rattle.std.specs.Prelude.{Bool, not, ◌&&◌, ◌||◌, if◌then◌else◌}
use Rattle.std.specs.List.{list_any}
use Rattle.std.specs.FinMap as maps
use Rattle.acl_entry.specs.Lists.{KeyMap, entries, class_union}
use Rattle.acl_entry.specs.Keys.{is_named}
use Rattle.acl_entry.specs.declared.entry.Key.TheVariants.{OwningGroup, Mask}
use Rattle.acl_edit.specs.Parts.{Part, gives_mask, is_of_mask}
use Rattle.acl_edit.specs.Steps.{put_some}
use Rattle.acl_edit.specs.Changes.{Change}

abbrev pub has_mask : KeyMap → Bool
has_mask m = maps.contains_key m Mask

abbrev pub has_named : KeyMap → Bool
has_named m = list_any (λ e. is_named e.key) (entries m)

-- named entries without a mask get one equal to the owning group
abbrev pub add_mask : KeyMap → KeyMap
add_mask m = if has_named m && not (has_mask m) then put_some m Mask (maps.get m OwningGroup) else m

-- a mask that is present becomes all that the group class has
abbrev pub recalculate : KeyMap → KeyMap
recalculate m = if has_mask m then maps.insert m Mask (class_union m) else m

-- -n leaves the mask, and without --mask so does a mask that the line gives
abbrev pub is_recalculated : Change → Part → Bool
is_recalculated c p = not c.no_mask && (c.remask || not (gives_mask p))

-- a mask is in m, and the line takes it out
abbrev pub takes_mask : Part → KeyMap → Bool
takes_mask p m = has_mask m && list_any is_of_mask p.remove

-- the mask of a list, where lost means that the line took one out
abbrev pub with_mask : Change → Part → Bool → KeyMap → KeyMap
with_mask c p lost m =
    let masked = if lost then m else add_mask m in
    if is_recalculated c p then recalculate masked else masked
