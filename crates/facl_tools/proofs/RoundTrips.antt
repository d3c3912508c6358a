-- What tools print of the lists of files is read by tools as these lists.
use Rattle.std.proofs.Common.{◌≡◌, ℕ, ◌+◌, List, [], ◌∷◌, ◌++◌, map, Option, Some, None, option_map, Result, Ok, Err, refl, ap, ◌∙◌}
use Rattle.std.specs.Prelude.{IfSome, codes}
use Rattle.std.specs.List.{AllByRecursion}
use Rattle.std.specs.Option.{option_map_or}
use Rattle.acl_entry.proofs.Maps.{map_of-entries}
use Rattle.facl_output.proofs.ListsPut.{access_put, default_put, both_put}
use Rattle.acl_text.specs.Attr.{attr_bytes, attr_of, bad_attr}
use Rattle.acl_edit.specs.Nodes.{IsSound}
use Rattle.acl_edit.specs.declared.node.Node.{Node}
use Rattle.acl_entry.specs.Lists.{KeyMap, entries, map_of}
use Rattle.acl_entry.specs.declared.entry.Entry as entry
use Rattle.acl_people.specs.KnownPeople.{KnownPeople, naming_of}
use Rattle.acl_text.specs.InTurn.{of_list}
use Rattle.acl_text.specs.Writing.{short, specs_from}
use Rattle.acl_text.specs.declared.entries.Spec.{Spec}
use Rattle.acl_text.specs.declared.fault.TextFault.{TextFault}
use Rattle.acl_text.specs.declared.fault.Which.{Which}
use Rattle.acl_text.specs.declared.fault.Which.TheVariants.{Access, Default}
use Rattle.acl_text.specs.Results.{◌>>=◌, map_err}
use Rattle.acl_names.specs.Paths.{PathOf}
use Rattle.acl_tree.specs.Files.{Files}
use Rattle.acl_tree.specs.Sound.{ArePlaced}
use Rattle.facl_output.specs.RoundTrips.{IsAttributeAgain, AreAttributesAgain, IsShortAgain, AreListsAgain, all_entries, specs_of}
use Rattle.facl_output.specs.ChaclListings.{default_part}
use Rattle.facl_output.specs.Listings.{path_shown}
use Rattle.facl_output.specs.TestListing.{lists_text}
use Rattle.facl_output.specs.Faults.{line_fault_of_text}
use Rattle.facl_script.specs.Forms.{Text}
use Rattle.facl_output.specs.declared.fault.LineFault.{LineFault}
use Rattle.facl_output.specs.declared.fault.LineFault.TheVariants.{Text as BadText}
use Rattle.facl_output.specs.declared.fault.Source.{Source}
use Rattle.facl_output.specs.declared.fault.Source.TheVariants.{Entry, DefaultEntry, AttributeEntry}
use Rattle.facl_tools.specs.Lists.{entry_of, list_from, list_of_text}
use Rattle.facl_tools.specs.RoundTrips.{file_listed, after_slash, IsReadByChacl, IsReadBySetattr, AreReadBySetattr, IsReadBySet}
use Rattle.facl_tools.specs.Setattr as setattr
use Rattle.facl_tools.specs.declared.setfacl_entries.ChangeEntries.{ChangeEntries}
use Rattle.hex.specs.Hex.{encode_lower}
use Rattle.hex.specs.declared.error.FromHexError.{FromHexError}

-- ---- chacl

entries_again : (at : ℕ) (es : List entry.Entry) → map entry_of (specs_from at es) ≡ es
entries_again at [] = refl
entries_again at (e ∷ es) = ap (λ (l : List entry.Entry). e ∷ l) (entries_again (at + 1) es)

module _ (known : KnownPeople) where
  abbrev printed : KeyMap → Text
  printed acl = short (naming_of known) (entries acl)

  list_again : (source : Source) (which : Which) (acl : KeyMap) → IsShortAgain known acl → list_of_text known source which (printed acl) ≡ Ok acl
  unfolding list_of_text
  list_again source which acl is =
      ap (λ r. map_err (line_fault_of_text source) r >>= λ specs. list_from source which (map entry_of specs)) is.read
      ∙ (ap (list_from source which) (entries_again 1 (entries acl))
      ∙ (ap (λ f. option_map_or (λ f. Err (line_fault_of_text source (record { kind = of_list which f; at = 0 }))) f (Ok (map_of (entries acl)))) is.valid
      ∙ ap (λ m. Ok m) (map_of-entries acl)))

  default_shown : (dacl : Option KeyMap) → default_part (naming_of known) dacl ≡ after_slash (option_map printed dacl)
  default_shown None = refl
  default_shown (Some dacl) = refl

  default_again : (dacl : Option KeyMap) → IfSome dacl (IsShortAgain known) → option_map (list_of_text known DefaultEntry Default) (option_map printed dacl) ≡ option_map Ok dacl
  default_again None is = refl
  default_again (Some dacl) is = ap (λ (r : Result KeyMap LineFault). Some r) (list_again DefaultEntry Default dacl is)

  read_by_chacl : (e : PathOf × Node) → IsSound e.1 → AreListsAgain known e.1 → IsReadByChacl known e
  read_by_chacl e sound is = record {
    access_text = printed e.1.label.acl;
    default_text = option_map printed e.1.dacl;
    line = λ has_below. ap (λ (text : List ℕ). path_shown (file_listed e has_below) ++ (codes " [" ++ (printed e.1.label.acl ++ (text ++ 93 ∷ 10 ∷ [])))) (default_shown e.1.dacl);
    access = list_again Entry Access e.1.label.acl is.access;
    dacl = default_again e.1.dacl is.dacl;
    same = both_put e.1 sound;
  }

  pub chacl_again : (all es : Files) → ArePlaced all es → AllByRecursion (λ e. AreListsAgain known e.1) es → AllByRecursion (IsReadByChacl known) es
  chacl_again all [] placed are = tt
  chacl_again all (e ∷ es) placed are = (read_by_chacl e placed.0.default are.0, chacl_again all es placed.1 are.1)

  -- ---- setfacl

  abbrev only_set : List Spec → ChangeEntries
  only_set specs = record { remove = []; modify = []; set = specs }

  read_by_set : (e : PathOf × Node) → AreListsAgain known e.1 → IsReadBySet known e
  read_by_set e is = record {
    lists = lists_text (naming_of known) e.1;
    entries = only_set (specs_of 1 (all_entries e.1));
    line = λ has_below. refl;
    read = λ files text. ap (λ (r : Result (List Spec) TextFault). map_err (line_fault_of_text Entry) r >>= λ specs. Ok (only_set specs)) is.both;
    set = λ files. is.set;
  }

  pub set_again : (es : Files) → AllByRecursion (λ e. AreListsAgain known e.1) es → AllByRecursion (IsReadBySet known) es
  set_again [] are = tt
  set_again (e ∷ es) are = (read_by_set e are.0, set_again es are.1)

-- ---- setattr

attribute_again : (acl : KeyMap) → IsAttributeAgain acl → setattr.list_of_digits (encode_lower (attr_bytes acl)) ≡ Ok acl
attribute_again acl is =
    ap (λ (r : Result (List ℕ) FromHexError). map_err (λ e. BadText AttributeEntry (bad_attr 0)) r >>= λ bytes. map_err (line_fault_of_text AttributeEntry) (attr_of bytes)) is.digits
    ∙ ap (map_err (line_fault_of_text AttributeEntry)) is.list

access_by_setattr : (n : Node) → IsAttributeAgain n.label.acl → IsReadBySetattr n Access (codes "system.posix_acl_access") n.label.acl
access_by_setattr n is = record {
  word = codes "system.posix_acl_access=0x" ++ encode_lower (attr_bytes n.label.acl);
  digits = encode_lower (attr_bytes n.label.acl);
  line = refl;
  read = refl;
  list = attribute_again n.label.acl is;
  same = access_put n;
}

default_by_setattr : (n : Node) → IsSound n → (dacl : Option KeyMap) → n.dacl ≡ dacl → IfSome dacl IsAttributeAgain → IfSome dacl (IsReadBySetattr n Default (codes "system.posix_acl_default"))
default_by_setattr n sound None same is = tt
default_by_setattr n sound (Some dacl) same is = record {
  word = codes "system.posix_acl_default=0x" ++ encode_lower (attr_bytes dacl);
  digits = encode_lower (attr_bytes dacl);
  line = refl;
  read = refl;
  list = attribute_again dacl is;
  same = default_put n sound dacl same;
}

pub setattr_again : (all es : Files) → ArePlaced all es → AllByRecursion (λ e. AreAttributesAgain e.1) es → AllByRecursion (λ e. AreReadBySetattr e.1) es
setattr_again all [] placed are = tt
setattr_again all (e ∷ es) placed are = (
  record { access = access_by_setattr e.1 are.0.access; dacl = default_by_setattr e.1 placed.0.default e.1.dacl refl are.0.dacl },
  setattr_again all es placed.1 are.1,
)
