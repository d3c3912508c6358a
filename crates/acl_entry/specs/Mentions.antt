-- The groups that a label mentions, and what the check may depend on.
use Rattle.std.specs.Prelude.{◌≡◌, ℕ, ◌==◌, Bool, true, List, ◌∷◌, Option, Some, None}
use Rattle.std.specs.List.{list_any, filter_map}
use Rattle.std.specs.FinSet as sets
use Rattle.acl_entry.specs.Lists.{entries}
use Rattle.acl_entry.specs.Person.{Person}
use Rattle.acl_entry.specs.declared.entry.Key.{Key}
use Rattle.acl_entry.specs.declared.entry.Key.TheVariants.{Owner, User, OwningGroup, Group, Mask, Other}
use Rattle.acl_entry.specs.declared.entry.Entry.{Entry}
use Rattle.acl_entry.specs.declared.label.Label.{Label}

-- the group that a key names
abbrev pub named_group : Key → Option ℕ
named_group Owner = None
named_group (User id) = None
named_group OwningGroup = None
named_group (Group id) = Some id
named_group Mask = None
named_group Other = None

abbrev pub named_groups : List Entry → List ℕ
named_groups es = filter_map (λ e. named_group e.key) es

-- the file's group, and the groups that entries name
abbrev pub mentions : Label → List ℕ
mentions f = f.group ∷ named_groups (entries f.acl)

abbrev pub is_one_of : ℕ → List ℕ → Bool
is_one_of id ids = list_any (λ x. x == id) ids

-- some id of the first list is one of the second
abbrev pub meets : List ℕ → List ℕ → Bool
meets ids others = list_any (λ id. is_one_of id others) ids

-- both are in a group of these, or neither is
abbrev pub AgreeOn : Person → Person → List ℕ → Type 0
AgreeOn u w ids = (g : ℕ) → is_one_of g ids ≡ true → sets.contains u.groups g ≡ sets.contains w.groups g

-- two users of one id, whose groups agree on what the label mentions
pub record AgreeOnMentions (u w : Person) (f : Label) : Type 0 where
  pub uid : u.uid ≡ w.uid
  pub groups : AgreeOn u w (mentions f)
