-- Verdicts that are not those of acl(5)'s check, and their locality.
use Rattle.std.specs.Prelude.{◌≡◌, ℕ, ◌==◌, ◌^◌, ◌||◌, if◌then◌else◌, refl}
use Rattle.std.specs.FinSet as sets
use Rattle.std.proofs.Common.{ap}
use Rattle.std.proofs.lemmas.Bool.{eq-eqb}
use Rattle.acl_entry.specs.Perms.{contains, number}
use Rattle.acl_entry.specs.Lists.{entries, perm_at}
use Rattle.acl_entry.specs.Check.{byte_of}
use Rattle.acl_entry.specs.Mentions.{AgreeOnMentions, is_one_of, named_groups}
use Rattle.acl_entry.specs.Person.{Person}
use Rattle.acl_entry.specs.declared.entry.Key.{Key}
use Rattle.acl_entry.specs.declared.entry.Key.TheVariants.{Owner, OwningGroup, Other}
use Rattle.acl_entry.specs.declared.label.Label.{Label}

-- the owner is granted what the owner's entry contains, and nobody else is granted anything
abbrev pub owner_alone : Person → Label → ℕ
owner_alone u f = if u.uid == f.owner then byte_of (contains (perm_at f.acl Owner)) else 0

pub owner_alone_local : (u w : Person) (f : Label) → AgreeOnMentions u w f → owner_alone u f ≡ owner_alone w f
owner_alone_local u w f h =
    ap (λ uid. if uid == f.owner then byte_of (contains (perm_at f.acl Owner)) else 0) h.uid

-- the key of the user's class: of the owner, of the owning group, or of the others
abbrev pub class_key : Person → Label → Key
class_key u f = if u.uid == f.owner then Owner
    else (if sets.contains u.groups f.group then OwningGroup else Other)

-- the one request that is the permission set of this class is granted, and no smaller one
abbrev pub whole_class : Person → Label → ℕ
whole_class u f = 2 ^ number (perm_at f.acl (class_key u f))

pub whole_class_local : (u w : Person) (f : Label) → AgreeOnMentions u w f → whole_class u f ≡ whole_class w f
whole_class_local u w f h =
    let own = h.groups f.group (ap (λ b. b || is_one_of f.group (named_groups (entries f.acl))) (eq-eqb f.group f.group refl)) in
    λ i. 2 ^ number (perm_at f.acl (if h.uid i == f.owner then Owner
    else (if own i then OwningGroup else Other)))
