-- Keys of entries, and their order in a list.
use Rattle.std.specs.Prelude.{◌≡◌, ℕ, zero, suc, Bool, true, false, Option, Some, None, refl}
use Rattle.std.specs.Ordering.{nat_cmp, ordering_then, eq_by_cmp}
use Rattle.std.specs.declared.cmp.Ordering.{Ordering}
use Rattle.std.specs.Coded.{Coded, code_by, coded×, coded_ℕ}
use Rattle.acl_entry.specs.declared.entry.Key.{Key}
use Rattle.acl_entry.specs.declared.entry.Key.TheVariants.{Owner, User, OwningGroup, Group, Mask, Other}

-- the kinds of keys in the order of a list
abbrev pub rank : Key → ℕ
rank Owner = 0
rank (User id) = 1
rank OwningGroup = 2
rank (Group id) = 3
rank Mask = 4
rank Other = 5

-- the id that a key names, if it names one
abbrev pub named_id : Key → Option ℕ
named_id Owner = None
named_id (User id) = Some id
named_id OwningGroup = None
named_id (Group id) = Some id
named_id Mask = None
named_id Other = None

-- the id of a named key, and else 0
abbrev pub id_of : Key → ℕ
id_of Owner = 0
id_of (User id) = id
id_of OwningGroup = 0
id_of (Group id) = id
id_of Mask = 0
id_of Other = 0

-- list order: by kind, and within a kind by id
abbrev pub key_cmp : Key → Key → Ordering
key_cmp a b = ordering_then (nat_cmp (rank a) (rank b)) (nat_cmp (id_of a) (id_of b))

abbrev pub same_key : Key → Key → Bool
same_key = eq_by_cmp key_cmp

-- a user or a group that is named
abbrev pub is_named : Key → Bool
is_named Owner = false
is_named (User id) = true
is_named OwningGroup = false
is_named (Group id) = true
is_named Mask = false
is_named Other = false

abbrev pub is_base : Key → Bool
is_base Owner = true
is_base (User id) = false
is_base OwningGroup = true
is_base (Group id) = false
is_base Mask = false
is_base Other = true

-- the group class: the owning group and the named keys
abbrev pub is_class : Key → Bool
is_class Owner = false
is_class (User id) = true
is_class OwningGroup = true
is_class (Group id) = true
is_class Mask = false
is_class Other = false

abbrev pub key_from : ℕ → ℕ → Key
key_from zero id = Owner
key_from (suc zero) id = User id
key_from (suc (suc zero)) id = OwningGroup
key_from (suc (suc (suc zero))) id = Group id
key_from (suc (suc (suc (suc zero)))) id = Mask
key_from (suc (suc (suc (suc (suc n))))) id = Other

pub key_from-rank : (k : Key) → key_from (rank k) (id_of k) ≡ k
key_from-rank Owner = refl
key_from-rank (User id) = refl
key_from-rank OwningGroup = refl
key_from-rank (Group id) = refl
key_from-rank Mask = refl
key_from-rank Other = refl

abbrev pub coded_key : Coded Key
coded_key = code_by (ℕ × ℕ) (coded× coded_ℕ coded_ℕ) (λ k. (rank k, id_of k)) (λ p. key_from p.0 p.1) key_from-rank
