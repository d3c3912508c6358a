-- What the derived `==` of entries decides.
use Rattle.std.proofs.Common.{◌≡◌, Bool, true, false, refl, sym, ap, subst, ◌∙◌}
use Rattle.std.specs.Bool.{Decides}
use Rattle.std.proofs.lemmas.Bool.{and_parts, eqb-true, eq-eqb}
use Rattle.acl_entry.specs.declared.entry.Key.{Key}
use Rattle.acl_entry.specs.declared.entry.Key.TheVariants.{Owner, User, OwningGroup, Group, Mask, Other}
use Rattle.acl_entry.specs.declared.entry.Entry.{Entry}
use Rattle.acl_entry.specs.contracts.entry.KeyPartialEq.TheImpl.{ghosts as key_equality}
use Rattle.acl_entry.specs.contracts.entry.PermPartialEq.TheImpl.{ghosts as perm_equality}
use Rattle.acl_entry.specs.contracts.entry.EntryPartialEq.TheImpl.{ghosts as entry_equality}
use Rattle.acl_entry.specs.Perms.{Perms, number, numbered}
use Rattle.acl_entry.proofs.Basics.{both_true}

key_is_same : (a b : Key) → key_equality.eq a b ≡ true → a ≡ b
key_is_same Owner Owner h = refl
key_is_same Owner b h = cc
key_is_same (User m) (User n) h = ap User (eqb-true m n h)
key_is_same (User m) b h = cc
key_is_same OwningGroup OwningGroup h = refl
key_is_same OwningGroup b h = cc
key_is_same (Group m) (Group n) h = ap Group (eqb-true m n h)
key_is_same (Group m) b h = cc
key_is_same Mask Mask h = refl
key_is_same Mask b h = cc
key_is_same Other Other h = refl
key_is_same Other b h = cc

key_itself : (a : Key) → key_equality.eq a a ≡ true
key_itself Owner = refl
key_itself (User m) = eq-eqb m m refl
key_itself OwningGroup = refl
key_itself (Group m) = eq-eqb m m refl
key_itself Mask = refl
key_itself Other = refl

pub numbered_bools : (r w x : Bool) → numbered (number (record { read = r; write = w; execute = x })) ≡ record { read = r; write = w; execute = x }
numbered_bools true true true = refl
numbered_bools true true false = refl
numbered_bools true false true = refl
numbered_bools true false false = refl
numbered_bools false true true = refl
numbered_bools false true false = refl
numbered_bools false false true = refl
numbered_bools false false false = refl

-- a set is known by its number
numbered-number : (s : Perms) → numbered (number s) ≡ s
numbered-number s = numbered_bools s.read s.write s.execute

perm_is_same : (s t : Perms) → perm_equality.eq s t ≡ true → s ≡ t
perm_is_same s t h = sym (numbered-number s) ∙ ap numbered (eqb-true (number s) (number t) h) ∙ numbered-number t

perm_itself : (s : Perms) → perm_equality.eq s s ≡ true
perm_itself s = eq-eqb (number s) (number s) refl

same_entry : (a b : Entry) → a.key ≡ b.key → a.perm ≡ b.perm → a ≡ b
same_entry a b k p = λ i. record { key = k i; perm = p i }

entry_itself : (a : Entry) → entry_equality.eq a a ≡ true
entry_itself a = both_true _ _ (key_itself a.key) (perm_itself a.perm)

-- two entries are equal where `==` returns true
pub entry_decided : (a b : Entry) → Decides (entry_equality.eq a b) (a ≡ b)
entry_decided a b = (
  λ h. same_entry a b (key_is_same a.key b.key (and_parts _ _ h).0) (perm_is_same a.perm b.perm (and_parts _ _ h).1),
  λ p. subst (λ x. entry_equality.eq a x ≡ true) p (entry_itself a),
)
