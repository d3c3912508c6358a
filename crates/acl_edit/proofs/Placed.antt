-- An edit keeps the kind of a file, and leaves a default list to directories alone.
use Rattle.std.proofs.Common.{◌≡◌, Bool, true, false, ◌||◌, Option, Some, None, Result, Ok, Err, if◌then◌else◌, refl, sym, ap, subst, ◌∙◌}
use Rattle.std.specs.Prelude.{unwrap_or}
use Rattle.acl_entry.specs.Lists.{KeyMap, or_else}
use Rattle.acl_entry.proofs.Basics.{err_is_not_ok}
use Rattle.acl_edit.specs.Nodes.{IsSound, with_lists}
use Rattle.acl_edit.specs.Edits as steps
use Rattle.acl_edit.specs.Edits.{edit, allowed, changed_access, changed_default, is_misplaced}
use Rattle.acl_edit.specs.Changes.{Change, options}
use Rattle.acl_edit.specs.declared.edit.Edit.{Edit}
use Rattle.acl_edit.specs.declared.edit.Edit.TheVariants as edits
use Rattle.acl_edit.specs.declared.edit.EditFault.{EditFault}
use Rattle.acl_edit.specs.declared.edit.EditFault.TheVariants.{DefaultOnFile}
use Rattle.acl_edit.specs.declared.node.Kind.{Kind}
use Rattle.acl_edit.specs.declared.node.Kind.TheVariants.{Plain, Directory}
use Rattle.acl_edit.specs.declared.node.Node.{Node}
use Rattle.acl_text.specs.Results.{◌>>=◌}

-- a file of the same kind, and sound where the old one is
pub record KeepsKind (old new : Node) : Type 0 where
  pub kind : new.kind ≡ old.kind
  pub sound : IsSound old → IsSound new

directory_is_not_plain : Directory ≡ Plain → ⊥
directory_is_not_plain h = cc

bound : {A : Type 0} (P : Node → Type 0) (r : Result A EditFault) (f : A → Result Node EditFault) → ((x : A) → r ≡ Ok x → (m : Node) → f x ≡ Ok m → P m) → (m : Node) → (r >>= f) ≡ Ok m → P m
bound P (Ok x) f h m is = h x refl m is
bound P (Err fault) f h m is = absurd (err_is_not_ok m fault is)

abbrev node_or : Node → Result Node EditFault → Node
node_or n (Ok m) = m
node_or n (Err fault) = n

abbrev ok : Node → Result Node EditFault
ok n = Ok n

-- a file that is made, as it is
made : (n new m : Node) → KeepsKind n new → ok new ≡ Ok m → KeepsKind n m
made n new m keeps is = subst (λ x. KeepsKind n x) (ap (node_or n) is) keeps

abbrev list_or : Option KeyMap → Result (Option KeyMap) EditFault → Option KeyMap
list_or o (Ok d) = d
list_or o (Err fault) = o

either_none : (b : Bool) (o : Option KeyMap) → o ≡ None → (if b then None else o) ≡ None
either_none true o h = refl
either_none false o h = h

default_left : (k : Kind) (n : Node) (c : Change) (acl : KeyMap) (d : Option KeyMap) → changed_default k n c acl ≡ Ok d → k ≡ Plain → n.dacl ≡ None → d ≡ None
default_left Plain n c acl d is plain none = sym (ap (list_or None) is) ∙ either_none (c.strip || c.drop_default) n.dacl none
default_left Directory n c acl d is plain none = absurd (directory_is_not_plain plain)

none_allowed : (k : Kind) (in_recursion : Bool) (o d : Option KeyMap) → allowed k in_recursion o ≡ Ok d → k ≡ Plain → d ≡ None
none_allowed Directory in_recursion o d is plain = absurd (directory_is_not_plain plain)
none_allowed Plain in_recursion None d is plain = sym (ap (list_or None) is)
none_allowed Plain false (Some l) d is plain = absurd (err_is_not_ok d DefaultOnFile is)
none_allowed Plain true (Some l) d is plain = sym (ap (list_or None) is)

line_keeps_kind : (n : Node) (c : Change) (in_recursion : Bool) (m : Node) → steps.change n c in_recursion ≡ Ok m → KeepsKind n m
unfolding steps.change
line_keeps_kind n c in_recursion m is = by (is_misplaced n c in_recursion) is
  where
    by : (b : Bool) → (if b then Err DefaultOnFile else (changed_access n c >>= λ acl. changed_default n.kind n c acl >>= λ dacl. Ok (with_lists n acl dacl))) ≡ Ok m → KeepsKind n m
    by true is = absurd (err_is_not_ok m DefaultOnFile is)
    by false is =
        bound (KeepsKind n) (changed_access n c) (λ acl. changed_default n.kind n c acl >>= λ dacl. Ok (with_lists n acl dacl))
        (λ acl _ m is. bound (KeepsKind n) (changed_default n.kind n c acl) (λ dacl. Ok (with_lists n acl dacl))
        (λ d left m is. made n (with_lists n acl d) m (record { kind = refl; sound = λ sound plain. default_left n.kind n c acl d left plain (sound plain) }) is) m is)
        m is

pub keeps_kind : (n : Node) (e : Edit) (in_recursion : Bool) (m : Node) → edit n e in_recursion ≡ Ok m → KeepsKind n m
unfolding steps.put steps.flatten steps.restore
keeps_kind n (edits.Change b k d nm rm x s md) in_recursion m is = line_keeps_kind n (options b k d nm rm x s md) in_recursion m is
keeps_kind n (edits.Put access dacl) in_recursion m is =
    bound (KeepsKind n) (allowed n.kind in_recursion dacl) (λ d. Ok (with_lists n (unwrap_or access n.label.acl) (or_else d n.dacl)))
    (λ d given m is. made n (with_lists n (unwrap_or access n.label.acl) (or_else d n.dacl)) m
    (record { kind = refl; sound = λ sound plain. ap (λ o. or_else o n.dacl) (none_allowed n.kind in_recursion dacl d given plain) ∙ sound plain }) is)
    m is
keeps_kind n (edits.Flatten access dacl) in_recursion m is =
    made n (steps.flatten n access dacl) m (record { kind = refl; sound = λ sound plain. either_none dacl n.dacl (sound plain) }) is
keeps_kind n (edits.Restore access dacl owner group flags) in_recursion m is =
    bound (KeepsKind n) (allowed n.kind in_recursion dacl)
    (λ d. Ok (record {
      kind = n.kind;
      label = record { owner = unwrap_or owner n.label.owner; group = unwrap_or group n.label.group; acl = access };
      flags =
          unwrap_or flags steps.no_flags;
      dacl = d;
    }))
    (λ d given m is. made n
    (record { kind = n.kind; label = record { owner = unwrap_or owner n.label.owner; group = unwrap_or group n.label.group; acl = access }; flags = unwrap_or flags steps.no_flags; dacl = d }) m
    (record { kind = refl; sound = λ sound plain. none_allowed n.kind in_recursion dacl d given plain }) is)
    m is
