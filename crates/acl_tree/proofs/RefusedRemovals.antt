-- Why a removal is refused.
use Rattle.std.proofs.Common.{◌≡◌, ◌≤◌, ℕ, Bool, true, false, not, ◌&&◌, List, [], ◌∷◌, Option, Some, None, if◌then◌else◌, refl, sym, ap, subst, ◌∙◌, arith}
use Rattle.std.specs.Option.{option_or}
use Rattle.std.specs.FinMap.{find}
use Rattle.std.specs.Prelude.{Ok}
use Rattle.acl_names.specs.Paths.{path_cmp, PathOf}
use Rattle.acl_names.proofs.Basics.{some_is_not_none, none_is_not_some}
use Rattle.acl_edit.specs.Nodes.{is_directory}
use Rattle.acl_edit.specs.declared.node.Kind.{Kind}
use Rattle.acl_edit.specs.declared.node.Kind.TheVariants.{Plain, Directory}
use Rattle.acl_edit.specs.declared.node.Node.{Node}
use Rattle.acl_tree.specs.declared.fault.TreeFault.{TreeFault}
use Rattle.acl_tree.specs.declared.fault.TreeFault.TheVariants.{NoSuchFile, IsDirectory}
use Rattle.acl_tree.specs.declared.command.Command.{Command}
use Rattle.acl_tree.specs.declared.command.Command.TheVariants.{Rm}
use Rattle.acl_tree.specs.Rm.{refusal, first_refused, without_files}
use Rattle.acl_tree.specs.State.{State, with_tree}
use Rattle.acl_tree.specs.Refusals.{rank, place, place_of, IsRefusedForFirst}
use Rattle.acl_tree.specs.Causes.{IsAmong}
use Rattle.acl_tree.specs.Step.{Applies}
use Rattle.acl_tree.proofs.Refused.{Decides, decides_err, decides_ok, AreApart, refused_for_first}
use Rattle.acl_tree.proofs.FirstAmong.{first_of, none_among, first_among, one_place}
use Rattle.acl_text.specs.Results.{◌>>=◌, unless}

some_eq : {A : Type 0} (o : Option A) (a b : A) → o ≡ Some a → o ≡ Some b → a ≡ b
some_eq o a b h k = cc

module _ (s : State) (recursive : Bool) where
  abbrev removes : List PathOf → Command
  removes paths = Rm paths recursive

  -- why an operand is not removed
  abbrev check : PathOf → Option TreeFault
  check p = refusal recursive p (find path_cmp p s.tree.files)

  -- a fault of one operand
  pub record IsOf (paths : List PathOf) (f : TreeFault) : Type 0 where
    pub path : PathOf
    pub among : IsAmong paths path
    pub fails : check path ≡ Some f
    pub at : place_of s (removes paths) f ≡ place path paths
    pub ranked : rank f ≡ 9

  directory_refused : (p : PathOf) (n : Node) → recursive ≡ false → n.kind ≡ Directory → refusal recursive p (Some n) ≡ Some (IsDirectory p)
  directory_refused p n off is = λ i. if is_directory (is i) && not (off i) then Some (IsDirectory p) else None

  of_operand : (paths : List PathOf) (f : TreeFault) → Applies s (Rm paths recursive) f → IsOf paths f
  of_operand paths (NoSuchFile p) h = record { path = p; among = h.0; fails = ap (λ o. refusal recursive p o) h.1; at = refl; ranked = refl }
  of_operand paths (IsDirectory p) h = record {
    path = p;
    among = h.0;
    fails = ap (λ o. refusal recursive p o) h.2.recorded ∙ directory_refused p h.2.node h.1 h.2.is;
    at = refl;
    ranked = refl;
  }
  of_operand paths f h = absurd h

  abbrev Applied : List PathOf → PathOf → TreeFault → Type 0
  Applied paths p f = Applies s (Rm paths recursive) f × (place_of s (removes paths) f ≡ place p paths) × (rank f ≡ 9)

  -- what an operand is refused for applies
  refused_applies : (paths : List PathOf) (p : PathOf) (f : TreeFault) → IsAmong paths p → check p ≡ Some f → Applied paths p f
  refused_applies paths p f among h = by (find path_cmp p s.tree.files) refl h
    where
      by_kind : (n : Node) → find path_cmp p s.tree.files ≡ Some n → (k : Kind) → n.kind ≡ k → (b : Bool) → recursive ≡ b
          → (if is_directory k && not b then Some (IsDirectory p) else None) ≡ Some f → Applied paths p f
      by_kind n at Plain is b all h = absurd (none_is_not_some f h)
      by_kind n at Directory is true all h = absurd (none_is_not_some f h)
      by_kind n at Directory is false all h =
          subst (Applied paths p) (some_eq (Some (IsDirectory p)) (IsDirectory p) f refl h) ((among, all, record { node = n; recorded = at; is = is }), refl, refl)

      by : (o : Option Node) → find path_cmp p s.tree.files ≡ o → refusal recursive p o ≡ Some f → Applied paths p f
      by None is h = subst (Applied paths p) (some_eq (Some (NoSuchFile p)) (NoSuchFile p) f refl h) ((among, is), refl, refl)
      by (Some n) is h = by_kind n is n.kind refl recursive refl h

  first_is : (paths : List PathOf) → first_of check paths ≡ first_refused recursive paths s.tree.files
  first_is [] = refl
  first_is (p ∷ paths) = ap (λ o. option_or (check p) o) (first_is paths)

  not_after : (a b c d m n : ℕ) → a ≡ 9 → b ≡ 9 → c ≡ m → d ≡ n → m ≤ n → (a ≤ b) × (c ≤ d)
  not_after a b c d m n x y z w h = (omega arith, omega arith)

  decides : (paths : List PathOf) (o : Option TreeFault) → first_refused recursive paths s.tree.files ≡ o
      → Decides s (removes paths) (unless o (Ok (record s.tree { files = without_files recursive paths s.tree.files })) >>= with_tree s)
  decides paths None is =
      decides_ok s (removes paths) _
      (λ g h. let of = of_operand paths g h in some_is_not_none _ g of.fails (none_among check paths (first_is paths ∙ is) of.path of.among))
  decides paths (Some f) is =
      let first = first_among check paths f (first_is paths ∙ is) in
      let applied = refused_applies paths first.path f first.among first.fails in
      decides_err s (removes paths) f applied.0
      (λ g h.
      let of = of_operand paths g h in
      let both = not_after _ _ _ _ _ _ applied.2 of.ranked applied.1 of.at (first.first of.path g of.among of.fails) in
      record { by_rank = both.0; by_place = λ _. both.1 })

  apart : (paths : List PathOf) → AreApart s (removes paths)
  apart paths f g fa ga _ same =
      let x = of_operand paths f fa in
      let y = of_operand paths g ga in
      let paths_same : x.path ≡ y.path = one_place paths x.path y.path x.among y.among (sym x.at ∙ same ∙ y.at) in
      some_eq (check y.path) f g (ap check (sym paths_same) ∙ x.fails) y.fails

  pub rm_refused : (paths : List PathOf) → IsRefusedForFirst s (Rm paths recursive)
  rm_refused paths = refused_for_first s (removes paths) (apart paths) (decides paths (first_refused recursive paths s.tree.files) refl)
