-- What a line keeps of a file.
use Rattle.std.proofs.Common.{◌≡◌, Bool, true, false, cond, if◌then◌else◌, ◌&&◌, ◌||◌, eqb, length, Option, Some, None, Result, Ok, Err, unwrap_or}
use Rattle.std.proofs.Common.{option_and_then, option_map, refl, sym, ap, subst, ◌∙◌}
use Rattle.std.proofs.lemmas.Bool.{eq-eqb, eqb-true}
use Rattle.std.proofs.lemmas.List.{length-map}
use Rattle.std.specs.Option.{option_map_or, ForSome}
use Rattle.std.specs.FinMap as maps
use Rattle.acl_entry.specs.Perms.{Perms}
use Rattle.acl_entry.specs.Keys.{key_cmp, is_base}
use Rattle.acl_entry.specs.Lists.{KeyMap, entries, fault, class_union, or_else}
use Rattle.acl_entry.specs.declared.entry.ListFault.{ListFault}
use Rattle.acl_entry.specs.declared.entry.Key.{Key}
use Rattle.acl_entry.specs.declared.entry.Key.TheVariants.{Owner, User, OwningGroup, Group, Mask, Other}
use Rattle.acl_text.specs.declared.fault.Which.TheVariants.{Access, Default}
use Rattle.acl_edit.specs.Nodes.{IsSound, HasValidLists, with_lists}
use Rattle.acl_edit.specs.Parts.{Part, part, names, puts, is_given, is_mask}
use Rattle.acl_edit.specs.Steps.{gives_execute, perms_of, strip, replace, fill_from}
use Rattle.acl_edit.specs.Masks.{takes_mask, with_mask, add_mask, recalculate, is_recalculated}
use Rattle.acl_edit.specs.Edits.{worked, checked, checked_default, access_after, default_after, access_before, default_before, changed_access, changed_default}
use Rattle.acl_edit.specs.Laws.{HidesNothing, LeavesUnnamed, ShowsRecalculated, KeepsGranted, GivesModified, GoesByKey, LeavesByKey, CopiesBase, MakesMask}
use Rattle.acl_edit.specs.Laws.{BoundsRecalculated, MasksNoMore, DropsDefault, last_for, given, has_entry, left_at, mask_made, mask_after, had_access}
use Rattle.acl_edit.specs.Laws.{had_default}
use Rattle.acl_edit.specs.Changes.{Change}
use Rattle.acl_edit.specs.declared.edit.EditFault.{EditFault}
use Rattle.acl_edit.specs.declared.edit.EditFault.TheVariants.{List as ListIs}
use Rattle.acl_edit.specs.declared.node.Kind.{Kind}
use Rattle.acl_edit.specs.declared.node.Kind.TheVariants.{Plain, Directory}
use Rattle.acl_edit.specs.declared.node.Node.{Node}
use Rattle.acl_edit.proofs.Kept.{checked_is, access_unnamed, default_unnamed, checked_valid}
use Rattle.acl_edit.proofs.Shown.{recalculate_shows, masks_no_more}
use Rattle.acl_edit.proofs.Given.{get-with_mask, get-fill_from, get-modified, puts_some, names_some, get-masked, get-steps, unnamed_key}
use Rattle.acl_text.specs.declared.entries.Spec.{Spec}
use Rattle.acl_text.specs.Results.{◌>>=◌}
use Rattle.acl_edit.proofs.Left.{had_access_is, had_default_is, access_key, access_mask, default_key, default_mask}
use Rattle.acl_edit.proofs.Stripped.{get-strip_base, get-strip_other}

-- ---- checked default lists

no_entries : eqb (length (entries maps.empty)) 0 ≡ true
no_entries =
    eq-eqb (length (entries maps.empty)) 0
    (length-map (maps.entries (maps.empty {X = Perms} {R = key_cmp})) (λ (p : Key × Perms). record { key = p.0; perm = p.1 }) ∙ sym (maps.len-entries maps.empty) ∙ maps.len-empty key_cmp Perms)

pub checked_empty : checked_default maps.empty ≡ Ok None
checked_empty = ap (λ b. cond b (Ok None) (checked Default maps.empty >>= λ d. Ok (Some d))) no_entries

checked_default_is : (m d : KeyMap) → checked_default m ≡ Ok (Some d) → d ≡ m
checked_default_is m d h = by_test (eqb (length (entries m)) 0) h
  where
    by_fault : (f : Option ListFault) → ◌≡◌ {A = Result (Option KeyMap) EditFault} (option_map_or (λ f. Err (ListIs Default f)) f (Ok m) >>= λ d. Ok (Some d)) (Ok (Some d)) → d ≡ m
    by_fault None e = cc
    by_fault (Some f) e = cc

    by_test : (b : Bool) → ◌≡◌ {A = Result (Option KeyMap) EditFault} (cond b (Ok None) (checked Default m >>= λ d. Ok (Some d))) (Ok (Some d)) → d ≡ m
    by_test true e = cc
    by_test false e = by_fault (fault (entries m)) e

-- a default list that is `None` has no entry
not_none : (m : KeyMap) (k : Key) (v : Perms) → checked_default m ≡ Ok None → maps.get m k ≡ Some v → ⊥
not_none m k v h there = by_test (eqb (length (entries m)) 0) refl h
  where
    by_fault : (f : Option ListFault) → ◌≡◌ {A = Result (Option KeyMap) EditFault} (option_map_or (λ f. Err (ListIs Default f)) f (Ok m) >>= λ d. Ok (Some d)) (Ok None) → ⊥
    by_fault None e = cc
    by_fault (Some f) e = cc

    by_test : (b : Bool) → eqb (length (entries m)) 0 ≡ b → ◌≡◌ {A = Result (Option KeyMap) EditFault} (cond b (Ok None) (checked Default m >>= λ d. Ok (Some d))) (Ok None) → ⊥
    by_test true is e =
        let none = maps.len-entries m ∙ sym (length-map (maps.entries m) (λ (p : Key × Perms). record { key = p.0; perm = p.1 })) ∙ eqb-true (length (entries m)) 0 is in
        let gone = ap (λ z. maps.get z k) (maps.empty_of_len m none) ∙ maps.get-empty key_cmp k in
        cc
    by_test false is e = by_fault (fault (entries m)) e

not_mask : (k : Key) → is_base k ≡ true → is_mask k ≡ false
not_mask Owner h = refl
not_mask (User id) h = refl
not_mask OwningGroup h = refl
not_mask (Group id) h = refl
not_mask Mask h = cc
not_mask Other h = refl

module _ (n : Node) (c : Change) (acl : KeyMap) (dacl : Option KeyMap) (made : changed_access n c ≡ Ok acl) (made_default : changed_default n.kind n c acl ≡ Ok dacl) where
  -- ---- lists that are not named

  access_is : acl ≡ access_after c (gives_execute n) (access_before c n.label.acl)
  access_is = checked_is Access _ acl made

  kept_default : (k : Kind) → changed_default k n c acl ≡ Ok dacl → HasValidLists n → (c.strip || c.drop_default) ≡ false → names (part c Default) ≡ false → dacl ≡ n.dacl
  kept_default Plain h valid keeps unnamed = let kept : ◌≡◌ {A = Result (Option KeyMap) EditFault} (Ok n.dacl) (Ok dacl) =
      subst (λ b. ◌≡◌ {A = Result (Option KeyMap) EditFault} (Ok (if b then None else n.dacl)) (Ok dacl)) keeps h in cc
  kept_default Directory h valid keeps unnamed = by_list n.dacl refl
    where
      before : default_after c (gives_execute n) acl (default_before c n.dacl) ≡ unwrap_or n.dacl maps.empty
      before = default_unnamed c (gives_execute n) acl (default_before c n.dacl) unnamed ∙ ap (λ b. if b then maps.empty else unwrap_or n.dacl maps.empty) keeps

      by_list : (o : Option KeyMap) → n.dacl ≡ o → dacl ≡ n.dacl
      by_list None e = let is = ap checked_default (before ∙ ap (λ o. unwrap_or o maps.empty) e) ∙ checked_empty in cc
      by_list (Some d) e = let is = ap checked_default (before ∙ ap (λ o. unwrap_or o maps.empty) e) ∙ checked_valid d (valid.dacl d e) in cc

  pub leaves_unnamed : HasValidLists n → LeavesUnnamed n c (with_lists n acl dacl)
  leaves_unnamed valid = record {
    access = λ keeps unnamed. access_is ∙ access_unnamed c (gives_execute n) _ unnamed ∙ ap (λ b. if b then strip n.label.acl else n.label.acl) keeps;
    dacl = kept_default n.kind made_default valid;
  }

  -- ---- masks that are recalculated

  mask_shown : (p : Part) (lost : Bool) (m : KeyMap) → is_recalculated c p ≡ true → HidesNothing (with_mask c p lost m)
  mask_shown p lost m again =
      let masked = if lost then m else add_mask m in
      subst (λ b. HidesNothing (if b then recalculate masked else masked)) (sym again) (recalculate_shows masked)

  access_shown : names (part c Access) ≡ true → is_recalculated c (part c Access) ≡ true → (m : KeyMap) → HidesNothing (access_after c (gives_execute n) m)
  unfolding access_after
  access_shown named again m =
      let p = part c Access in
      let x = gives_execute n in
      let lost = takes_mask p (replace x p.set m) in
      subst (λ b. HidesNothing (if b then with_mask c p lost (worked x p m) else m)) (sym named) (mask_shown p lost (worked x p m) again)

  default_shown : names (part c Default) ≡ true → is_recalculated c (part c Default) ≡ true → (m : KeyMap) → HidesNothing (default_after c (gives_execute n) acl m)
  unfolding default_after
  default_shown named again m =
      let p = part c Default in
      let x = gives_execute n in
      let lost = takes_mask p (replace x p.set m) in
      let filled = if puts p then fill_from acl (worked x p m) else worked x p m in
      subst (λ b. HidesNothing (if b then with_mask c p lost filled else m)) (sym named) (mask_shown p lost filled again)

  shown_default : (k : Kind) → changed_default k n c acl ≡ Ok dacl → k ≡ Directory → names (part c Default) ≡ true → is_recalculated c (part c Default) ≡ true → ForSome dacl HidesNothing
  shown_default Plain h directory named again d e = cc
  shown_default Directory h directory named again d e =
      subst HidesNothing (sym (checked_default_is _ d (h ∙ ap Ok e))) (default_shown named again (default_before c n.dacl))

  pub shows_recalculated : ShowsRecalculated n c (with_lists n acl dacl)
  shows_recalculated = record {
    access = λ named again. subst HidesNothing (sym access_is) (access_shown named again (access_before c n.label.acl));
    dacl = λ directory named again. shown_default n.kind made_default directory named again;
  }

  -- ---- stripped lists

  stripped : c.strip ≡ true → names (part c Access) ≡ false → acl ≡ strip n.label.acl
  stripped strips unnamed = access_is ∙ access_unnamed c (gives_execute n) _ unnamed ∙ ap (λ b. if b then strip n.label.acl else n.label.acl) strips

  pub keeps_granted : KeepsGranted n c (with_lists n acl dacl)
  keeps_granted = record {
    base = λ strips unnamed k h. ap (λ m. maps.get m k) (stripped strips unnamed) ∙ get-strip_base n.label.acl k h;
    others = λ strips unnamed k h. ap (λ m. maps.get m k) (stripped strips unnamed) ∙ get-strip_other n.label.acl k h;
  }

  -- ---- modified keys

  access_given : (k : Key) (s : Spec) → last_for k (part c Access).modify ≡ Some s → (is_mask k && is_recalculated c (part c Access)) ≡ false → (m : KeyMap)
      → maps.get (access_after c (gives_execute n) m) k ≡ Some (perms_of (gives_execute n) s.perm)
  unfolding access_after worked
  access_given k s last stays m =
      let p = part c Access in
      let x = gives_execute n in
      let lost = takes_mask p (replace x p.set m) in
      ap (λ b. maps.get (if b then with_mask c p lost (worked x p m) else m) k) (names_some p k s last)
      ∙ get-with_mask c p lost (worked x p m) k (perms_of x s.perm) (get-modified x p.modify _ k s last) stays

  default_given : (k : Key) (s : Spec) → last_for k (part c Default).modify ≡ Some s → (is_mask k && is_recalculated c (part c Default)) ≡ false → (m : KeyMap)
      → maps.get (default_after c (gives_execute n) acl m) k ≡ Some (perms_of (gives_execute n) s.perm)
  unfolding default_after worked
  default_given k s last stays m =
      let p = part c Default in
      let x = gives_execute n in
      let lost = takes_mask p (replace x p.set m) in
      let filled = if puts p then fill_from acl (worked x p m) else worked x p m in
      let there : maps.get (worked x p m) k ≡ Some (perms_of x s.perm) = get-modified x p.modify _ k s last in
      let kept : maps.get filled k ≡ Some (perms_of x s.perm) =
      ap (λ b. maps.get (if b then fill_from acl (worked x p m) else worked x p m) k) (puts_some p k s last) ∙ get-fill_from acl (worked x p m) k (perms_of x s.perm) there in
      ap (λ b. maps.get (if b then with_mask c p lost filled else m) k) (names_some p k s last)
      ∙ get-with_mask c p lost filled k (perms_of x s.perm) kept stays

  given_default : (kind : Kind) → changed_default kind n c acl ≡ Ok dacl → kind ≡ Directory → (k : Key) (v : Perms) → ((m : KeyMap) → maps.get (default_after c (gives_execute n) acl m) k ≡ Some v)
      → option_and_then (λ d. maps.get d k) dacl ≡ Some v
  given_default Plain h directory k v given = cc
  given_default Directory h directory k v given = by_list dacl refl
    where
      by_list : (o : Option KeyMap) → dacl ≡ o → option_and_then (λ d. maps.get d k) dacl ≡ Some v
      by_list None e = absurd (not_none (default_after c (gives_execute n) acl (default_before c n.dacl)) k v (h ∙ ap Ok e) (given _))
      by_list (Some d) e = ap (option_and_then (λ d. maps.get d k)) e ∙ ap (λ z. maps.get z k) (checked_default_is _ d (h ∙ ap Ok e)) ∙ given _

  pub gives_modified : GivesModified n c (with_lists n acl dacl)
  gives_modified = record {
    access = λ k s last stays. ap (λ z. maps.get z k) access_is ∙ access_given k s last stays (access_before c n.label.acl);
    dacl = λ directory k s last stays. given_default n.kind made_default directory k (perms_of (gives_execute n) s.perm) (default_given k s last stays);
  }

  -- ---- key by key

  by_key : (k : Key) → is_given (part c Access).set ≡ false → is_mask k ≡ false → (m : KeyMap)
      → maps.get (access_after c (gives_execute n) m) k ≡ or_else (given (gives_execute n) k (part c Access).modify) (if has_entry k (part c Access).remove then None else maps.get m k)
  unfolding access_after worked
  by_key k kept other m = by_names (names (part c Access)) refl
    where
      by_names : (b : Bool) → names (part c Access) ≡ b
          → maps.get (if b then with_mask c (part c Access) (takes_mask (part c Access) (replace (gives_execute n) (part c Access).set m)) (worked (gives_execute n) (part c Access) m) else m) k
          ≡ or_else (given (gives_execute n) k (part c Access).modify) (if has_entry k (part c Access).remove then None else maps.get m k)
      by_names true named = get-masked c (part c Access) _ (worked (gives_execute n) (part c Access) m) k other ∙ get-steps (gives_execute n) (part c Access) m k kept
      by_names false unnamed = unnamed_key (gives_execute n) (part c Access) m k unnamed

  pub goes_by_key : GoesByKey n c (with_lists n acl dacl)
  goes_by_key = record {
    access = λ keeps kept k other.
        ap (λ z. maps.get z k) access_is ∙ by_key k kept other (access_before c n.label.acl)
        ∙ ap (λ b. or_else (given (gives_execute n) k (part c Access).modify) (if has_entry k (part c Access).remove then None else maps.get (if b then strip n.label.acl else n.label.acl) k)) keeps;
  }

  -- ---- each key of any list that the line leaves

  default_is : (kind : Kind) → changed_default kind n c acl ≡ Ok dacl → kind ≡ Directory → (k : Key)
      → option_and_then (λ d. maps.get d k) dacl ≡ maps.get (default_after c (gives_execute n) acl (default_before c n.dacl)) k
  default_is Plain h directory k = cc
  default_is Directory h directory k = by_list dacl refl
    where
      at_none : (o : Option Perms) → maps.get (default_after c (gives_execute n) acl (default_before c n.dacl)) k ≡ o → dacl ≡ None → None ≡ o
      at_none None e none = refl
      at_none (Some v) e none = absurd (not_none _ k v (h ∙ ap Ok none) e)

      by_list : (o : Option KeyMap) → dacl ≡ o → option_and_then (λ d. maps.get d k) dacl ≡ maps.get (default_after c (gives_execute n) acl (default_before c n.dacl)) k
      by_list None e = ap (option_and_then (λ d. maps.get d k)) e ∙ at_none _ refl e
      by_list (Some d) e = ap (option_and_then (λ d. maps.get d k)) e ∙ ap (λ z. maps.get z k) (checked_default_is _ d (h ∙ ap Ok e))

  default_all : n.kind ≡ Directory → (k : Key) → is_mask k ≡ false → option_and_then (λ d. maps.get d k) dacl
      ≡ (if puts (part c Default) && is_base k then or_else (left_at (gives_execute n) (part c Default) k (had_default n c k)) (maps.get acl k)
      else left_at (gives_execute n) (part c Default) k (had_default n c k))
  default_all directory k other =
      default_is n.kind made_default directory k ∙ default_key n c acl k other (default_before c n.dacl)
      ∙ ap (λ had. if puts (part c Default) && is_base k then or_else (left_at (gives_execute n) (part c Default) k had) (maps.get acl k)
      else left_at (gives_execute n) (part c Default) k had) (had_default_is n c k)

  pub leaves_by_key : LeavesByKey n c (with_lists n acl dacl)
  leaves_by_key = record {
    access = λ k other. ap (λ z. maps.get z k) access_is ∙ access_key n c k other (access_before c n.label.acl) ∙ ap (left_at (gives_execute n) (part c Access) k) (had_access_is n c k);
    dacl = λ directory k other own.
        default_all directory k other
        ∙ ap (λ b. if b then or_else (left_at (gives_execute n) (part c Default) k (had_default n c k)) (maps.get acl k) else left_at (gives_execute n) (part c Default) k (had_default n c k)) own;
  }

  pub copies_base : CopiesBase n c (with_lists n acl dacl)
  copies_base = record {
    dacl = λ directory put k base.
        default_all directory k (not_mask k base)
        ∙ (λ i. if put i && base i then or_else (left_at (gives_execute n) (part c Default) k (had_default n c k)) (maps.get acl k)
        else left_at (gives_execute n) (part c Default) k (had_default n c k));
  }

  -- ---- the mask of a list that the line names

  mask_default : (k : Kind) → changed_default k n c acl ≡ Ok dacl → k ≡ Directory → names (part c Default) ≡ true
      → ForSome dacl (λ d. maps.get d Mask ≡ mask_after (gives_execute n) c (part c Default) (had_default n c Mask) d)
  mask_default Plain h directory named d e = cc
  mask_default Directory h directory named d e =
      subst (λ had. maps.get d Mask ≡ mask_after (gives_execute n) c (part c Default) had d) (had_default_is n c Mask)
      (subst (λ z. maps.get z Mask ≡ mask_after (gives_execute n) c (part c Default) (maps.get (default_before c n.dacl) Mask) z)
      (sym (checked_default_is _ d (h ∙ ap Ok e))) (default_mask n c acl named (default_before c n.dacl)))

  pub makes_mask : MakesMask n c (with_lists n acl dacl)
  makes_mask = record {
    access = λ named.
        subst (λ had. maps.get acl Mask ≡ mask_after (gives_execute n) c (part c Access) had acl) (had_access_is n c Mask)
        (subst (λ z. maps.get z Mask ≡ mask_after (gives_execute n) c (part c Access) (maps.get (access_before c n.label.acl) Mask) z) (sym access_is)
        (access_mask n c named (access_before c n.label.acl)));
    dacl = λ directory named. mask_default n.kind made_default directory named;
  }

  -- ---- what a mask that is recalculated grants

  after_again : (p : Part) (had : Option Perms) (m : KeyMap) → is_recalculated c p ≡ true → maps.get m Mask ≡ mask_after (gives_execute n) c p had m → MasksNoMore m
  after_again p had m again h =
      masks_no_more m (mask_made (gives_execute n) p had m)
      (h ∙ ap (λ b. if b then option_map (λ _. class_union m) (mask_made (gives_execute n) p had m) else mask_made (gives_execute n) p had m) again)

  pub bounds_recalculated : BoundsRecalculated n c (with_lists n acl dacl)
  bounds_recalculated = record {
    access = λ named again. after_again (part c Access) (had_access n c Mask) acl again (makes_mask.access named);
    dacl = λ directory named again d e. after_again (part c Default) (had_default n c Mask) d again (makes_mask.dacl directory named d e);
  }

  -- ---- default lists that are dropped

  dropped : (k : Kind) → changed_default k n c acl ≡ Ok dacl → (c.strip || c.drop_default) ≡ true → names (part c Default) ≡ false → dacl ≡ None
  dropped Plain h drops unnamed =
      let none : ◌≡◌ {A = Result (Option KeyMap) EditFault} (Ok None) (Ok dacl) = subst (λ b. ◌≡◌ {A = Result (Option KeyMap) EditFault} (Ok (if b then None else n.dacl)) (Ok dacl)) drops h in cc
  dropped Directory h drops unnamed =
      let gone : default_after c (gives_execute n) acl (default_before c n.dacl) ≡ maps.empty =
      default_unnamed c (gives_execute n) acl (default_before c n.dacl) unnamed ∙ ap (λ b. if b then maps.empty else unwrap_or n.dacl maps.empty) drops in
      let is = ap checked_default gone ∙ checked_empty in cc

  pub drops_default : DropsDefault n c (with_lists n acl dacl)
  drops_default = record { dacl = λ drops unnamed. dropped n.kind made_default drops unnamed }

  -- ---- default lists of plain files

  pub stays_sound : IsSound n → IsSound (with_lists n acl dacl)
  stays_sound sound plain = by_drop (c.strip || c.drop_default) (subst (λ k. changed_default k n c acl ≡ Ok dacl) plain made_default)
    where
      by_drop : (b : Bool) → ◌≡◌ {A = Result (Option KeyMap) EditFault} (Ok (if b then None else n.dacl)) (Ok dacl) → dacl ≡ None
      by_drop true h = cc
      by_drop false h = let none = sound plain in cc
