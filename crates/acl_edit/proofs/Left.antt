-- What a line leaves at each key, whether it is a list or not.
use Rattle.std.proofs.Common.{◌≡◌, Bool, true, false, if◌then◌else◌, ◌&&◌, ◌||◌, Option, Some, None, unwrap_or, option_and_then, refl, sym, ap, subst, ◌∙◌}
use Rattle.std.specs.FinMap as maps
use Rattle.acl_entry.specs.Keys.{key_cmp, is_base}
use Rattle.acl_entry.specs.Lists.{KeyMap, effective, or_else}
use Rattle.acl_entry.specs.declared.entry.Key.{Key}
use Rattle.acl_entry.specs.declared.entry.Key.TheVariants.{Mask}
use Rattle.acl_entry.proofs.Basics.{second_false}
use Rattle.acl_text.specs.declared.fault.Which.TheVariants.{Access, Default}
use Rattle.acl_edit.specs.Parts.{part, names, puts, is_given, is_mask}
use Rattle.acl_edit.specs.Steps.{gives_execute, strip, replace, fill_from}
use Rattle.acl_edit.specs.Masks.{takes_mask, with_mask}
use Rattle.acl_edit.specs.Edits.{worked, access_after, default_after, access_before, default_before}
use Rattle.acl_edit.specs.Laws.{left_at, mask_after, had_access, had_default, IsAccessLeft, IsDefaultLeft}
use Rattle.acl_edit.specs.Changes.{Change}
use Rattle.acl_edit.specs.declared.node.Node.{Node}
use Rattle.acl_edit.proofs.Kept.{access_unnamed, default_unnamed}
use Rattle.acl_edit.proofs.Given.{get-masked, unnamed_left}
use Rattle.acl_edit.proofs.ByKey.{get-worked, get-fill_all, loses, get-mask_after}
use Rattle.acl_edit.proofs.Stripped.{get-strip_base, get-strip_other}

module _ (n : Node) (c : Change) where
  base_or_none : (b : Bool) (k : Key) → is_base k ≡ b → maps.get (strip n.label.acl) k ≡ (if b then effective n.label.acl k else None)
  base_or_none true k e = get-strip_base n.label.acl k e
  base_or_none false k e = get-strip_other n.label.acl k e

  pub had_access_is : (k : Key) → maps.get (access_before c n.label.acl) k ≡ had_access n c k
  had_access_is k = by_strip c.strip
    where
      by_strip : (b : Bool) → maps.get (if b then strip n.label.acl else n.label.acl) k ≡ (if b then (if is_base k then effective n.label.acl k else None) else maps.get n.label.acl k)
      by_strip true = base_or_none (is_base k) k refl
      by_strip false = refl

  pub had_default_is : (k : Key) → maps.get (default_before c n.dacl) k ≡ had_default n c k
  had_default_is k = by_drop (c.strip || c.drop_default) n.dacl
    where
      by_drop : (b : Bool) (o : Option KeyMap) → maps.get (if b then maps.empty else unwrap_or o maps.empty) k ≡ (if b then None else option_and_then (λ d. maps.get d k) o)
      by_drop true o = maps.get-empty key_cmp k
      by_drop false None = maps.get-empty key_cmp k
      by_drop false (Some d) = refl

  pub access_key : (k : Key) → is_mask k ≡ false → (m : KeyMap) → maps.get (access_after c (gives_execute n) m) k ≡ left_at (gives_execute n) (part c Access) k (maps.get m k)
  unfolding access_after
  access_key k other m = by_names (names (part c Access)) refl
    where
      by_names : (b : Bool) → names (part c Access) ≡ b
          → maps.get (if b then with_mask c (part c Access) (takes_mask (part c Access) (replace (gives_execute n) (part c Access).set m)) (worked (gives_execute n) (part c Access) m) else m) k
          ≡ left_at (gives_execute n) (part c Access) k (maps.get m k)
      by_names true named = get-masked c (part c Access) _ (worked (gives_execute n) (part c Access) m) k other ∙ get-worked (gives_execute n) (part c Access) m k
      by_names false unnamed = unnamed_left (gives_execute n) (part c Access) k (maps.get m k) unnamed

  pub access_mask : names (part c Access) ≡ true → (m : KeyMap) → maps.get (access_after c (gives_execute n) m) Mask
      ≡ mask_after (gives_execute n) c (part c Access) (maps.get m Mask) (access_after c (gives_execute n) m)
  unfolding access_after
  access_mask named m =
      subst (λ b. let new = if b then with_mask c (part c Access) (takes_mask (part c Access) (replace (gives_execute n) (part c Access).set m)) (worked (gives_execute n) (part c Access) m) else m in
      maps.get new Mask ≡ mask_after (gives_execute n) c (part c Access) (maps.get m Mask) new) (sym named)
      (get-mask_after (gives_execute n) c (part c Access) _ (maps.get m Mask) (worked (gives_execute n) (part c Access) m)
      (loses (gives_execute n) (part c Access) m) (get-worked (gives_execute n) (part c Access) m Mask))

  -- ---- the lists as a whole

  abbrev pub access_list : KeyMap
  access_list = access_after c (gives_execute n) (access_before c n.label.acl)

  pub access_left : IsAccessLeft n c access_list
  access_left = record {
    keys = λ k other. access_key k other (access_before c n.label.acl) ∙ ap (left_at (gives_execute n) (part c Access) k) (had_access_is k);
    mask = by_names (names (part c Access)) refl;
  }
    where
      by_names : (b : Bool) → names (part c Access) ≡ b
          → maps.get access_list Mask ≡ (if b then mask_after (gives_execute n) c (part c Access) (had_access n c Mask) access_list else had_access n c Mask)
      by_names true named =
          access_mask named (access_before c n.label.acl)
          ∙ ap (λ had. mask_after (gives_execute n) c (part c Access) had access_list) (had_access_is Mask)
      by_names false unnamed = ap (λ m. maps.get m Mask) (access_unnamed c (gives_execute n) (access_before c n.label.acl) unnamed) ∙ had_access_is Mask

  module _ (acl : KeyMap) where
    filled_key : (b : Bool) (k : Key) (m : KeyMap) → maps.get (if b then fill_from acl (worked (gives_execute n) (part c Default) m) else worked (gives_execute n) (part c Default) m) k
        ≡ (if b && is_base k then or_else (left_at (gives_execute n) (part c Default) k (maps.get m k)) (maps.get acl k) else left_at (gives_execute n) (part c Default) k (maps.get m k))
    filled_key true k m = get-fill_all acl (worked (gives_execute n) (part c Default) m) k
        ∙ ap (λ o. if is_base k then or_else o (maps.get acl k) else o) (get-worked (gives_execute n) (part c Default) m k)
    filled_key false k m = get-worked (gives_execute n) (part c Default) m k

    pub default_key : (k : Key) → is_mask k ≡ false → (m : KeyMap) → maps.get (default_after c (gives_execute n) acl m) k
        ≡ (if puts (part c Default) && is_base k then or_else (left_at (gives_execute n) (part c Default) k (maps.get m k)) (maps.get acl k)
        else left_at (gives_execute n) (part c Default) k (maps.get m k))
    unfolding default_after
    default_key k other m = by_names (names (part c Default)) refl
      where
        no_puts : names (part c Default) ≡ false → puts (part c Default) ≡ false
        no_puts h = second_false (is_given (part c Default).remove) (puts (part c Default)) h

        by_names : (b : Bool) → names (part c Default) ≡ b
            → maps.get (if b then with_mask c (part c Default) (takes_mask (part c Default) (replace (gives_execute n) (part c Default).set m))
            (if puts (part c Default) then fill_from acl (worked (gives_execute n) (part c Default) m) else worked (gives_execute n) (part c Default) m) else m) k
            ≡ (if puts (part c Default) && is_base k then or_else (left_at (gives_execute n) (part c Default) k (maps.get m k)) (maps.get acl k)
            else left_at (gives_execute n) (part c Default) k (maps.get m k))
        by_names true named = get-masked c (part c Default) _ _ k other ∙ filled_key (puts (part c Default)) k m
        by_names false unnamed =
            unnamed_left (gives_execute n) (part c Default) k (maps.get m k) unnamed
            ∙ ap (λ b. if b && is_base k then or_else (left_at (gives_execute n) (part c Default) k (maps.get m k)) (maps.get acl k)
            else left_at (gives_execute n) (part c Default) k (maps.get m k)) (sym (no_puts unnamed))

    pub default_mask : names (part c Default) ≡ true → (m : KeyMap) → maps.get (default_after c (gives_execute n) acl m) Mask
        ≡ mask_after (gives_execute n) c (part c Default) (maps.get m Mask) (default_after c (gives_execute n) acl m)
    unfolding default_after
    default_mask named m =
        let filled = if puts (part c Default) then fill_from acl (worked (gives_execute n) (part c Default) m) else worked (gives_execute n) (part c Default) m in
        subst (λ b. let new = if b then with_mask c (part c Default) (takes_mask (part c Default) (replace (gives_execute n) (part c Default).set m)) filled else m in
        maps.get new Mask ≡ mask_after (gives_execute n) c (part c Default) (maps.get m Mask) new) (sym named)
        (get-mask_after (gives_execute n) c (part c Default) _ (maps.get m Mask) filled (loses (gives_execute n) (part c Default) m) (filled_mask (puts (part c Default)) m))
      where
        filled_mask : (b : Bool) (m : KeyMap) → maps.get
            (if b then fill_from acl (worked (gives_execute n) (part c Default) m) else worked (gives_execute n) (part c Default) m) Mask
            ≡ left_at (gives_execute n) (part c Default) Mask (maps.get m Mask)
        filled_mask true m = filled_key true Mask m
        filled_mask false m = filled_key false Mask m

    abbrev pub default_list : KeyMap
    default_list = default_after c (gives_execute n) acl (default_before c n.dacl)

    pub default_left : IsDefaultLeft n c acl default_list
    default_left = record {
      keys = λ k other.
          default_key k other (default_before c n.dacl)
          ∙ ap (λ had. if puts (part c Default) && is_base k then or_else (left_at (gives_execute n) (part c Default) k had) (maps.get acl k)
          else left_at (gives_execute n) (part c Default) k had) (had_default_is k);
      mask = by_names (names (part c Default)) refl;
    }
      where
        by_names : (b : Bool) → names (part c Default) ≡ b
            → maps.get default_list Mask ≡ (if b then mask_after (gives_execute n) c (part c Default) (had_default n c Mask) default_list else had_default n c Mask)
        by_names true named =
            default_mask named (default_before c n.dacl)
            ∙ ap (λ had. mask_after (gives_execute n) c (part c Default) had default_list) (had_default_is Mask)
        by_names false unnamed = ap (λ m. maps.get m Mask) (default_unnamed c (gives_execute n) acl (default_before c n.dacl) unnamed) ∙ had_default_is Mask
