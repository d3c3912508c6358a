-- The first of some entries.
use Rattle.std.proofs.Common.{◌≡◌, ◌<◌, ◌≤◌, List, [], ◌∷◌, ◌++◌, length, get_or, Some, Option, refl, sym, ap, ◌∙◌, arith, append_assoc, append-nil}
use Rattle.std.specs.Prelude.{option_map}
use Rattle.std.specs.List.{flat_map}
use Rattle.acl_names.specs.Paths.{PathOf}
use Rattle.path_map.specs.Entries.{first}

abbrev pub first_path : {V : Type 0} → List (PathOf × V) → Option PathOf
first_path es = option_map (λ e. e.0) (first es)

module _ {V : Type 0} where
  -- where there are entries, the first has the path that is at their first place
  pub is_first : (p : PathOf) (es rest : List (PathOf × V)) → 0 < length es → ((d : PathOf × V) → p ≡ (get_or es 0 d).0) → Some p ≡ first_path (es ++ rest)
  is_first p [] rest some is = absurd (omega arith)
  is_first p (e ∷ es) rest some is = ap (λ q. Some q) (is e)

  -- the first of parts has it
  pub is_first_part : {X : Type 0} (f : X → List (PathOf × V)) (p : PathOf) (parts : List X) (part : X) (rest : List (PathOf × V)) → 1 ≤ length parts → part ≡ get_or parts 0 part
      → 0 < length (f part) → ((d : PathOf × V) → p ≡ (get_or (f part) 0 d).0) → Some p ≡ first_path (flat_map f parts ++ rest)
  is_first_part f p [] part rest some at here is = absurd (omega arith)
  is_first_part f p (x ∷ parts) part rest some at here is =
      let same : part ≡ x = at in
      is_first p (f part) (flat_map f parts ++ rest) here is
      ∙ ap first_path (ap (λ l. l ++ (flat_map f parts ++ rest)) (ap f same) ∙ sym (append_assoc (f x) (flat_map f parts) rest))

  pub none_in_parts : {X : Type 0} (f : X → List (PathOf × V)) (parts : List X) → length parts ≡ 0 → flat_map f parts ≡ []
  none_in_parts f [] none = refl
  none_in_parts f (x ∷ parts) none = absurd (omega arith)

  none_at_all : (es : List (PathOf × V)) → length es ≡ 0 → es ≡ []
  none_at_all [] none = refl
  none_at_all (e ∷ es) none = absurd (omega arith)

  -- ---- of a cursor's lists, one after another

  pub first_of_run : (p : PathOf) (run cs bs ts all : List (PathOf × V)) → run ++ cs ++ bs ++ ts ≡ all → Some p ≡ first_path (run ++ (cs ++ (bs ++ ts))) → Some p ≡ first_path all
  first_of_run p run cs bs ts all view is = is ∙ ap first_path (sym (append_assoc (run ++ cs) bs ts ∙ append_assoc run cs (bs ++ ts)) ∙ view)

  pub first_of_chunks : (p : PathOf) (run cs bs ts all : List (PathOf × V)) → run ++ cs ++ bs ++ ts ≡ all → length run ≡ 0 → Some p ≡ first_path (cs ++ (bs ++ ts)) → Some p ≡ first_path all
  first_of_chunks p run cs bs ts all view none is = is ∙ ap first_path (sym (append_assoc cs bs ts) ∙ ap (λ l. l ++ cs ++ bs ++ ts) (sym (none_at_all run none)) ∙ view)

  pub first_of_branches : (p : PathOf) (run cs bs ts all : List (PathOf × V)) → run ++ cs ++ bs ++ ts ≡ all → length run ≡ 0 → cs ≡ [] → Some p ≡ first_path (bs ++ ts) → Some p ≡ first_path all
  first_of_branches p run cs bs ts all view none no_chunks is = first_of_chunks p run cs bs ts all view none (is ∙ ap (λ l. first_path (l ++ (bs ++ ts))) (sym no_chunks))

  pub first_of_tops : (p : PathOf) (run cs bs ts all : List (PathOf × V)) → run ++ cs ++ bs ++ ts ≡ all → length run ≡ 0 → cs ≡ [] → bs ≡ [] → Some p ≡ first_path (ts ++ []) → Some p ≡ first_path all
  first_of_tops p run cs bs ts all view none no_chunks no_branches is =
      first_of_branches p run cs bs ts all view none no_chunks (is ∙ ap first_path (append-nil ts ∙ ap (λ l. l ++ ts) (sym no_branches)))
