-- The rules of a command that grows by one argument at a time.
use Rattle.std.proofs.Common.{◌≡◌, ◌∙◌, ◌+◌, ◌<◌, ◌≤◌, ℕ, List, [], ◌∷◌, ◌++◌, length, get_or, take, map, sym, ap, append_assoc}
use Rattle.std.proofs.lemmas.List.{append-nil, map-append, take_all, take_more}
use Rattle.clap.specs.Walk.{Rule}
use Rattle.clap.specs.Simple.{App, with_rule}
use Rattle.facl_script.specs.Commands.{with_rules}

with_rule_last : (a : App) (rs : List Rule) (r : Rule) → with_rule (with_rules a rs) r ≡ with_rules a (rs ++ r ∷ [])
with_rule_last a rs r = ap (λ (l : List Rule). record a { top = record a.top { rules = l } }) (append_assoc a.top.rules rs (r ∷ []))

-- one more argument
pub rules_more : {X Y : Type 0} (f : Y → Rule) (g : X → Y) (a old new : App) (rs : List Rule) (xs : List X) (i : ℕ) (d : X) (r : Rule)
    → i < length xs → old ≡ with_rules a (rs ++ map f (map g (take i xs))) → r ≡ f (g (get_or xs i d)) → new ≡ with_rule old r
    → new ≡ with_rules a (rs ++ map f (map g (take (i + 1) xs)))
rules_more f g a old new rs xs i d r lt was rule is =
    let x = get_or xs i d in
    let so_far = map f (map g (take i xs)) in
    let more : take (i + 1) xs ≡ take i xs ++ x ∷ [] = take_more xs i d lt in
    let mapped : map f (map g (take (i + 1) xs)) ≡ so_far ++ f (g x) ∷ [] =
    ap (λ l. map f (map g l)) more ∙ (ap (map f) (map-append g (take i xs) (x ∷ [])) ∙ map-append f (map g (take i xs)) (g x ∷ [])) in
    let last : (rs ++ so_far) ++ r ∷ [] ≡ rs ++ map f (map g (take (i + 1) xs)) =
    append_assoc rs so_far (r ∷ []) ∙ ap (λ l. rs ++ l) (ap (λ q. so_far ++ q ∷ []) rule ∙ sym mapped) in
    is ∙ (ap (λ o. with_rule o r) was ∙ (with_rule_last a (rs ++ so_far) r ∙ ap (with_rules a) last))

-- the arguments of one kind are all present, and none of the next kind
pub rules_next : {X Y : Type 0} (f : Y → Rule) (g : X → Y) (a old : App) (rs : List Rule) (xs : List X) (n : ℕ) → length xs ≤ n
    → old ≡ with_rules a (rs ++ map f (map g (take n xs))) → old ≡ with_rules a ((rs ++ map f (map g xs)) ++ [])
rules_next f g a old rs xs n past was =
    was ∙ (ap (λ l. with_rules a (rs ++ map f (map g l))) (take_all n xs past) ∙ ap (with_rules a) (sym (append-nil (rs ++ map f (map g xs)))))
