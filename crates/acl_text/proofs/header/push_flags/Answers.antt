use Rattle.std.proofs.Common.{◌≡◌, ℕ, List, [], ◌∷◌, ◌++◌, sym, ap, ◌∙◌, append_assoc}
use Rattle.std.specs.Prelude.{codes}
use Rattle.acl_text.specs.DumpWriting.{flags_text}
use Rattle.acl_text.proofs.header.push_flags.Goals as goal

pub returns : goal.returns
returns c =
    let old = c.args.text.now.items in
    let line = codes "# flags: " in
    let written : List ℕ = c.marks.result in
    let all : c.push.new.self.items ≡ ((old ++ line) ++ written) ++ 10 ∷ [] =
    c.in_ok-push.ensures.items ∙ ap (λ (t : List ℕ). t ++ 10 ∷ []) (c.in_ok-extend_from_slice-2.ensures.items ∙ ap (λ (t : List ℕ). t ++ written) c.in_ok-extend_from_slice.ensures.items) in
    all
    ∙ (append_assoc (old ++ line) written (10 ∷ []) ∙ (append_assoc old line (written ++ 10 ∷ [])
    ∙ (ap (λ (m : List ℕ). old ++ (line ++ (m ++ 10 ∷ []))) c.marks.ensures ∙ ap (λ f. old ++ flags_text f) (sym c.in-Some.is))))
