use Rattle.std.proofs.Common.{◌≡◌, ◌++◌, ◌∷◌, [], List, ℕ, ap, codes, ◌∙◌}
use Rattle.facl_output.proofs.Parts.{two_parts, three_parts}
use Rattle.facl_output.proofs.attr_listing.push_line.Goals as goal

pub returns : goal.returns
returns c =
    let start = c.args.text.now.items in
    let name = c.args.name.now in
    let digits = c.as_bytes.result.now in
    let named = c.extend_from_slice.new.self.items in
    let new = c.push.new.self.items in
    let line : new ≡ start ++ (name ++ (codes "=0x" ++ (digits ++ 10 ∷ []))) =
    two_parts start name (codes "=0x" ++ (digits ++ 10 ∷ [])) named new c.in_ok-extend_from_slice.ensures.items
    (three_parts named (codes "=0x") digits (10 ∷ []) c.extend_from_slice-2.new.self.items c.extend_from_slice-3.new.self.items new
    c.in_ok-extend_from_slice-2.ensures.items c.in_ok-extend_from_slice-3.ensures.items c.in_ok-push.ensures.items)
    in
    line ∙ ap (λ (some : List ℕ). start ++ (name ++ (codes "=0x" ++ (some ++ 10 ∷ [])))) (c.as_bytes.ensures.value ∙ c.in_ok-digits.ensures)
