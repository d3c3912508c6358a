use Rattle.std.proofs.Common.{◌++◌, ◌∷◌, [], ap, ◌∙◌}
use Rattle.facl_answers.specs.Answers.{hex_digits}
use Rattle.facl_output.proofs.Parts.{two_parts, three_parts}
use Rattle.facl_answers.proofs.index.push_line.Goals as goal

pub returns : goal.returns
returns c =
    let start = c.args.text.now.items in
    let name = c.args.name.now in
    let path = c.args.path.now in
    let digits = hex_digits c.args.granted in
    let first = c.push_hex.new.text.items in
    let spaced = c.push.new.self.items in
    let named = c.extend_from_slice.new.self.items in
    let new = c.push-3.new.self.items in
    let of_path = three_parts named (32 ∷ []) path
    (10 ∷ []) c.push-2.new.self.items c.extend_from_slice-2.new.self.items new c.in_ok-push-2.ensures.items c.in_ok-extend_from_slice-2.ensures.items c.in_ok-push-3.ensures.items in
    let of_name = two_parts spaced name (32 ∷ (path ++ 10 ∷ [])) named new c.in_ok-extend_from_slice.ensures.items of_path in
    two_parts start digits (32 ∷ (name ++ 32 ∷ (path ++ 10 ∷ []))) first new (c.in_ok-push_hex.ensures ∙ ap (λ byte. start ++ hex_digits byte) c.bits.ensures)
    (two_parts first (32 ∷ []) (name ++ 32 ∷ (path ++ 10 ∷ [])) spaced new c.in_ok-push.ensures.items of_name)
