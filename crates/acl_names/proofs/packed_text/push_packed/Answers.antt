use Rattle.std.proofs.Common.{◌≡◌, ◌++◌, arith, List, ℕ, map, length, take, drop, ap, ◌∙◌}
use Rattle.std.proofs.Math.Seq.{take-append_seam, drop-append_seam}
use Rattle.acl_names.specs.Packed.{with_slash}
use Rattle.acl_names.proofs.Slashes.{plain_text}
use Rattle.acl_names.proofs.packed_text.push_packed.Goals as goal

pub returns : goal.returns
returns c =
    let text = c.args.text.now.items in
    let front = c.in-Some.front.now in
    let all = c.extend_from_slice.new.self.items in
    let before : c.len-before.result ≡ length text = omega (arith, c.len-before.ensures) in
    c.put_slashes_from.ensures
    ∙ ap (λ (n : ℕ). take n all ++ map with_slash (drop n all)) before
    ∙ ap (λ (l : List ℕ). take (length text) l ++ map with_slash (drop (length text) l)) c.in_ok-extend_from_slice.ensures.items
    ∙ ap (λ (l : List ℕ). l ++ map with_slash (drop (length text) (text ++ front))) (take-append_seam text front)
    ∙ ap (λ (l : List ℕ). text ++ map with_slash l) (drop-append_seam text front)
    ∙ ap (λ (l : List ℕ). text ++ l) (plain_text c.args.bytes.now front c.in-Some.field-0-0.now c.requires.packed c.requires.plain c.in-Some.ensures.cases.0)
