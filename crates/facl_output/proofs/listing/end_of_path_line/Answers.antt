use Rattle.std.proofs.Common.{◌≡◌, length, take, ap, ◌∙◌, arith}
use Rattle.std.proofs.Math.Seq.{take-append_seam}
use Rattle.facl_output.specs.AfterPaths.{path_line}
use Rattle.facl_output.proofs.listing.end_of_path_line.Goals as goal

pub returns : goal.returns
returns c =
    let old = c.args.text.now.items in
    let line = path_line c.args.options.now c.args.file.now in
    let added = c.in_ok-push_path_line.ensures in
    let starts : c.len-before.result ≡ length old = omega arith in (
      omega (arith, ap length added),
      c.truncate.ensures.items ∙ ((λ i. take (starts i) (added i)) ∙ take-append_seam old line),
    )
