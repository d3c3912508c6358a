use Rattle.std.proofs.Common.{◌≡◌, ◌<◌, List, ℕ, length, false, ap, sym, subst, ◌∙◌, arith}
use Rattle.std.specs.Prelude.{option_and_then, slice_get}
use Rattle.std.specs.Option.{option_map_or}
use Rattle.std.proofs.lemmas.List.{get_or_read}
use Rattle.acl_entry.specs.Check.{has}
use Rattle.facl_answers.specs.Inner.{IsGranted}
use Rattle.facl_answers.proofs.GrantedClasses.{granted_more}
use Rattle.facl_answers.proofs.may.is_granted.Goals as goal

pub loop-request-preserved : goal.loop-request-preserved
loop-request-preserved c =
    let rows = c.args.classes.now.0 in
    let at : c.len-in-loop-request.result ≡ length c.loop-request.table.items = omega (arith, c.len-in-loop-request.ensures, c.loop-request.table.ok) in
    let cell = c.cell.ensures ∙ ap (λ n. option_and_then (λ (row : List ℕ). slice_get row c.args.user) (slice_get rows n)) at in
    granted_more c.args.request c.args.user rows c.loop-request.table.items c.push.new.self.items c.contains-granted.result (omega (arith, c.requires.there)) c.in_ok-push.ensures.items
    (c.contains-granted.ensures ∙ ap (λ o. option_map_or (λ n. has n c.args.request) o false) cell) c.loop-request.invariant

pub returns-clause-granted : goal.returns-clause-granted
returns-clause-granted c =
    let within : c.args.class < length c.loop-request.table.items = omega arith in
    subst (IsGranted c.args.request c.args.user c.args.classes.now.0 c.args.class) (sym (get_or_read c.loop-request.table.items c.args.class c.index.result.now within c.index.ensures false))
    (c.loop-request.invariant c.args.class within)
