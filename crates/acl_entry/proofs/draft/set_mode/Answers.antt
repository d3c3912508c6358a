use Rattle.std.proofs.Common.{arith, ap, ◌∙◌}
use Rattle.std.specs.FinMap as maps
use Rattle.std.proofs.lemmas.Grind.{common_steps}
use Rattle.acl_entry.specs.declared.entry.Key.TheVariants.{Owner, Other}
use Rattle.acl_entry.specs.Lists.{keys, is_among, fault_of_keys, map_of, group_digit_key}
use Rattle.acl_entry.proofs.Ids.{HasIds-keys}
use Rattle.acl_entry.proofs.Maps.{in_order-put, map_of-put}
use Rattle.acl_entry.proofs.Faults.{group_has_entry}
use Rattle.acl_entry.proofs.draft.set_mode.Goals as goal

pub set_perm-requires-2-clause-in_order : goal.set_perm-requires-2-clause-in_order
set_perm-requires-2-clause-in_order c = in_order-put c.args.entries.now _ c.requires.list.in_order Owner c.args.owner c.set_perm.ensures.put

pub set_perm-requires-2-clause-has_entry : goal.set_perm-requires-2-clause-has_entry
set_perm-requires-2-clause-has_entry c =
    ap (is_among c.args.group.now) c.set_perm.ensures.keys
    ∙ ap (λ k. is_among k (keys c.args.entries.now)) c.requires.group
    ∙ group_has_entry c.args.entries.now c.requires.list.no_fault (grind (arith, common_steps))

pub set_perm-requires-3-clause-in_order : goal.set_perm-requires-3-clause-in_order
set_perm-requires-3-clause-in_order c =
    in_order-put c.set_perm.new.entries _
    (in_order-put c.args.entries.now _ c.requires.list.in_order Owner c.args.owner c.set_perm.ensures.put) c.args.group.now c.args.group_perm c.set_perm-2.ensures.put

pub returns : goal.returns
returns c =
    let first = in_order-put c.args.entries.now c.set_perm.new.entries c.requires.list.in_order Owner c.args.owner c.set_perm.ensures.put in
    let second = in_order-put c.set_perm.new.entries c.set_perm-2.new.entries first c.args.group.now c.args.group_perm c.set_perm-2.ensures.put in
    record {
      list = record {
        in_order = in_order-put c.set_perm-2.new.entries _ second Other c.args.other c.set_perm-3.ensures.put;
        ids = HasIds-keys c.args.entries.now _ (c.set_perm-3.ensures.keys ∙ c.set_perm-2.ensures.keys ∙ c.set_perm.ensures.keys) c.requires.list.ids;
        no_fault = ap fault_of_keys (c.set_perm-3.ensures.keys ∙ c.set_perm-2.ensures.keys ∙ c.set_perm.ensures.keys) ∙ c.requires.list.no_fault;
      };
      map =
          map_of-put c.set_perm-2.new.entries _ Other c.args.other c.set_perm-3.ensures.put
          ∙ ap (λ m. maps.insert m Other c.args.other) (
          map_of-put c.set_perm.new.entries _ c.args.group.now c.args.group_perm c.set_perm-2.ensures.put
          ∙ ap (λ k. maps.insert (map_of c.set_perm.new.entries) k c.args.group_perm) c.requires.group
          ∙ ap (λ m. maps.insert m (group_digit_key (map_of c.args.entries.now)) c.args.group_perm) (map_of-put c.args.entries.now _ Owner c.args.owner c.set_perm.ensures.put));
    }
