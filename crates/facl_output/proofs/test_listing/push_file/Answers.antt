use Rattle.std.proofs.Common.{subst}
use Rattle.acl_edit.specs.declared.node.Node.{Node}
use Rattle.acl_names.specs.Appends.{Appends}
use Rattle.facl_output.specs.Listings.{path_shown}
use Rattle.facl_output.specs.AfterPaths.{after_tested_path}
use Rattle.acl_text.proofs.Appending.{appends_both}
use Rattle.facl_output.proofs.test_listing.push_file.Goals as goal

pub returns : goal.returns
returns g c =
    let rest = after_tested_path (g.N.Names.naming c.args.names.now) in
    record {
      text = appends_both c.push.result c.args.text.now c.push_path_shown.new.text c.push.new.text (path_shown c.args.file.now) (rest c.args.file.now.node)
          c.in_ok-push_path_shown.ensures
          (subst (λ (n : Node). Appends c.push.result c.push_path_shown.new.text c.push.new.text (rest n)) c.node.ensures c.push.ensures.text);
      kept = c.push.ensures.kept;
    }
