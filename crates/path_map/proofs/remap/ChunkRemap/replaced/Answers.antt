use Rattle.std.proofs.Common.{◌≡◌, ◌++◌, map, ap, ◌∙◌}
use Rattle.std.specs.List.{zip}
use Rattle.path_map.specs.Entries.{seen, found}
use Rattle.path_map.specs.Changed.{with_values}
use Rattle.path_map.proofs.Each.{each_zip}
use Rattle.path_map.proofs.remap.ChunkRemap.replaced.Goals as goal

pub returns-clause-part : goal.returns-clause-part
returns-clause-part g c =
    let values : c.in_ok-values.values.items ≡ map (λ e. e.1) (with_values (map seen c.args.puts.now) c.args.self.now) =
    c.in_ok-values.ensures.values ∙ ap (λ es. map (λ e. e.1) (with_values (map seen c.args.puts.now) es)) c.run.ensures.all
    in
    c.in_ok-with.ensures ∙ ap (λ l. zip (map (λ e. e.0) c.args.self.now) l) values ∙ each_zip _ c.args.self.now

pub returns-clause-was : goal.returns-clause-was
returns-clause-was g c = c.in_ok-values.ensures.was ∙ ap (λ es. c.args.was.now.items ++ found (map seen c.args.puts.now) es) c.run.ensures.all
