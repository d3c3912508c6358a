use Rattle.kinds.proofs.Chosen.{in_order_by}
use Rattle.kinds.proofs.map.KindMap.order_law.Goals as goal

pub returns : goal.returns
returns g c = let sound = c.numbers-numbers.ensures.sound in in_order_by c.args.self.now.0 c.args.self.now.1 sound.used sound.order
