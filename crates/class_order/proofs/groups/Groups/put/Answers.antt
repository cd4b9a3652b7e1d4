use Rattle.std.proofs.lemmas.List.{map-set}
use Rattle.class_order.proofs.groups.Groups.put.Goals as goal

pub returns : goal.returns
returns g c = rw (← c.self.view_is) (map-set _ c.self.inside.lists.items c.args.at c.args.list)
