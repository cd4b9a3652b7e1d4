use Rattle.link_classes.specs.Held.{world_of}
use Rattle.link_classes.proofs.HeldFacts.{single_named}
use Rattle.link_classes.proofs.classes.Classes.number.Goals as goal

pub returns : goal.returns
returns c = rw (← c.self.view_is) (single_named (world_of c.self.inside.order c.self.inside.tree c.self.inside.entry.now) c.self.invariant.sound _ c.first.result c.first.ensures)
