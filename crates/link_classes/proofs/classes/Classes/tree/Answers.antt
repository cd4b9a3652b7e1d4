use Rattle.link_classes.specs.Held.{world_of}
use Rattle.link_classes.proofs.HeldFacts.{step_to}
use Rattle.link_classes.proofs.classes.Classes.tree.Goals as goal

pub returns-clause-known : goal.returns-clause-known
returns-clause-known c =
    rw (← c.self.view_is) (step_to (world_of c.self.inside.order c.self.inside.tree c.self.inside.entry.now) c.self.invariant.sound c.self.invariant.rows)
