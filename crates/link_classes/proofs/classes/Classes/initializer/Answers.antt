use Rattle.std.proofs.Common.{refl, sym, ap, ◌∙◌}
use Rattle.link_rules.specs.Root.{initializer_key}
use Rattle.link_classes.specs.Held.{world_of}
use Rattle.link_classes.specs.Seen.{seen_methods}
use Rattle.link_classes.proofs.classes.Classes.initializer.Goals as goal

pub returns : goal.returns
returns c =
    rw (← c.self.view_is)
    (c.declared_body.ensures (world_of c.self.inside.order c.self.inside.tree c.self.inside.entry.now) initializer_key refl
    (sym c.self.invariant.methods ∙ ap seen_methods (sym c.as_slice.ensures.value)) c.self.invariant.initializer)
