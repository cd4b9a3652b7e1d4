use Rattle.std.proofs.Common.{subst}
use Rattle.class_rules.specs.Lookups.{FieldOf}
use Rattle.link_calls.proofs.Below.{found_below}
use Rattle.link_calls.proofs.fields.find_field.Goals as goal

pub returns-clause-within : goal.returns-clause-within
returns-clause-within c =
    found_below c.args.classes.now.world c.args.class c.accessed-key.result c.field.result c.tree.ensures.of_classes
    (subst (λ rows. FieldOf rows c.args.class c.accessed-key.result c.field.result) c.tree.ensures.rows c.field.ensures)
