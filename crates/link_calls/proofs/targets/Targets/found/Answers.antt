use Rattle.jim_ast.specs.declared.syntax.Mode.TheVariants.{Special, Static}
use Rattle.link_calls.proofs.Below.{rows_below}
use Rattle.link_calls.proofs.Selecting.{of_objects_ok}
use Rattle.link_calls.proofs.targets.Targets.found.Goals as goal

pub returns-in-Static-clause-within : goal.returns-in-Static-clause-within
returns-in-Static-clause-within c = rows_below c.args.self.now.world Static c.args.class c.args.key c.by_path.result (rw (← c.self.view_is) c.tell_rows.ensures) (rw (← c.self.view_is) c.by_path.ensures)

pub returns-in-Special-clause-within : goal.returns-in-Special-clause-within
returns-in-Special-clause-within c = rows_below c.args.self.now.world Special c.args.class c.args.key c.of_class.result (rw (← c.self.view_is) c.tell_rows.ensures) (c.of_class.ensures.found)

pub returns-in-Virtual-clause-found : goal.returns-in-Virtual-clause-found
returns-in-Virtual-clause-found c = of_objects_ok c.args.self.now.world c.args.mode c.args.class c.args.key c.of_objects.result c.in-Virtual.is c.of_objects.ensures.found

pub returns-in-Virtual-clause-within : goal.returns-in-Virtual-clause-within
returns-in-Virtual-clause-within c =
    rows_below c.args.self.now.world c.args.mode c.args.class c.args.key c.of_objects.result (rw (← c.self.view_is) c.tell_rows.ensures)
    (of_objects_ok c.args.self.now.world c.args.mode c.args.class c.args.key c.of_objects.result c.in-Virtual.is c.of_objects.ensures.found)
