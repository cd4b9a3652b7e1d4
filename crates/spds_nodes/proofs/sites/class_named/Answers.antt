use Rattle.spds_nodes.proofs.Named.{is_named}
use Rattle.spds_nodes.proofs.Statements.{IsSome-from}
use Rattle.spds_nodes.proofs.sites.class_named.Goals as goal

pub returns-clause-some : goal.returns-clause-some
returns-clause-some c = IsSome-from c.class_number.result _ (is_named c.args.linked.now c.args.name.now c.tell_form.ensures c.requires) c.class_number.ensures.none
