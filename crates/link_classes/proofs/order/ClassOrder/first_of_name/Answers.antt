use Rattle.lists.proofs.Places.{slice_get-below}
use Rattle.link_rules.specs.Classes.{class_name}
use Rattle.link_classes.specs.Seen.{seen_class}
use Rattle.link_classes.proofs.Within.{name_number}
use Rattle.link_classes.proofs.order.ClassOrder.first_of_name.Goals as goal

pub number_or_end-requires-clause-name : goal.number_or_end-requires-clause-name
number_or_end-requires-clause-name c =
    slice_get-below c.args.self.now.all.now.texts c.name_id.result.0 _ (name_number c.args.self.now.all.now.texts c.args.class.now c.name_id.result c.requires.class c.name_id.ensures)

pub returns : goal.returns
returns c = c.number_or_end.ensures (class_name (seen_class c.args.class.now)) (name_number c.args.self.now.all.now.texts c.args.class.now c.name_id.result c.requires.class c.name_id.ensures)
