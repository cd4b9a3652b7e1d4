use Rattle.link_rules.specs.Names.{text_of}
use Rattle.link_classes.specs.Seen.{seen_method}
use Rattle.link_faults.proofs.Named.{undeclared_by}
use Rattle.link_faults.proofs.mentioned.is_undeclared.Goals as goal

pub returns : goal.returns
returns c = undeclared_by c.args.classes.now.world.classes (text_of (seen_method c.args.method.now).names c.args.class) c.class_number.result c.is_none.result c.class_number.ensures c.is_none.ensures
