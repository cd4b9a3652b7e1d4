use Rattle.class_rules.specs.Lookups.{on_path}
use Rattle.class_tree.proofs.Lowest.{selected_none, selected_one}
use Rattle.class_tree.proofs.tree.Tree.resolve.Goals as goal

pub returns-in-Some : goal.returns-in-Some
returns-in-Some c = on_path c.in-Some.ensures

pub returns-in-One : goal.returns-in-One
returns-in-One c = selected_one _ _ _ _ c.in_default.ensures c.in-One.ensures

pub returns-in-Nothing : goal.returns-in-Nothing
returns-in-Nothing c = selected_none _ _ _ c.defaults.result c.in_default.ensures c.defaults.ensures c.in-Nothing.is
