use Rattle.std.proofs.Common.{subst}
use Rattle.class_rules.specs.Lookups.{IsDefault, on_path}
use Rattle.class_tree.specs.Defaults.{AreDefaults}
use Rattle.class_tree.proofs.Lowest.{selected_none, selected_one}
use Rattle.default_turns.proofs.Selecting.{told_at}
use Rattle.default_turns.proofs.selections.Selections.resolve.Goals as goal

pub returns-in-Some-on_path : goal.returns-in-Some-on_path
returns-in-Some-on_path c = on_path c.in-Some-on_path.ensures

pub returns-in-One : goal.returns-in-One
returns-in-One c =
    let kept = rw (← c.get.ensures, c.in-Some.is) at (c.requires.tree.kept c.args.key) in
    let told = told_at c.args.tree.now c.args.self.now.places.items c.args.key c.args.class c.index.result.now _ _ _ kept c.requires.tree.len c.requires.class c.index.ensures c.as_slice.ensures.value c.defaults_at.ensures in
    selected_one c.args.tree.now c.args.class c.args.key c.in-One.row c.in_default-on_path.ensures (subst (AreDefaults (IsDefault c.args.tree.now c.args.class c.args.key)) c.in-One.is told)

pub returns-in-Nothing : goal.returns-in-Nothing
returns-in-Nothing c =
    let kept = rw (← c.get.ensures, c.in-Some.is) at (c.requires.tree.kept c.args.key) in
    let told = told_at c.args.tree.now c.args.self.now.places.items c.args.key c.args.class c.index.result.now _ _ _ kept c.requires.tree.len c.requires.class c.index.ensures c.as_slice.ensures.value c.defaults_at.ensures in
    selected_none c.args.tree.now c.args.class c.args.key c.defaults_at.result c.in_default-on_path.ensures told c.in-Nothing.is
