use Rattle.std.proofs.Common.{refl}
use Rattle.link_reach.proofs.Finding.{finds_above_ok}
use Rattle.link_reach.proofs.search.climb.Goals as goal

pub returns : goal.returns
returns c =
    let parent = rw (c.tree-tree.ensures.rows, c.classes.ensures) at c.parent.ensures.parent in
    let all = rw (c.interfaces.ensures.interfaces, c.tree-tree.ensures.rows, c.classes.ensures) at c.add_all.ensures in
    finds_above_ok c.args.targets.now.world c.args.number c.args.found.now (record { methods = c.args.found.now.methods; classes = c.add_one.new.set })
    (record { methods = c.args.found.now.methods; classes = c.add_all.new.set }) c.parent.result c.add_all.result parent refl refl c.in_ok-add_one.ensures all
