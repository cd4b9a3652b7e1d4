use Rattle.class_tree.proofs.Lowest.{listed}
use Rattle.class_tree.proofs.tree.Tree.holders.Goals as goal

pub returns : goal.returns
returns c =
    let ix = rw c.self.view_is at c.self.invariant in
    listed c.args.self.now c.self.inside.members.declared.interfaces c.args.key c.of.result.now c.of.ensures ix.holders
