use Rattle.std.proofs.Common.{refl}
use Rattle.class_tree.proofs.TreeFacts.{known_parent}
use Rattle.class_tree.proofs.tree.Tree.parent.Goals as goal

pub returns-clause-known : goal.returns-clause-known
returns-clause-known c =
    let ix = rw c.self.view_is at c.self.invariant in
    known_parent _ _ c.args.class _ ix.hierarchy c.self.view_is c.requires c.index.ensures c.index.result.now.parent refl
