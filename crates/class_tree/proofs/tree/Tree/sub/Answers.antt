use Rattle.std.proofs.Common.{arith}
use Rattle.class_rules.specs.Rows.{Step}
use Rattle.class_tree.proofs.TreeFacts.{tells_path, place_read}
use Rattle.class_tree.proofs.tree.Tree.sub.Goals as goal

pub holds-requires : goal.holds-requires
holds-requires c = rw c.get.ensures (c.self.invariant.reached.apart c.args.b)

pub returns : goal.returns
returns c =
    let ix = rw c.self.view_is at c.self.invariant in
    tells_path (Step c.args.self.now.classes c.args.self.now.implements) _ _ c.self.inside.reach c.holds.result c.args.a c.args.b _ ix.reached c.requires.a c.requires.b
    (place_read _ c.args.a _ (omega (arith, ix.placed.len, c.requires.a)) c.index.ensures) (rw c.get.ensures at c.holds.ensures)
