use Rattle.std.proofs.Common.{arith}
use Rattle.class_rules.specs.Lookups.{Declared}
use Rattle.class_tree.proofs.TreeFacts.{tells, place_read}
use Rattle.class_tree.proofs.tree.Tree.declared.Goals as goal

pub of-requires : goal.of-requires
of-requires c = c.self.invariant.declares.served

pub returns : goal.returns
returns c =
    let ix = rw c.self.view_is at c.self.invariant in
    tells (Declared c.args.self.now) _ _ _ _ c.holds.result c.args.class c.args.key _ ix.declares c.requires (place_read _ c.args.class _ (omega (arith, ix.placed.len, c.requires)) c.index.ensures)
    (rw (c.of.ensures.united, c.of.ensures.few, c.of.ensures.table) at c.holds.ensures)
