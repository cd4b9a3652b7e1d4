use Rattle.std.proofs.Common.{◌<◌, length, arith}
use Rattle.class_rules.proofs.Parents.{parent_from}
use Rattle.class_tree.proofs.weights.weights_of.Goals as goal
use Rattle.class_tree.proofs.weights.weights_of.Goals.{In-Some}

-- the parent of the class at hand is one
parent_known : (c : In-Some) → c.in-Some.parent < length c.args.classes.now
parent_known c = c.requires.known _ c.in-Some.parent (parent_from _ _ _ _ (c.requires.within c.loop-class.class-index 0 c.loop-class-test.true) c.in-Some.is)

pub index-requires : goal.index-requires
index-requires c = omega (arith, parent_known (goal.at.index-requires c).In-Some, c.loop-class.invariant.sizes, c.loop-class.sizes.ok.0)

pub index_mut-requires : goal.index_mut-requires
index_mut-requires c = omega (arith, parent_known (goal.at.index_mut-requires c).In-Some, c.loop-class.invariant.sizes, c.loop-class.sizes.ok.0)

pub index-requires-in-Some : goal.index-requires-in-Some
index-requires-in-Some c = omega (arith, parent_known (goal.at.index-requires-in-Some c).In-Some, c.loop-class.invariant.most, c.loop-class.most.ok.0)

pub index_mut-requires-in-Some : goal.index_mut-requires-in-Some
index_mut-requires-in-Some c = omega (arith, parent_known (goal.at.index_mut-requires-in-Some c).In-Some, c.loop-class.invariant.most, c.loop-class.most.ok.0)
