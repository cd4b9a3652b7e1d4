use Rattle.std.proofs.Common.{arith}
use Rattle.class_rules.proofs.Parents.{parent_from}
use Rattle.class_tree.proofs.weights.is_heaviest.Goals as goal

pub index-requires : goal.index-requires
index-requires c =
    let known = c.requires.known _ c.in-Some.parent (parent_from _ _ _ _ c.requires.class c.in-Some.is) in
    omega (arith, known, c.requires.most, c.args.weights.now.most.ok.0)
