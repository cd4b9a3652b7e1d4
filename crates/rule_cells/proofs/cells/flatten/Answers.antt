use Rattle.std.proofs.Common.{◌+◌, ◌<◌, List, length, arith, sym, subst}
use Rattle.rule_cells.specs.declared.cells.Cell.{Cell}
use Rattle.rule_cells.specs.Forests.{AreFlat, IsForest}
use Rattle.rule_cells.proofs.Rooting.{flat_more, forest_shorter}
use Rattle.rule_cells.proofs.cells.flatten.Goals as goal

pub loop-node-init : goal.loop-node-init
loop-node-init g c = λ rules kept root told f. (f, (λ n below. absurd (omega (arith, below))))

pub loop-node-preserved : goal.loop-node-preserved
loop-node-preserved g c = λ rules kept root told f.
    let d = g.W.Weight.domain in
    let cells = c.loop-node.cells in
    let node = c.loop-node.node in
    let was = c.loop-node.invariant rules kept root told f in
    let below : node < length cells = omega arith in
    subst (λ (cs : List (Cell g.row.W.Denot)). IsForest d rules kept root cs × AreFlat d (node + 1) cs) (sym c.shorten.ensures.new)
    (forest_shorter g.met.W.Weight.laws rules kept told cells was.0 node below, flat_more g.met.W.Weight.laws rules kept told cells was.0 node below was.1)

pub returns : goal.returns
returns g c = λ rules kept root told f.
    let was = c.loop-node.invariant rules kept root told f in (was.0, (λ n below. was.1 n (omega (arith, below))))
