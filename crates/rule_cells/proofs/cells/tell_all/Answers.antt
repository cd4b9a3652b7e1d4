use Rattle.rule_cells.proofs.Telling.{told_all, told_more, told_none}
use Rattle.rule_cells.proofs.cells.tell_all.Goals as goal

pub loop-i-init : goal.loop-i-init
loop-i-init g c = told_none g.W.Weight.domain c.args.rules.now

pub loop-i-preserved : goal.loop-i-preserved
loop-i-preserved g c =
    told_more g.W.Weight.domain c.args.rules.now c.loop-i.i c.index-rules-i.result c.loop-i-test.true c.index-rules-i.is c.tell.ensures c.loop-i.invariant

pub returns : goal.returns
returns g c = told_all g.W.Weight.domain c.args.rules.now c.loop-i.i c.loop-i-test.false c.loop-i.invariant
