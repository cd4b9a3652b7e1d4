use Rattle.std.proofs.Common.{◌-◌, arith}
use Rattle.jim_step.proofs.Tops.{top_fact}
use Rattle.jim_step.specs.Ready.{IsReadyAt}
use Rattle.jim_step.proofs.entering.enter.Goals as goal

pub called-requires : goal.called-requires
called-requires c = top_fact (IsReadyAt c.args.linked.now) c.args.kept.now.frames.items (c.len-2.result - 1) c.index-top.result.now c.requires.ready
    (omega arith) c.index-top.ensures
