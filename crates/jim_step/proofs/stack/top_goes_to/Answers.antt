use Rattle.std.proofs.Common.{◌-◌, arith}
use Rattle.jim_step.proofs.Tops.{changes_top}
use Rattle.step_rules.specs.States.{Frame}
use Rattle.jim_step.proofs.stack.top_goes_to.Goals as goal

pub returns : goal.returns
returns c = changes_top (λ (f : Frame). record f { index = c.args.index }) c.args.frames.now.items (c.len-last.result - 1) c.index_mut-top.result.now c.go_to.new.self
    (omega arith) c.index_mut-top.ensures.value c.go_to.ensures
