use Rattle.std.proofs.Common.{◌-◌, None, Some, arith, false}
use Rattle.jim_step.proofs.Tops.{changes_top}
use Rattle.step_rules.specs.declared.parts.Value.TheVariants.{Object}
use Rattle.step_rules.specs.States.{Frame}
use Rattle.jim_step.proofs.stack.top_catches.Goals as goal

pub returns : goal.returns
returns c = changes_top (λ (f : Frame). record f { index = c.args.handler; raised = false; caught = Some (Object c.args.object); thrown = None }) c.args.frames.now.items (c.len-last.result - 1) c.index_mut-top.result.now c.catch_at.new.self
    (omega arith) c.index_mut-top.ensures.value c.catch_at.ensures
