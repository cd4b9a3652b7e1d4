use Rattle.std.proofs.Common.{◌-◌, Some, arith, true}
use Rattle.jim_step.proofs.Tops.{changes_top}
use Rattle.step_rules.specs.declared.parts.Value.TheVariants.{Object}
use Rattle.step_rules.specs.States.{Frame}
use Rattle.jim_step.proofs.stack.top_throws.Goals as goal

pub returns : goal.returns
returns c = changes_top (λ (f : Frame). record f { raised = true; thrown = Some (Object c.args.object) }) c.args.frames.now.items (c.len-last.result - 1) c.index_mut-top.result.now c.throw.new.self
    (omega arith) c.index_mut-top.ensures.value c.throw.ensures
