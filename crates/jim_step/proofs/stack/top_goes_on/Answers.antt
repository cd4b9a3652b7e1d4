use Rattle.std.proofs.Common.{◌+◌, ◌-◌, ◌<◌, ◌^◌, arith}
use Rattle.jim_step.proofs.Tops.{changes_top, top_fact}
use Rattle.step_rules.specs.States.{Frame}
use Rattle.jim_step.proofs.stack.top_goes_on.Goals as goal

pub returns : goal.returns
returns c = changes_top (λ (f : Frame). record f { index = f.index + 1 }) c.args.frames.now.items (c.len-last.result - 1) c.index_mut-top.result.now c.go_on.new.self
    (omega arith) c.index_mut-top.ensures.value c.go_on.ensures

pub go_on-requires : goal.go_on-requires
go_on-requires c = top_fact (λ (f : Frame). f.index + 1 < 2 ^ 32) c.args.frames.now.items (c.len-last.result - 1) c.index_mut-top.result.now
    c.requires.next (omega arith) c.index_mut-top.ensures.value
