use Rattle.std.proofs.Common.{◌+◌, ◌-◌, ◌<◌, ◌^◌, Some, arith, length}
use Rattle.std.specs.List.{slice_set}
use Rattle.jim_step.proofs.Tops.{changes_top, top_fact}
use Rattle.step_rules.specs.States.{Frame}
use Rattle.jim_step.proofs.stack.top_gets.Goals as goal

pub returns : goal.returns
returns c = changes_top (λ (f : Frame). record f { index = f.index + 1; locals = slice_set f.locals c.args.to (Some c.args.value) }) c.args.frames.now.items (c.len-last.result - 1) c.index_mut-top.result.now c.get.new.self
    (omega arith) c.index_mut-top.ensures.value c.get.ensures

pub get-requires-clause-next : goal.get-requires-clause-next
get-requires-clause-next c = top_fact (λ (f : Frame). f.index + 1 < 2 ^ 32) c.args.frames.now.items (c.len-last.result - 1) c.index_mut-top.result.now
    c.requires.next (omega arith) c.index_mut-top.ensures.value

pub get-requires-clause-local : goal.get-requires-clause-local
get-requires-clause-local c = top_fact (λ (f : Frame). c.args.to < length f.locals) c.args.frames.now.items (c.len-last.result - 1) c.index_mut-top.result.now
    c.requires.local (omega arith) c.index_mut-top.ensures.value
