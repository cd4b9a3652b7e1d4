use Rattle.std.proofs.Common.{arith, length-drop, ◌∙◌}
use Rattle.std.proofs.lemmas.List.{take_rest}
use Rattle.boom_io.proofs.Moves.{Appends-more}
use Rattle.boom_io.proofs.whole.write_all.Goals as goal

pub loop-done-preserved : goal.loop-done-preserved
loop-done-preserved g c =
    let rest = take_rest c.args.bytes.now c.loop-done.done in
    let bound = rw rest at c.in-Ok.ensures.bound in
    record {
      within = omega (arith, bound, length-drop c.loop-done.done c.args.bytes.now);
      appended = Appends-more _ _ _ _ _ _ c.loop-done.invariant.appended (rw rest at c.in-Ok.ensures.bytes);
      no_fault = c.in-Ok.ensures.cause.kept ∙ c.loop-done.invariant.no_fault;
    }
