use Rattle.std.proofs.Common.{ap, arith, length, subst}
use Rattle.std.proofs.lemmas.List.{length-map}
use Rattle.jim_step.proofs.Steadies.{kept_holds}
use Rattle.jim_step.specs.Frames.{frame_of}
use Rattle.jim_step.specs.Standing.{Standing}
use Rattle.step_rules.specs.Shapes.{FitsSlot}
use Rattle.jim_step.proofs.machine.Machine.value_at.Goals as goal

pub returns-clause-known : goal.returns-clause-known
returns-clause-known c =
    let counted = ap (λ (s : Standing). length s.state.frames) c.self.view_is in
    let holds = kept_holds c.self.inside.linked.now c.self.inside.kept c.args.frame c.index-one.result.now c.self.invariant.shape
    (omega (arith, counted, length-map c.self.inside.kept.frames.items frame_of, c.requires)) c.index-one.ensures c.args.slot in
    subst (λ (s : Standing). FitsSlot (length s.state.heap) c.slot.result) c.self.view_is (rw c.slot.ensures holds)
