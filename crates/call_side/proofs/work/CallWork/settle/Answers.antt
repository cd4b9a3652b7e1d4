use Rattle.std.proofs.Common.{false, true}
use Rattle.call_side.proofs.Coding.{either_way, work_settled}
use Rattle.call_side.proofs.work.CallWork.settle.Goals as goal

pub invariant_of-self : goal.invariant_of-self
invariant_of-self c =
    either_way c.settle.result _ _ _ c.settle.ensures.ok c.settle.ensures.err
    (work_settled c.self.inside.common.value c.self.inside.work c.settle.new.self c.self.invariant true)
    (work_settled c.self.inside.common.value c.self.inside.work c.settle.new.self c.self.invariant false)
