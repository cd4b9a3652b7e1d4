use Rattle.call_side.proofs.Coding.{work_table}
use Rattle.call_side.proofs.work.CallWork.saturated.Goals as goal

pub returns : goal.returns
returns c = rw (← c.self.view_is) (work_table c.self.inside.common.value c.self.inside.work c.table.result.now c.self.invariant c.table.ensures)
