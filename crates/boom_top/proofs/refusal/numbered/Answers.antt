use Rattle.std.proofs.Common.{append_assoc}
use Rattle.boom_top.proofs.refusal.numbered.Goals as goal

pub returns : goal.returns
returns c = rw c.in_ok-text.ensures.ok (simp append_assoc)
