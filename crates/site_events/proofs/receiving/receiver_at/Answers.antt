use Rattle.std.proofs.Common.{None}
use Rattle.site_events.proofs.receiving.receiver_at.Goals as goal

pub returns-in_err-x : goal.returns-in_err-x
returns-in_err-x c = rw c.from_residual.ensures (λ v. (λ none. absurd (cc (none)), λ is. absurd (c.in_err-x.ensures.none is.1.code is.1.at)))
