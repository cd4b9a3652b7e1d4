use Rattle.std.proofs.Common.{ℕ, Option, subst}
use Rattle.query_core.specs.Sought.{IsNumbered, asked_of}
use Rattle.query_core.proofs.Posed.{sought_of_two}
use Rattle.query_core.proofs.Refused.{if_ok}
use Rattle.query_core.proofs.finding.is_sought.Goals as goal

pub returns : goal.returns
returns c =
    if_ok c.together.result _ _ c.together.ensures
    (λ is tells p a b d o posed there. sought_of_two p (asked_of a b) a b o d.nodes c.in-Some.second is
    (subst (λ (x : Option ℕ). IsNumbered d.nodes b x) c.in-Some.is posed.is_second)
    ((c.holds-2.ensures p (asked_of a b) d o a posed.solved there posed.is_first).0 c.if-not-holds.false)
    (λ m here. (c.holds-else-not-holds.ensures p (asked_of a b) d o m posed.solved there here).0 c.if-not-holds-2.false)
    (λ m here. tells p (asked_of a b) d o a m posed.solved there posed.is_first here))
