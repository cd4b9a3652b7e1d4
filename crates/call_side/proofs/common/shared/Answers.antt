use Rattle.call_side.proofs.common.shared.Goals as goal

pub returns-clause-none : goal.returns-clause-none
returns-clause-none c = rw (c.in_ok-indexed.ensures, c.in_ok-steps.ensures) at c.shared_at.ensures.none
