use Rattle.cert_work.proofs.Growing.{added_more, there_more}
use Rattle.cert_trace.proofs.tracing.follow_wanted.Goals as goal

pub returns-clause-added : goal.returns-clause-added
returns-clause-added c = added_more c.args.view.now.linked.now c.args.view.now.target c.in_ok-meet.ensures.added c.in_ok-work_off.ensures.added

pub returns-clause-there : goal.returns-clause-there
returns-clause-there c = there_more c.args.view.now.linked.now c.args.view.now.target c.in_ok-work_off.ensures.added _ _ c.in_ok-meet.ensures.there
