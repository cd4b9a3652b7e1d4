use Rattle.cert_work.proofs.Growing.{added_more, there_more}
use Rattle.cert_trace.proofs.meeting.meet_by.Goals as goal

pub number_of-base-requires : goal.number_of-base-requires
number_of-base-requires c =
    let is = c.requires.justified.is_base in (is.0, there_more c.args.view.now.linked.now c.args.view.now.target c.in_ok-shared.ensures.added _ _ is.1)

pub returns-clause-added : goal.returns-clause-added
returns-clause-added c = added_more c.args.view.now.linked.now c.args.view.now.target c.in_ok-shared.ensures.added c.in_ok-met.ensures.added
