use Rattle.cert_work.proofs.Growing.{added_more, held_more, meeting_more, there_more}
use Rattle.cert_work.proofs.putting.put_fields.Goals as goal

pub link-requires-clause-held : goal.link-requires-clause-held
link-requires-clause-held c = held_more c.args.view.now.linked.now c.args.view.now.target c.in_ok-push.ensures.added c.args.held.now c.requires.held

pub link-requires-clause-meeting : goal.link-requires-clause-meeting
link-requires-clause-meeting c = meeting_more c.args.view.now.linked.now c.args.view.now.target c.in_ok-push.ensures.added c.args.held.now c.args.meeting.now c.requires.meeting

pub returns-clause-added : goal.returns-clause-added
returns-clause-added c = added_more c.args.view.now.linked.now c.args.view.now.target c.in_ok-push.ensures.added c.in_ok-link.ensures.added

pub returns-clause-there : goal.returns-clause-there
returns-clause-there c = (
  there_more c.args.view.now.linked.now c.args.view.now.target c.in_ok-link.ensures.added _ _ c.in_ok-push.ensures.there,
  c.in_ok-link.ensures.there,
)
