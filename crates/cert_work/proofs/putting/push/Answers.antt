use Rattle.cert_work.proofs.Giving.{push_field_gives}
use Rattle.cert_work.proofs.putting.push.Goals as goal

pub add-requires-clause-gives : goal.add-requires-clause-gives
add-requires-clause-gives c = push_field_gives c.args.view.now c.args.written.now c.args.held.now c.requires.held c.args.meeting.now c.requires.meeting c.args.start c.requires.start c.requires.side
