use Rattle.cert_trace.proofs.meeting.must_read.Goals as goal

pub unreachable-requires : goal.unreachable-requires
unreachable-requires c = (rw c.in-None.is at (c.in_ok-found.ensures.none c.args.view.now.linked.now)) c.requires.read
