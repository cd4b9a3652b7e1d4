use Rattle.std.proofs.Common.{inl, inr, refl}
use Rattle.cert_work.proofs.Turns.{work_more}
use Rattle.cert_trace.proofs.meeting.meet.Goals as goal

pub must_read-requires-clause-tells : goal.must_read-requires-clause-tells
must_read-requires-clause-tells c =
    (c.args.view.now.linked.now, c.args.view.now.target, c.requires.work.ends, inr (c.args.meeting.now.store, c.requires.justified.store, inl refl))

pub must_read-requires-2-clause-tells : goal.must_read-requires-2-clause-tells
must_read-requires-2-clause-tells c =
    (c.args.view.now.linked.now, c.args.view.now.target, c.requires.work.ends, inr (c.args.meeting.now.store, c.requires.justified.store, inr refl))

pub returns-clause-work : goal.returns-clause-work
returns-clause-work c = work_more c.args.view.now.linked.now c.args.view.now.target c.args.view.now.wants.now c.args.work.now c.requires.work c.meet_by.new.written c.in_ok-meet_by.ensures.added
