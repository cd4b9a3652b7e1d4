use Rattle.std.proofs.Common.{inl, ℕ, List, arith, subst, sym}
use Rattle.lists.specs.Lists.{Has}
use Rattle.cert_work.proofs.Growing.{cites_kept, many_more}
use Rattle.cert_work.proofs.Turns.{turn_met}
use Rattle.cert_work.proofs.Working.{cites_low}
use Rattle.cert_work.proofs.work.work_met.Goals as goal

pub put_objects-requires-clause-objects : goal.put_objects-requires-clause-objects
put_objects-requires-clause-objects c = λ i has.
    ((c.requires.work.ends c.args.spot i).0 (subst (λ (xs : List ℕ). Has xs i) c.at-objects.ensures has)).1.at

pub returns-clause-work : goal.returns-clause-work
returns-clause-work c =
    let low = cites_low c.args.work.now.written.given c.args.meeting.now.number _ c.requires.meets in
    let many = many_more c.args.view.now.linked.now c.args.view.now.target c.in_ok-put_objects.ensures.added in
    turn_met c.args.view.now.linked.now c.args.view.now.target c.args.view.now.wants.now c.args.work.now c.requires.work c.put_objects.new.written c.in_ok-put_objects.ensures.added c.args.meeting.now.number c.requires.number (omega arith)
    c.args.spot c.args.meeting.now.base c.args.meeting.now.store c.requires.arg (cites_kept c.args.view.now.linked.now c.args.view.now.target c.in_ok-put_objects.ensures.added _ _ c.requires.meets) c.add.new.self
    c.in_ok-add.ensures.has (λ i has b n start side o x s at meets.
    inl (c.in_ok-put_objects.ensures.there i (subst (λ (xs : List ℕ). Has xs i) (sym c.at-objects.ensures) has) b n start side o x s at meets))
