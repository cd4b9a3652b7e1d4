use Rattle.std.proofs.Common.{arith, refl}
use Rattle.cert_work.specs.Added.{AreAdded}
use Rattle.cert_work.specs.Work.{word_of}
use Rattle.cert_work.proofs.Turns.{takers_past, turn_at}
use Rattle.cert_work.proofs.Working.{cites_low}
use Rattle.cert_work.proofs.work.work_past.Goals as goal

pub returns-clause-added : goal.returns-clause-added
returns-clause-added c = AreAdded.none

pub returns-clause-work : goal.returns-clause-work
returns-clause-work c =
    let p = c.args.view.now.linked.now in
    let t = c.args.view.now.target in
    let wants = c.args.view.now.wants.now in
    let low = cites_low c.args.work.now.written.given c.args.held.now.number _ c.requires.held.gives in
    turn_at p t wants c.args.work.now c.requires.work c.args.work.now.written AreAdded.none c.args.held.now.number c.requires.number (omega arith) c.args.held.now refl c.requires.held
    (word_of c.args.held.now) refl c.spot.result c.spot.ensures c.requires.end c.args.work.now.takers c.file_object.new.spots
    (takers_past p t wants c.args.work.now c.requires.work c.args.work.now.written AreAdded.none c.args.held.now.number c.requires.number (omega arith) c.args.held.now refl
    c.requires.held (word_of c.args.held.now) refl c.spot.result c.spot.ensures c.requires.unwanted)
    c.in_ok-file_object.ensures (λ wanted. absurd (c.requires.unwanted wanted)) (λ wanted. absurd (c.requires.unwanted wanted)) (λ wanted. absurd (c.requires.unwanted wanted))
