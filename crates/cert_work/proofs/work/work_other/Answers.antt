use Rattle.std.proofs.Common.{◌≡◌, arith, refl, subst}
use Rattle.cert_lines.specs.declared.keys.Spot.{Spot}
use Rattle.cert_rules.specs.Given.{Takes}
use Rattle.spds_rules.specs.declared.edge.Edge.{Edge}
use Rattle.cert_work.specs.Roads.{EdgeOf, IsEnd}
use Rattle.cert_work.specs.Work.{IsStored, word_of}
use Rattle.cert_work.proofs.Growing.{held_more, many_more, second}
use Rattle.cert_work.proofs.Stored.{stored_end}
use Rattle.cert_work.proofs.Turns.{popped_other, takers_other, turn_at}
use Rattle.cert_work.proofs.Working.{cites_low}
use Rattle.cert_work.proofs.work.work_other.Goals as goal

pub follow-requires-clause-links : goal.follow-requires-clause-links
follow-requires-clause-links c = λ i has. let h = has.1 in cc

pub follow-requires-clause-mets : goal.follow-requires-clause-mets
follow-requires-clause-mets c = λ i has.
    subst (λ (k : Spot). IsStored c.args.work.now.written k i) c.spot-spot.ensures
    (second ((c.requires.work.filed.mets c.spot-spot.result i).0 ((c.mets_at-mets.ensures i).0 has)))

pub mets_at-mets-requires : goal.mets_at-mets-requires
mets_at-mets-requires c = λ i has.
    let p = c.args.view.now.linked.now in
    let t = c.args.view.now.target in
    let end = stored_end p t c.args.work.now.written c.requires.work.stored c.spot-spot.result i (second ((c.requires.work.filed.mets c.spot-spot.result i).0 has)) in
    c.requires.end.1 (subst (λ (k : Spot). IsEnd p t k.node) c.spot-spot.ensures end)

pub returns-clause-work : goal.returns-clause-work
returns-clause-work c =
    let p = c.args.view.now.linked.now in
    let t = c.args.view.now.target in
    let wants = c.args.view.now.wants.now in
    let low = cites_low c.args.work.now.written.given c.args.held.now.number _ c.requires.held.gives in
    let added = c.in_ok-follow.ensures.added in
    let many = many_more p t added in
    let held = held_more p t added c.args.held.now c.requires.held in
    let none : (f : Edge) → EdgeOf c.args.view.now f → f.from ≡ c.args.held.now.node → Takes c.args.held.now.side c.args.held.now.entry f.kind → ⊥
    = λ f edge from. c.requires.untaken f ((c.requires.edges f).1 (from, edge)) in
    turn_at p t wants c.args.work.now c.requires.work c.follow.new.written added c.args.held.now.number c.requires.number (omega arith) c.args.held.now refl held
    (word_of c.args.held.now) refl c.spot-spot.result c.spot-spot.ensures c.requires.end c.args.work.now.takers c.file_object.new.spots
    (takers_other p t wants c.args.work.now c.requires.work c.follow.new.written added c.args.held.now.number c.requires.number (omega arith) c.args.held.now refl held
    (word_of c.args.held.now) refl c.spot-spot.result c.spot-spot.ensures none)
    c.in_ok-file_object.ensures (λ wanted. c.in_ok-follow.ensures.along)
    (λ wanted i has f edge. popped_other p t wants c.args.work.now c.requires.work c.follow.new.written added c.args.held.now.number c.requires.number (omega arith) c.args.held.now refl
    held (word_of c.args.held.now) refl c.spot-spot.result c.spot-spot.ensures none i f edge)
    (λ wanted i has. c.in_ok-follow.ensures.put i ((c.mets_at-mets.ensures i).1 has))
