use Rattle.std.proofs.Common.{ℕ, List, arith, refl, subst, sym}
use Rattle.lists.specs.Lists.{Has}
use Rattle.cert_lines.specs.declared.keys.Spot.{Spot}
use Rattle.cert_lines.specs.declared.keys.Word.{Word}
use Rattle.cert_work.specs.Roads.{IsEnd}
use Rattle.cert_work.specs.Work.{IsBelow, IsStored}
use Rattle.cert_work.proofs.Growing.{first, held_more, many_more, second}
use Rattle.cert_work.proofs.Stored.{stored_end}
use Rattle.cert_work.proofs.Turns.{takers_next, turn_at}
use Rattle.cert_work.proofs.Working.{cites_low}
use Rattle.cert_work.proofs.work.work_taker.Goals as goal

pub follow-requires-clause-links : goal.follow-requires-clause-links
follow-requires-clause-links c = λ i has.
    subst (λ (k : Word). IsBelow c.args.work.now.written k i) c.word-word.ensures
    (second ((c.requires.work.filed.links c.word-word.result i).0 (subst (λ (xs : List ℕ). Has xs i) c.at-links.ensures has)))

pub follow-requires-clause-mets : goal.follow-requires-clause-mets
follow-requires-clause-mets c = λ i has.
    subst (λ (k : Spot). IsStored c.args.work.now.written k i) c.spot-spot.ensures
    (second ((c.requires.work.filed.mets c.spot-spot.result i).0 ((c.mets_at-mets.ensures i).0 has)))

pub mets_at-mets-requires : goal.mets_at-mets-requires
mets_at-mets-requires c = λ i has.
    let p = c.args.view.now.linked.now in
    let t = c.args.view.now.target in
    let end = stored_end p t c.args.work.now.written c.requires.work.stored c.spot-spot.result i (second ((c.requires.work.filed.mets c.spot-spot.result i).0 has)) in
    c.requires.end.1 (subst (λ (k : Spot). IsEnd p t k.node) c.spot-spot.ensures end)

pub returns-clause-work : goal.returns-clause-work
returns-clause-work c =
    let p = c.args.view.now.linked.now in
    let t = c.args.view.now.target in
    let wants = c.args.view.now.wants.now in
    let low = cites_low c.args.work.now.written.given c.args.held.now.number _ c.requires.held.gives in
    let added = c.in_ok-follow.ensures.added in
    let many = many_more p t added in
    let held = held_more p t added c.args.held.now c.requires.held in
    let e = c.requires.taken.0 in
    let at = (c.requires.edges e).0 c.requires.taken.1 in
    turn_at p t wants c.args.work.now c.requires.work c.follow.new.written added c.args.held.now.number c.requires.number (omega arith) c.args.held.now refl held
    c.word-word.result c.word-word.ensures c.spot-spot.result c.spot-spot.ensures c.requires.end c.add.new.self c.file_object.new.spots
    (takers_next p t wants c.args.work.now c.requires.work c.follow.new.written added c.args.held.now.number c.requires.number (omega arith) c.args.held.now refl held
    c.word-word.result c.word-word.ensures c.spot-spot.result c.spot-spot.ensures c.add.new.self c.in_ok-add.ensures.has c.requires.wanted e (second at) (first at) c.requires.taken.2)
    c.in_ok-file_object.ensures (λ wanted. c.in_ok-follow.ensures.along)
    (λ wanted i has. c.in_ok-follow.ensures.popped i (subst (λ (xs : List ℕ). Has xs i) (sym c.at-links.ensures) has))
    (λ wanted i has. c.in_ok-follow.ensures.put i ((c.mets_at-mets.ensures i).1 has))
