use Rattle.std.proofs.Common.{Err, ap}
use Rattle.query_core.proofs.NamedPlaces.{place_one}
use Rattle.report_text.specs.Answers.{IsAnswerText}
use Rattle.boom_words.specs.Commands.{points_to_of}
use Rattle.boom_top.proofs.Answered.{answer_lines, place_refused, place_told}
use Rattle.boom_top.proofs.Both.{IfOk-one}
use Rattle.boom_top.proofs.Noded.{answer_sites}
use Rattle.boom_top.proofs.places.points_to_reply.Goals as goal

pub answered-requires-clause-place : goal.answered-requires-clause-place
answered-requires-clause-place g c = let a = c.in-Ok.ensures.answer in (a.0, a.1)

pub answered-requires-clause-sites : goal.answered-requires-clause-sites
answered-requires-clause-sites g c =
    let a = c.in-Ok.ensures.answer in
    answer_sites c.args.linked.now c.requires.form a.0 c.in-Ok.answer.sites c.in-Ok.answer.demanded a.2

pub returns-in-Ok : goal.returns-in-Ok
returns-in-Ok g c =
    let a = c.in-Ok.ensures.answer in
    place_told c.args.linked.now (points_to_of c.args.asked.now) (IsAnswerText c.args.linked.now) c.answered.result a.0 c.in-Ok.answer.sites c.in-Ok.answer.demanded
    a.1 a.2 c.in-Ok.ensures.within c.answered.ensures.done
    (IfOk-one c.answered.result _ _ c.answered.ensures.text (λ reply t.
    let same = place_one c.args.linked.now c.args.asked.now.method.now c.args.asked.now.index c.args.asked.now.local.now t.0 a.0 t.1 a.1 in
    let text = rw same at t.2 in
    (text, answer_lines c.args.linked.now a.0 c.in-Ok.answer.sites c.in-Ok.answer.demanded reply.text.items text)))

pub returns-in-Err : goal.returns-in-Err
returns-in-Err g c =
    place_refused c.args.linked.now (points_to_of c.args.asked.now) (IsAnswerText c.args.linked.now) c.not_answered.result c.in-Err.error
    (record { missing = c.not_answered.ensures.missing; over = c.not_answered.ensures.over; no_memory = c.not_answered.ensures.no_memory })
    (λ which e. (c.in-Err.ensures.missing which).0 (ap Err e)) (λ spent e. c.in-Err.ensures.over spent (ap Err e))
