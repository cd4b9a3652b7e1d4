use Rattle.std.proofs.Common.{Err, Ok, Result, ap, refl}
use Rattle.std.specs.declared.alloc.AllocError.{AllocError}
use Rattle.explain_text.specs.Explanations.{IsExplainText}
use Rattle.boom_words.specs.Commands.{points_to_of}
use Rattle.boom_top.proofs.Answered.{explain_lines, place_refused, place_told}
use Rattle.boom_top.specs.declared.query.Reply.{Reply}
use Rattle.boom_top.specs.declared.status.Status.TheVariants.{Done}
use Rattle.boom_top.proofs.explaining.explain_reply.Goals as goal

pub returns-in-Ok : goal.returns-in-Ok
returns-in-Ok g c =
    let a = c.in-Ok.ensures.answer in
    let told = a.2 in
    let made : Result Reply AllocError = Ok (record { status = Done; text = c.in-Ok.text }) in
    place_told c.args.linked.now (points_to_of c.args.asked.now) (IsExplainText c.args.linked.now) made a.0 told.sites told.demanded a.1 told.answer told.affordable
    refl (told.told, explain_lines c.args.linked.now a.0 told.sites told.demanded c.in-Ok.text.items told.told)

pub returns-in-Err : goal.returns-in-Err
returns-in-Err g c =
    place_refused c.args.linked.now (points_to_of c.args.asked.now) (IsExplainText c.args.linked.now) c.not_answered.result c.in-Err.error
    (record { missing = c.not_answered.ensures.missing; over = c.not_answered.ensures.over; no_memory = c.not_answered.ensures.no_memory })
    (λ which e. (c.in-Err.ensures.missing which).0 (ap Err e)) (λ spent e. c.in-Err.ensures.over spent (ap Err e))
