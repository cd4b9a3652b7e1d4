use Rattle.std.proofs.Common.{Err, ap}
use Rattle.boom_top.specs.Demo.{IsDemoText, demo_asked}
use Rattle.boom_top.proofs.Answered.{demo_lines, place_refused, place_told}
use Rattle.boom_top.proofs.Both.{IfOk-one}
use Rattle.boom_top.proofs.demo.local_reply.Goals as goal

pub returns-in-Ok : goal.returns-in-Ok
returns-in-Ok g c =
    let a = c.in-Ok.ensures.answer in
    place_told c.args.linked.now (demo_asked c.args.boxes) (λ n. IsDemoText c.args.linked.now c.args.boxes) c.summary.result a.0 c.in-Ok.answer.sites
    c.in-Ok.answer.demanded (rw (c.demo_method-method.ensures, c.demo_index-index.ensures, c.requires.local) at a.1) a.2 c.in-Ok.ensures.within c.summary.ensures.done
    (IfOk-one c.summary.result _ _ c.summary.ensures.text (λ reply t. (t, demo_lines c.args.linked.now c.args.boxes c.in-Ok.answer.sites c.in-Ok.answer.demanded reply.text.items t)))

pub returns-in-Err : goal.returns-in-Err
returns-in-Err g c =
    place_refused c.args.linked.now (demo_asked c.args.boxes) (λ n. IsDemoText c.args.linked.now c.args.boxes) c.not_answered.result c.in-Err.error
    (record { missing = c.not_answered.ensures.missing; over = c.not_answered.ensures.over; no_memory = c.not_answered.ensures.no_memory })
    (λ which e. rw (c.demo_method-method.ensures, c.demo_index-index.ensures, c.requires.local) at (c.in-Err.ensures.missing which).0 (ap Err e))
    (λ spent e. rw (c.demo_method-method.ensures, c.demo_index-index.ensures, c.requires.local) at c.in-Err.ensures.over spent (ap Err e))
