use Rattle.std.proofs.Common.{Err, ap, refl, inl, inr}
use Rattle.boom_words.specs.Commands.{request_of}
use Rattle.boom_top.specs.Replies.{IsProgramReply, IsTextReply}
use Rattle.boom_top.specs.declared.status.Status.TheVariants as status
use Rattle.boom_top.proofs.Replied.{passed, told}
use Rattle.boom_top.proofs.linked.parts_reply.Goals as goal

pub returns-in-Ok : goal.returns-in-Ok
returns-in-Ok g c =
    passed (IsProgramReply (request_of c.args.command.now) c.args.rest.now c.in-Ok.input) (IsTextReply (request_of c.args.command.now) c.args.rest.now c.args.text.now)
    c.program_reply.result (λ s lines h. inr (c.in-Ok.input, c.in-Ok.ensures.spelled, h)) c.program_reply.ensures

pub returns-in-Err-NotText : goal.returns-in-Err-NotText
returns-in-Err-NotText g c =
    let unread = c.in-Err-NotText.ensures.text c.in-Err-NotText.at (ap Err c.in-Err-NotText.field-0-is) in
    told (IsTextReply (request_of c.args.command.now) c.args.rest.now c.args.text.now) c.refused.result (status.NotText c.in-Err-NotText.at) c.refused.ensures
    (inl (unread, refl))

pub returns-in-Err-NotJimple : goal.returns-in-Err-NotJimple
returns-in-Err-NotJimple g c =
    let unread = c.in-Err-NotJimple.ensures.jimple c.in-Err-NotJimple.at (ap Err c.in-Err-NotJimple.field-0-is) in
    told (IsTextReply (request_of c.args.command.now) c.args.rest.now c.args.text.now) c.refused-in-Err-NotJimple.result (status.NotJimple c.in-Err-NotJimple.at)
    c.refused-in-Err-NotJimple.ensures (inl (unread, refl))
