use Rattle.std.proofs.Common.{ℕ, List, Err, ap, subst, refl, inl, ◌∙◌}
use Rattle.boom_words.specs.Commands.{request_of}
use Rattle.boom_top.specs.Queries.{HasNoPrelude}
use Rattle.boom_top.specs.Replies.{IsProgramReply, IsUnread}
use Rattle.boom_top.specs.declared.status.Status.TheVariants as status
use Rattle.boom_top.proofs.Spelled.{spelled_read}
use Rattle.boom_top.proofs.Replied.{told}
use Rattle.boom_top.proofs.linked.program_reply.Goals as goal

pub checked_reply-requires-clause-prelude : goal.checked_reply-requires-clause-prelude
checked_reply-requires-clause-prelude g c κs within = rw (c.as_bytes.ensures.value, c.prelude_is_whole.ensures.text) at c.in-Ok.ensures.spelled

pub returns-in-Err-NotText : goal.returns-in-Err-NotText
returns-in-Err-NotText g c =
    let unread = c.in-Err-NotText.ensures.text c.in-Err-NotText.field-0-0 (ap Err c.in-Err-NotText.field-0-is) in
    let none : HasNoPrelude = λ prelude is. spelled_read _ prelude (status.NotText c.in-Err-NotText.field-0-0) is.spelled
    (subst (λ (text : List ℕ). IsUnread text (status.NotText c.in-Err-NotText.field-0-0)) (c.as_bytes.ensures.value ∙ c.prelude_is_whole.ensures.text) unread) in
    told (IsProgramReply (request_of c.args.command.now) c.args.rest.now c.args.input.now) c.refused.result status.BadPrelude c.refused.ensures (inl (none, (refl, refl)))

pub returns-in-Err-NotJimple : goal.returns-in-Err-NotJimple
returns-in-Err-NotJimple g c =
    let unread = c.in-Err-NotJimple.ensures.jimple c.in-Err-NotJimple.field-0-0 (ap Err c.in-Err-NotJimple.field-0-is) in
    let none : HasNoPrelude = λ prelude is. spelled_read _ prelude (status.NotJimple c.in-Err-NotJimple.field-0-0) is.spelled
    (subst (λ (text : List ℕ). IsUnread text (status.NotJimple c.in-Err-NotJimple.field-0-0)) (c.as_bytes.ensures.value ∙ c.prelude_is_whole.ensures.text) unread) in
    told (IsProgramReply (request_of c.args.command.now) c.args.rest.now c.args.input.now) c.refused-in-Err-NotJimple.result status.BadPrelude c.refused-in-Err-NotJimple.ensures
    (inl (none, (refl, refl)))
