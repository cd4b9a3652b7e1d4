use Rattle.std.proofs.Common.{Err, ap, refl, inl}
use Rattle.boom_words.specs.Commands.{request_of}
use Rattle.boom_top.specs.Queries.{limit}
use Rattle.boom_top.specs.Replies.{IsSourceReply}
use Rattle.boom_top.specs.declared.status.Status.TheVariants as status
use Rattle.boom_top.proofs.Replied.{told_one}
use Rattle.boom_top.proofs.Sent.{IfSome-long, IfSome-read}
use Rattle.boom_top.proofs.top.read_reply.Goals as goal

pub returns-in_ok-text_reply-in-Ok-clause-reply : goal.returns-in_ok-text_reply-in-Ok-clause-reply
returns-in_ok-text_reply-in-Ok-clause-reply g c =
    IfSome-read _ c.deref.result.now _ (rw (← c.deref.ensures.value) at c.in-Ok.ensures.bytes) c.in_ok-text_reply-in-Ok.ensures

pub returns-in_ok-refused-in-Err-TooLong-clause-reply : goal.returns-in_ok-refused-in-Err-TooLong-clause-reply
returns-in_ok-refused-in-Err-TooLong-clause-reply g c =
    IfSome-long limit _ _ _ (c.in-Err-TooLong.ensures.too_long (ap Err c.in-Err-TooLong.field-0-is)) (λ bytes long.
    told_one (IsSourceReply (request_of c.args.command.now) bytes) c.in_ok-refused-in-Err-TooLong.field-0 status.TooLong c.in_ok-refused-in-Err-TooLong.ensures
    (inl (long, (refl, refl))))
