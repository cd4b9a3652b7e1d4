use Rattle.std.proofs.Common.{refl, arith, inl, inr}
use Rattle.boom_words.specs.Commands.{question_of, request_of}
use Rattle.boom_top.specs.Queries.{program_in, rest_in}
use Rattle.boom_top.specs.Replies.{IsSourceReply, IsTextReply}
use Rattle.boom_top.specs.declared.status.Status.TheVariants as status
use Rattle.boom_top.proofs.Replied.{passed, told}
use Rattle.boom_top.proofs.linked.text_reply.Goals as goal

pub returns-then-bytes-gt-LIMIT : goal.returns-then-bytes-gt-LIMIT
returns-then-bytes-gt-LIMIT g c =
    told (IsSourceReply (request_of c.args.command.now) c.args.bytes.now) c.refused.result status.TooLong c.refused.ensures
    (inl (omega (arith, c.if-bytes-gt-LIMIT.true), (refl, refl)))

pub returns-else-bytes-gt-LIMIT : goal.returns-else-bytes-gt-LIMIT
returns-else-bytes-gt-LIMIT g c =
    passed (IsTextReply (request_of c.args.command.now) (rest_in (question_of c.args.command.now.query) c.args.bytes.now) (program_in (question_of c.args.command.now.query) c.args.bytes.now)) (IsSourceReply (request_of c.args.command.now) c.args.bytes.now) c.short_reply.result
    (λ s lines h. inr (omega (arith, c.if-bytes-gt-LIMIT.false), h)) c.short_reply.ensures
