use Rattle.std.proofs.Common.{ℕ, List, arith, subst}
use Rattle.std.specs.Result.{IfOk}
use Rattle.boom_words.specs.Commands.{question_of, request_of}
use Rattle.boom_top.specs.Parts.{Makes}
use Rattle.boom_top.specs.Queries.{rest_in}
use Rattle.boom_top.specs.Replies.{IsTextReply}
use Rattle.boom_top.proofs.linked.short_reply.Goals as goal

pub parts_reply-requires-clause-short : goal.parts_reply-requires-clause-short
parts_reply-requires-clause-short g c = let part = c.parts_of-parts.ensures.part in let short = c.requires.short in omega (arith, part, short)

pub returns : goal.returns
returns g c =
    let made = subst (λ (rest : List ℕ). IfOk c.parts_reply.result (Makes (IsTextReply (request_of c.args.command.now) rest c.parts_of-parts.result.program.now)))
    c.parts_of-parts.ensures.rest c.parts_reply.ensures in
    subst (λ (text : List ℕ). IfOk c.parts_reply.result
    (Makes (IsTextReply (request_of c.args.command.now) (rest_in (question_of c.args.command.now.query) c.args.bytes.now) text)))
    c.parts_of-parts.ensures.program made
