use Rattle.std.proofs.Common.{List, ℕ, subst, inr}
use Rattle.std.specs.Result.{IfOk}
use Rattle.boom_words.specs.Commands.{request_of}
use Rattle.boom_top.specs.Parts.{Makes}
use Rattle.boom_top.specs.Replies.{IsReplyTo, IsSourceReply}
use Rattle.boom_top.proofs.Both.{IfOk-one, IfSome-one}
use Rattle.boom_top.proofs.Commanded.{other_question, own_source, read_source}
use Rattle.boom_top.proofs.Sent.{IfSome-about}
use Rattle.boom_top.proofs.top.command_reply.Goals as goal

pub returns-in_ok-own_reply-in-Demo-clause-reply : goal.returns-in_ok-own_reply-in-Demo-clause-reply
returns-in_ok-own_reply-in-Demo-clause-reply g c = λ bytes about.
    subst (λ (text : List ℕ). Makes (IsSourceReply (request_of c.args.command.now) text) c.in_ok-own_reply-in-Demo.field-0)
    (own_source c.args.command.now.query c.in-Demo.boxes c.in-Demo.is bytes) c.in_ok-own_reply-in-Demo.ensures

pub returns-in_default : goal.returns-in_default
returns-in_default g c = record {
  reply = IfSome-about _ (λ bytes. IfOk c.read_reply.result (Makes (IsReplyTo (request_of c.args.command.now) bytes))) _
      (IfSome-one _ _ _ c.read_reply.ensures.reply (λ bytes made.
      subst (λ (text : List ℕ). IfOk c.read_reply.result (Makes (IsSourceReply (request_of c.args.command.now) text)))
      (read_source c.args.command.now.query c.in_default.not-Demo bytes) made))
      (λ demo bytes. absurd (other_question c.args.command.now.query c.in_default.not-Demo demo));
  given = c.read_reply.ensures.given;
  unread = λ is. absurd (other_question c.args.command.now.query c.in_default.not-Demo is);
  whole = IfOk-one c.read_reply.result _ _ c.read_reply.ensures.whole (λ reply whole done. inr (whole done));
  taken = c.read_reply.ensures.taken;
  fault = c.read_reply.ensures.fault;
  told = c.read_reply.ensures.told;
}
