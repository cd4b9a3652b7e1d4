use Rattle.std.proofs.Common.{◌≢◌, ℕ, List, [], ◌∷◌, refl, inl, inr}
use Rattle.link_rules.specs.Linked.{LinkedProgram}
use Rattle.protocol_words.specs.declared.error.ProtocolError.{ProtocolError}
use Rattle.protocol_words.specs.declared.error.ProtocolError.TheVariants as protocol
use Rattle.protocol_words.specs.Refused.{IsRefusedFor}
use Rattle.boom_words.specs.Commands.{typestate_of}
use Rattle.boom_top.specs.Parts.{Tells}
use Rattle.boom_top.specs.Refusals.{refusal}
use Rattle.boom_top.specs.Typestates.{IsNoProtocolFor, IsProtocolReply, IsTypestateReply}
use Rattle.boom_top.specs.declared.query.Reply.{Reply}
use Rattle.boom_top.specs.declared.status.Status.TheVariants as status
use Rattle.boom_top.proofs.Both.{IfOk-both}
use Rattle.boom_top.proofs.Replied.{passed}
use Rattle.boom_top.proofs.Worded.{protocol_class}
use Rattle.boom_top.proofs.typestates.typestate_reply.Goals as goal

-- an error other than want of memory is a reason
reason_of : (p : LinkedProgram) (word : List ℕ) (error : ProtocolError) → IsRefusedFor p word error → error ≢ protocol.NoMemory → IsNoProtocolFor p word error
reason_of p word (protocol.NotProtocol at) is real = is
reason_of p word (protocol.TooManyStates at) is real = is
reason_of p word protocol.UnknownClass is real = is
reason_of p word protocol.NoMemory is real = real refl

pub protocol_reply-requires-clause-class : goal.protocol_reply-requires-clause-class
protocol_reply-requires-clause-class g c κs within = protocol_class c.args.linked.now c.args.asked.now.protocol.now c.in-Ok.protocol c.in-Ok.ensures.ok

pub returns-in-Ok : goal.returns-in-Ok
returns-in-Ok g c =
    passed (IsProtocolReply c.args.linked.now c.args.entry.now c.args.asked.now.budget c.in-Ok.protocol)
    (IsTypestateReply c.args.linked.now c.args.entry.now (typestate_of c.args.asked.now)) c.protocol_reply.result
    (λ s lines h. inr (c.in-Ok.protocol, c.in-Ok.ensures.ok, h)) c.protocol_reply.ensures

pub returns-in-Err : goal.returns-in-Err
returns-in-Err g c =
    let error = c.in-Err.error in
    IfOk-both c.no_protocol.result (Tells (status.NotProtocol error)) (λ (reply : Reply). error ≢ protocol.NoMemory) _ c.no_protocol.ensures.tells
    c.no_protocol.ensures.refused (λ reply tells real. (
      refusal (status.NotProtocol error) ∷ [],
      inl (error, reason_of c.args.linked.now c.args.asked.now.protocol.now error c.in-Err.ensures.err real, (tells.0, refl)),
      tells.1,
    ))
