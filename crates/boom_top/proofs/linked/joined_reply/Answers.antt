use Rattle.std.proofs.Common.{◌≡◌, ◌≢◌, ℕ, List, [], ◌∷◌, Err, ap, refl, inl, inr}
use Rattle.jim_ast.specs.declared.syntax.Program.{Program}
use Rattle.link_rules.specs.declared.refusal.LinkError.{LinkError}
use Rattle.link_rules.specs.declared.refusal.LinkError.TheVariants as link
use Rattle.link_rules.specs.declared.refusal.LinkKind.{LinkKind}
use Rattle.link_rules.specs.Linked.{IsRefused}
use Rattle.boom_words.specs.Commands.{question_of, request_of}
use Rattle.boom_top.specs.Parts.{Tells}
use Rattle.boom_top.specs.Refusals.{refusal}
use Rattle.boom_top.specs.Replies.{IsJoinedReply, IsLinkedReply, IsNotLinked}
use Rattle.boom_top.specs.declared.query.Reply.{Reply}
use Rattle.boom_top.specs.declared.status.Status.TheVariants as status
use Rattle.boom_top.proofs.Both.{IfOk-both}
use Rattle.boom_top.proofs.Replied.{passed}
use Rattle.boom_top.proofs.linked.joined_reply.Goals as goal

-- an error other than want of memory is a refusal
refusal_of : (input prelude : Program) (entry : List ℕ) (error : LinkError)
    → ((kind : LinkKind) (place : List ℕ) (index : ℕ) → error ≡ link.Refused kind place index → IsRefused input prelude entry kind place index) → error ≢ link.NoMemory
    → IsNotLinked input prelude entry error
refusal_of input prelude entry (link.Refused kind place index) refused real = refused kind place index refl
refusal_of input prelude entry link.NoMemory refused real = real refl

pub returns-in-Ok : goal.returns-in-Ok
returns-in-Ok g c =
    passed (IsLinkedReply c.in-Ok.linked c.args.command.now.entry.now c.args.rest.now (question_of c.args.command.now.query)) (IsJoinedReply (request_of c.args.command.now) c.args.rest.now c.args.input.now c.args.prelude.now)
    c.linked_reply.result (λ s lines h. inr (c.in-Ok.linked, c.in-Ok.ensures.ok, h)) c.linked_reply.ensures

pub returns-in-Err : goal.returns-in-Err
returns-in-Err g c =
    let error = c.in-Err.error in
    IfOk-both c.not_linked.result (Tells (status.NotLinked error)) (λ (reply : Reply). error ≢ link.NoMemory) _ c.not_linked.ensures.tells c.not_linked.ensures.refused
    (λ reply tells real. (
      refusal (status.NotLinked error) ∷ [],
      inl (
        error,
        refusal_of c.args.input.now c.args.prelude.now c.args.command.now.entry.now error
            (λ kind place index e. c.in-Err.ensures.refused kind place index (ap Err e)) real,
        (tells.0, refl),
      ),
      tells.1,
    ))
