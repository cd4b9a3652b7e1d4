use Rattle.std.proofs.Common.{◌⊎◌, map, string_bytes, refl, inl, inr}
use Rattle.boom_words.specs.Commands.{request_of}
use Rattle.boom_words.specs.Requests.{IsRequest, NoRequest}
use Rattle.boom_top.specs.Replies.{IsReply, IsReplyTo}
use Rattle.boom_top.specs.declared.status.Status.TheVariants as status
use Rattle.boom_top.proofs.Replied.{passed, told_one}
use Rattle.boom_top.proofs.top.words_reply.Given as given
use Rattle.boom_top.proofs.top.words_reply.Goals as goal
use Rattle.boom_top.proofs.top.words_reply.Goals.{In-None, In-Some}

-- one of two facts, by what makes the second
second_by : {A B C : Type 0} → A ⊎ B → (B → C) → A ⊎ C
second_by (inl a) f = inl a
second_by (inr b) f = inr (f b)

requested : (g : given.Over) (c : In-Some g) → IsRequest (map string_bytes c.args.words.now) (request_of c.in-Some.command)
requested g c = rw c.in-Some.is at c.in_ok-command.ensures.some

none : (g : given.Over) (c : In-None g) → NoRequest (map string_bytes c.args.words.now)
none g c r h = rw c.in-None.is at (c.in_ok-command.ensures.only r h)

pub returns-in-Some-clause-reply : goal.returns-in-Some-clause-reply
returns-in-Some-clause-reply g c' =
    let c = (goal.at.returns-in-Some-clause-reply g c').In-Some in
    λ bytes about.
    passed (IsReplyTo (request_of c.in-Some.command) bytes) (IsReply (map string_bytes c'.args.words.now) bytes) c'.command_reply.result
    (λ s lines h. inr (request_of c.in-Some.command, requested g c, h))
    (c'.command_reply.ensures.reply bytes (second_by about (λ nothing. nothing _ (requested g c))))

pub returns-in-Some-clause-no_words : goal.returns-in-Some-clause-no_words
returns-in-Some-clause-no_words g c = λ no. absurd (no _ (requested g (goal.at.returns-in-Some-clause-no_words g c).In-Some))

pub returns-in-Some-clause-unread : goal.returns-in-Some-clause-unread
returns-in-Some-clause-unread g c = λ nothing. c.command_reply.ensures.unread (nothing _ (requested g (goal.at.returns-in-Some-clause-unread g c).In-Some))

pub returns-in_ok-refused-in-None-clause-reply : goal.returns-in_ok-refused-in-None-clause-reply
returns-in_ok-refused-in-None-clause-reply g c =
    let no = none g (goal.at.returns-in_ok-refused-in-None-clause-reply g c).In-None in
    λ bytes about.
    told_one (IsReply (map string_bytes c.args.words.now) bytes) c.in_ok-refused-in-None.field-0 status.Usage c.in_ok-refused-in-None.ensures
    (inl (no, (refl, refl)))

pub returns-in_ok-refused-in-None-clause-usage : goal.returns-in_ok-refused-in-None-clause-usage
returns-in_ok-refused-in-None-clause-usage g c =
    let no = none g (goal.at.returns-in_ok-refused-in-None-clause-usage g c).In-None in
    λ usage. no
