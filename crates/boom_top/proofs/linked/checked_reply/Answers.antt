use Rattle.std.proofs.Common.{refl, sym, inl, inr, subst, true≢false}
use Rattle.jim_parse.proofs.ProgramLemmas.{spells_one}
use Rattle.link_rules.specs.Conditions.{DeclaresNine}
use Rattle.boom_words.specs.Commands.{request_of}
use Rattle.boom_top.specs.Queries.{HasNoPrelude}
use Rattle.boom_top.specs.Replies.{IsJoinedReply, IsProgramReply}
use Rattle.boom_top.specs.declared.status.Status.TheVariants as status
use Rattle.boom_top.proofs.Replied.{passed, told}
use Rattle.boom_top.proofs.linked.checked_reply.Goals as goal

pub declares_named-requires : goal.declares_named-requires
declares_named-requires g c = (c.spelled_programs_are_read.ensures _ c.args.prelude.now c.requires.prelude).names

pub joined_reply-requires-clause-prelude : goal.joined_reply-requires-clause-prelude
joined_reply-requires-clause-prelude g c κs within = c.spelled_programs_are_read.ensures _ c.args.prelude.now c.requires.prelude

pub joined_reply-requires-clause-nine : goal.joined_reply-requires-clause-nine
joined_reply-requires-clause-nine g c κs within = c.if-declares_named.ensures.0 refl

pub returns-then-declares_named : goal.returns-then-declares_named
returns-then-declares_named g c =
    passed (IsJoinedReply (request_of c.args.command.now) c.args.rest.now c.args.input.now c.args.prelude.now) (IsProgramReply (request_of c.args.command.now) c.args.rest.now c.args.input.now)
    c.joined_reply.result
    (λ s lines h. inr (c.args.prelude.now, record { spelled = c.requires.prelude; nine = c.if-declares_named.ensures.0 refl }, h)) c.joined_reply.ensures

pub returns-else-declares_named : goal.returns-else-declares_named
returns-else-declares_named g c =
    let none : HasNoPrelude = λ other is.
    true≢false (sym (c.if-declares_named.ensures.1 (subst DeclaresNine (spells_one _ other c.args.prelude.now is.spelled c.requires.prelude) is.nine))) in
    told (IsProgramReply (request_of c.args.command.now) c.args.rest.now c.args.input.now) c.refused.result status.BadPrelude c.refused.ensures (inl (none, (refl, refl)))
