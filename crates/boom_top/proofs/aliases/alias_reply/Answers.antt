use Rattle.std.proofs.Common.{Err, ap}
use Rattle.boom_words.specs.Commands.{alias_of}
use Rattle.boom_top.proofs.Answered.{alias_refused, alias_told}
use Rattle.boom_top.proofs.Noded.{shared_sites}
use Rattle.boom_top.proofs.aliases.alias_reply.Goals as goal

pub aliased-requires-clause-places : goal.aliased-requires-clause-places
aliased-requires-clause-places g c = let a = c.in-Ok.ensures.answer in (a.0, a.1, a.2)

pub aliased-requires-clause-sites : goal.aliased-requires-clause-sites
aliased-requires-clause-sites g c =
    let a = c.in-Ok.ensures.answer in
    shared_sites c.args.linked.now c.requires.form a.0 a.1 c.in-Ok.shared.sites c.in-Ok.shared.demanded a.3

pub returns-in-Ok : goal.returns-in-Ok
returns-in-Ok g c =
    let a = c.in-Ok.ensures.answer in
    alias_told c.args.linked.now (alias_of c.args.asked.now c.args.second.now) c.aliased.result a.0 a.1 c.in-Ok.shared.sites c.in-Ok.shared.demanded a.2 a.3 c.in-Ok.ensures.within
    c.aliased.ensures.done c.aliased.ensures.text

pub returns-in-Err : goal.returns-in-Err
returns-in-Err g c =
    alias_refused c.args.linked.now (alias_of c.args.asked.now c.args.second.now) c.not_answered.result c.in-Err.error
    (record { missing = c.not_answered.ensures.missing; over = c.not_answered.ensures.over; no_memory = c.not_answered.ensures.no_memory })
    (λ which e. (c.in-Err.ensures.missing which).0 (ap Err e)) (λ spent e. c.in-Err.ensures.over spent (ap Err e))
