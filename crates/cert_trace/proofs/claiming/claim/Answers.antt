use Rattle.std.proofs.Common.{inl, refl}
use Rattle.cert_trace.proofs.Claimed.{call_there, can_claim, field_there}
use Rattle.cert_trace.proofs.claiming.claim.Goals as goal

pub number_of-requires : goal.number_of-requires
number_of-requires c = let is = c.requires.answered in field_there is.0 c.args.target c.args.work.now.written is.1.closed c.args.site is.2

pub call_line-requires-clause-filed : goal.call_line-requires-clause-filed
call_line-requires-clause-filed c = let is = c.requires.answered in is.1.filed

pub call_line-requires-clause-tells : goal.call_line-requires-clause-tells
call_line-requires-clause-tells c = let is = c.requires.answered in (is.0, c.args.target, is.1.ends, inl refl)

pub call_line-requires-clause-there : goal.call_line-requires-clause-there
call_line-requires-clause-there c = let is = c.requires.answered in call_there is.0 c.args.target c.args.work.now.written is.1.closed c.args.site is.2

pub returns : goal.returns
returns c = λ p trace answered.
    can_claim p c.args.target c.args.work.now.written trace.closed trace.given trace.told c.args.site answered c.number_of.result c.call_line.result c.number_of.ensures.gives c.number_of.ensures.least
    c.call_line.ensures.0 c.call_line.ensures.1
