use Rattle.site_events.proofs.Joining.{found_call}
use Rattle.site_events.proofs.passed.passing_by_call.Goals as goal

pub returns-in_err-receiver-clause-none : goal.returns-in_err-receiver-clause-none
returns-in_err-receiver-clause-none c = rw c.from_residual.ensures (λ call. c.in_err-receiver.ensures.none _ call.here)

pub returns-in-Call-clause-some : goal.returns-in-Call-clause-some
returns-in-Call-clause-some c =
    let found = rw (c.as_slice.ensures, c.as_slice-in-Call.ensures) at c.passing_var.ensures in
    found_call c.args.linked.now c.args.place c.args.var c.passing_var.result c.in_ok-receiver.field-0.now c.in-Call.to c.in-Call.mode c.in-Call.class c.in-Call.key
    c.in-Call.receiver c.in-Call.args c.in-Call.targets c.if-place.false c.in-Call.is c.in_ok-receiver.ensures.some found
