use Rattle.lists.proofs.Places.{slice_get-below}
use Rattle.site_events.proofs.Acting.{key_there}
use Rattle.site_events.proofs.statements.act_of.Goals as goal

pub returns-in_err-call-clause-none : goal.returns-in_err-call-clause-none
returns-in_err-call-clause-none c = rw c.from_residual.ensures (λ event. c.in_err-call.ensures.none c.args.linked.now c.args.protocol.now event)

pub key_name-requires : goal.key_name-requires
key_name-requires c =
    let key = key_there c.args.linked.now c.args.protocol.now c.args.code.now c.in_ok-call.call c.in_ok-call.ensures.some c.requires.fits.0 c.requires.fits.1 in
    slice_get-below c.args.linked.now.keys c.in_ok-call.call.key key.0 key.1
