use Rattle.cert_trace.proofs.Wanted.{wanted_more, wider_more}
use Rattle.cert_trace.proofs.wanting.want_store.Goals as goal

pub returns-clause-both : goal.returns-clause-both
returns-clause-both c = (wanted_more _ _ c.in_ok-add-2.ensures.wider _ _ c.in_ok-add.ensures.wanted, c.in_ok-add-2.ensures.wanted)

pub returns-clause-wider : goal.returns-clause-wider
returns-clause-wider c = wider_more _ _ _ c.in_ok-add.ensures.wider c.in_ok-add-2.ensures.wider
