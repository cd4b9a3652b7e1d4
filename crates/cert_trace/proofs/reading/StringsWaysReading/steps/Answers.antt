use Rattle.std.proofs.Common.{rules}
use Rattle.cert_trace.proofs.Read.{link_goes}
use Rattle.cert_trace.proofs.reading.StringsWaysReading.steps.Goals as goal

pub returns : goal.returns
returns c = λ label to.
    let s = c.args.self.now in
    let here = link_goes s.work.now.written s.site s.string.now c.args.from _ c.in-Call.call c.in-Call.is (c.has_call.ensures.0 (search rules)) label to in
    let are = c.in_ok-steps.ensures label to in ((λ has. here.0 (are.0 has)), (λ goes. are.1 (here.1 goes)))
