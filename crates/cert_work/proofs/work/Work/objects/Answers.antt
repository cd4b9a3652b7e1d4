use Rattle.cert_work.proofs.Growing.{second}
use Rattle.cert_work.proofs.work.Work.objects.Goals as goal

pub returns : goal.returns
returns c = λ i.
    let r = c.requires in
    let are = r.2 c.args.spot i in rw c.at.ensures ((λ has. let at = are.0 has in (at.0, at.1.at)), (λ at. are.1 (at.0, record { end = r.3; at = second at })))
