use Rattle.cert_laws.proofs.Complete.{answered_certified}
use Rattle.cert_laws.proofs.Sound.{certified_answered}
use Rattle.cert_laws.proofs.laws.certified.Goals as goal

pub returns : goal.returns
returns c = λ target o. (answered_certified c.args.linked.now target o, λ shown. certified_answered c.args.linked.now target c.requires shown.0 o shown.1)
