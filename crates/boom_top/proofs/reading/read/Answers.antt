use Rattle.std.proofs.Common.{◌≡◌, ap, subst, Err}
use Rattle.boom_top.specs.Replies.{IsUnread}
use Rattle.boom_top.specs.declared.status.Status.TheVariants as status
use Rattle.boom_top.proofs.reading.read.Goals as goal

pub returns-in-Err-BadText-clause-text : goal.returns-in-Err-BadText-clause-text
returns-in-Err-BadText-clause-text c = λ at is.
    let same : c.in-Err-BadText.at ≡ at = cc in
    subst (λ n. IsUnread c.args.bytes.now (status.NotText n)) same (c.in-Err-BadText.ensures.text c.in-Err-BadText.at (ap Err c.in-Err-BadText.field-0-is))

pub returns-in-Err-NotJimple-clause-jimple : goal.returns-in-Err-NotJimple-clause-jimple
returns-in-Err-NotJimple-clause-jimple c = λ at is.
    let same : c.in-Err-NotJimple.at ≡ at = cc in
    subst (λ n. IsUnread c.args.bytes.now (status.NotJimple n)) same (c.in-Err-NotJimple.ensures.jimple c.in-Err-NotJimple.at (ap Err c.in-Err-NotJimple.field-0-is))
