use Rattle.track_report.proofs.Told.{some_found}
use Rattle.track_report.proofs.report.push_verdict.Goals as goal

pub returns : goal.returns
returns c = rw (some_found c.args.findings c.if-findings-eq0.false) c.write-2.ensures.bytes
