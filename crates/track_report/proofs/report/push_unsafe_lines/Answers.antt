use Rattle.report_text.proofs.Growing.{AddsLines-none, AddsLines-next}
use Rattle.track_report.proofs.report.push_unsafe_lines.Goals as goal

pub loop-finding-init : goal.loop-finding-init
loop-finding-init c = AddsLines-none _ _

pub loop-finding-preserved : goal.loop-finding-preserved
loop-finding-preserved c = AddsLines-next _ _ _ _ _ _ _ c.loop-finding-test.true c.loop-finding.invariant c.in_ok-push_unsafe.ensures
