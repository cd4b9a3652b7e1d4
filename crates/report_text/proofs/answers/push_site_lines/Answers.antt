use Rattle.report_text.proofs.Growing.{AddsLines-none, AddsLines-next}
use Rattle.report_text.proofs.answers.push_site_lines.Goals as goal

pub loop-site-init : goal.loop-site-init
loop-site-init c = AddsLines-none _ _

pub loop-site-preserved : goal.loop-site-preserved
loop-site-preserved c = AddsLines-next _ _ _ _ _ _ _ c.loop-site-test.true c.loop-site.invariant c.in_ok-push_site_line.ensures
