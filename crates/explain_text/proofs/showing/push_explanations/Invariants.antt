use Rattle.std.proofs.Common.{take, string_bytes}
use Rattle.report_text.specs.Lines.{AddsLines}
use Rattle.explain_text.specs.Explanations.{AreExplanations}
use Rattle.explain_text.proofs.showing.push_explanations.Given as goal

abbrev pub invariant-loop-site : goal.invariant-loop-site
invariant-loop-site l = AddsLines (AreExplanations l.linked l.target (take l.site-index l.sites)) (string_bytes l.fn.text) (string_bytes l.text)
