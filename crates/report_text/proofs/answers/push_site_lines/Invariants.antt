use Rattle.std.proofs.Common.{take, string_bytes}
use Rattle.lists.specs.Lists.{Each}
use Rattle.report_text.specs.Answers.{IsWordedSite}
use Rattle.report_text.specs.Lines.{AddsLines}
use Rattle.report_text.proofs.answers.push_site_lines.Given as goal

abbrev pub invariant-loop-site : goal.invariant-loop-site
invariant-loop-site l = AddsLines (Each (IsWordedSite l.linked l.word) (take l.site-index l.sites)) (string_bytes l.fn.text) (string_bytes l.text)
