use Rattle.std.proofs.Common.{take, string_bytes}
use Rattle.lists.specs.Lists.{Each}
use Rattle.report_text.specs.Lines.{AddsLines}
use Rattle.track_report.specs.Reports.{IsUnsafeLine}
use Rattle.track_report.proofs.report.push_unsafe_lines.Given as goal

abbrev pub invariant-loop-finding : goal.invariant-loop-finding
invariant-loop-finding l =
    AddsLines (Each (IsUnsafeLine l.linked l.protocol) (take l.finding-index l.findings)) (string_bytes l.fn.text) (string_bytes l.text)
