use Rattle.std.proofs.Common.{take, string_bytes}
use Rattle.link_rules.specs.Accessed.{At}
use Rattle.report_text.specs.Lines.{AddsLines}
use Rattle.run_report.specs.Reports.{LocalLines}
use Rattle.run_report.proofs.locals.push_locals.Given as goal

abbrev pub invariant-loop-local : goal.invariant-loop-local
invariant-loop-local l =
    At l.machine.state.frames l.frame (λ f. AddsLines (LocalLines l.linked l.machine.state.heap f (take l.local l.names)) (string_bytes l.fn.text) (string_bytes l.text))
