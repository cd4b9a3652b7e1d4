use Rattle.std.proofs.Common.{◌≡◌, ◌-◌, ◌≤◌, drop}
use Rattle.run_report.specs.Named.{NamedRun, digits_of}
use Rattle.step_rules.specs.Steps.{told}
use Rattle.run_report.proofs.named.run_to.Given as goal

abbrev pub invariant-loop-made : goal.invariant-loop-made
invariant-loop-made l =
    NamedRun l.fn.machine.program (digits_of l.digits) l.made l.machine.state (drop l.used (digits_of l.digits))
    × (l.made ≤ l.steps) × (l.moved ≡ told l.machine.state.ending) × (l.machine.program ≡ l.fn.machine.program)

abbrev pub decreases-loop-made : goal.decreases-loop-made
decreases-loop-made l = l.steps - l.made
