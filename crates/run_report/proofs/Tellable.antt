-- What telling of a state takes, and each state of a named run keeps.
use Rattle.std.proofs.Common.{◌≡◌, ℕ, ◌<◌, List, length, subst}
use Rattle.link_rules.specs.Linked.{LinkedProgram}
use Rattle.link_rules.specs.WellLinked.{IsInForm}
use Rattle.step_rules.proofs.Firsts.{run_fits}
use Rattle.step_rules.specs.Shapes.{HasShapeBy}
use Rattle.step_rules.specs.States.{State, uncaught}
use Rattle.run_report.specs.Named.{NamedRun}
use Rattle.run_report.specs.Reports.{IsTellable}
use Rattle.run_report.proofs.OneRun.{named_is_run}
use Rattle.run_report.proofs.Sited.{run_sited}

-- each state of a named run can be told
pub named_tellable : (p : LinkedProgram) (form : IsInForm p) (digits : List ℕ) (n : ℕ) (s : State) (left : List ℕ) → NamedRun p digits n s left → IsTellable p s
named_tellable p form digits n s left named =
    let run = named_is_run named in
    record { sited = run_sited p run; shape = run_fits p n s form run }

-- what was not caught is an object of the heap
pub uncaught_there : (p : LinkedProgram) (s : State) (o : ℕ) → IsTellable p s → s.ending ≡ uncaught o → o < length s.heap
uncaught_there p s o tellable is =
    let shape : HasShapeBy (uncaught o) p s = subst (λ e. HasShapeBy e p s) is tellable.shape in
    shape.1
