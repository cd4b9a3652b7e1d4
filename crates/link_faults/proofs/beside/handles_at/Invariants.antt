use Rattle.jim_ast.specs.declared.syntax.Trap.{Trap}
use Rattle.link_rules.specs.Bodies.{IsLabel}
use Rattle.link_faults.proofs.Scans.{NoneBefore}
use Rattle.link_faults.proofs.beside.handles_at.Given as goal

abbrev pub invariant-loop-trap : goal.invariant-loop-trap
invariant-loop-trap l = NoneBefore (λ (trap : Trap). IsLabel l.body.labels trap.with l.end) l.traps l.trap-index
