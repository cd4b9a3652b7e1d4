use Rattle.jim_ast.specs.declared.syntax.Trap.{Trap}
use Rattle.link_rules.specs.Bodies.{trap_labels}
use Rattle.link_faults.specs.Sites.{HasMissingLabel}
use Rattle.link_faults.proofs.Scans.{NoneBefore}
use Rattle.link_faults.proofs.beside.trap_names_no_label.Given as goal

abbrev pub invariant-loop-trap : goal.invariant-loop-trap
invariant-loop-trap l = NoneBefore (λ (trap : Trap). HasMissingLabel l.body.labels (trap_labels trap)) l.traps l.trap-index
