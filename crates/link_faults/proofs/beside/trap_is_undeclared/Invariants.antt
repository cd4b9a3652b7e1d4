use Rattle.jim_ast.specs.declared.syntax.Trap.{Trap}
use Rattle.link_classes.specs.Seen.{seen_method}
use Rattle.link_faults.specs.Sites.{IsUndeclared}
use Rattle.link_faults.proofs.Scans.{NoneBefore}
use Rattle.link_faults.proofs.beside.trap_is_undeclared.Given as goal

abbrev pub invariant-loop-trap : goal.invariant-loop-trap
invariant-loop-trap l = NoneBefore (λ (trap : Trap). IsUndeclared l.classes.world (seen_method l.method).names trap.class) l.traps l.trap-index
