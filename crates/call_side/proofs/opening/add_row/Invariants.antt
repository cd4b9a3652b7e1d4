use Rattle.lists.specs.Lists.{Has}
use Rattle.call_side.specs.declared.opening.Opening.{Opening}
use Rattle.call_side.specs.Openings.{opening_of}
use Rattle.post_star.proofs.Loops.{EachBefore}
use Rattle.call_side.proofs.opening.add_row.Given as goal

abbrev pub invariant-loop-reached : goal.invariant-loop-reached
invariant-loop-reached l = record {
  kept : (o : Opening) → Has l.initial.openings.items o → Has l.openings.items o;
  there : EachBefore (λ x. Has l.openings.items (opening_of l.first x.node)) l.row l.reached-index;
}
