use Rattle.lists.specs.Lists.{Has}
use Rattle.auto_table.specs.declared.row.Reached.{Reached}
use Rattle.call_side.specs.declared.opening.Opening.{Opening}
use Rattle.call_side.specs.Openings.{first_of, opening_of}
use Rattle.post_star.proofs.Loops.{EachBefore}
use Rattle.weight_laws.specs.declared.reach.Reach.{Reach}
use Rattle.call_side.proofs.opening.add_through.Given as goal

abbrev pub invariant-loop-linked : goal.invariant-loop-linked
invariant-loop-linked l = record {
  kept : (o : Opening) → Has l.initial.openings.items o → Has l.openings.items o;
  there : EachBefore (λ p. (x : Reached Reach) → Has l.row x → Has l.openings.items (opening_of (first_of p.parent) x.node)) l.links l.linked-index;
}
