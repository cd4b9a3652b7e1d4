use Rattle.std.proofs.Common.{take}
use Rattle.link_rules.specs.Bodies.{IsLabel}
use Rattle.lists.specs.Lists.{Each}
use Rattle.link_codes.specs.Contexts.{context_of}
use Rattle.link_codes.proofs.stmts.jumps.Given as goal

abbrev pub invariant-loop-label : goal.invariant-loop-label
invariant-loop-label l = Each (IsLabel (context_of l.scope).body.labels) (take l.label-index l.labels) l.jumps.items
