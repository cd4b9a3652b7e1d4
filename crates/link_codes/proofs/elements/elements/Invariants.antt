use Rattle.std.proofs.Common.{◌≡◌, take}
use Rattle.link_rules.specs.Linked.{elements_of}
use Rattle.link_codes.specs.Contexts.{context_of}
use Rattle.link_program.specs.Elements.{elements_in}
use Rattle.link_codes.proofs.elements.elements.Given as goal

abbrev pub invariant-loop-index : goal.invariant-loop-index
invariant-loop-index l = elements_in l.elements.items ≡ elements_of (context_of l.scope).names (take l.index l.stmts)
