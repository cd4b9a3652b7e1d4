use Rattle.std.proofs.Common.{ℕ, ◌<◌}
use Rattle.link_rules.specs.Classes.{IsNamed, classes_of}
use Rattle.jim_link.proofs.declares.declares.Given as goal

abbrev pub invariant-loop-class : goal.invariant-loop-class
invariant-loop-class l = (n : ℕ) → n < l.class-index → IsNamed (classes_of l.program) l.name n → ⊥
