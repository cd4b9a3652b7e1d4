use Rattle.std.proofs.Common.{◌≡◌, ◌++◌, map, take}
use Rattle.link_rules.specs.Root.{initializer_call}
use Rattle.link_classes.proofs.root.push_initializers.Given as goal

abbrev pub invariant-loop-class : goal.invariant-loop-class
invariant-loop-class l = l.stmts.items ≡ l.fn.stmts.items ++ map initializer_call (take l.class-index l.initialized)
