use Rattle.std.proofs.Common.{take}
use Rattle.link_codes.specs.Contexts.{context_of}
use Rattle.link_codes.specs.Made.{MakesCatches}
use Rattle.link_codes.proofs.method.catches.Given as goal

abbrev pub invariant-loop-trap : goal.invariant-loop-trap
invariant-loop-trap l = MakesCatches (context_of l.scope) (take l.trap-index l.traps) l.catches.items
