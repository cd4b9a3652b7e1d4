use Rattle.std.proofs.Common.{ℕ, take}
use Rattle.lists.specs.Lists.{Has}
use Rattle.spds_solve.specs.Composing.{AreJoined, IsThere}
use Rattle.spds_solve.proofs.compose.lead.Given as goal

abbrev pub invariant-loop-next : goal.invariant-loop-next
invariant-loop-next l = record {
  joined : AreJoined l.initial.mets l.mets;
  there : (next : ℕ) → Has (take l.next-index l.nexts) next → IsThere l.initial.mets l.mets l.first next;
}
