use Rattle.std.proofs.Common.{ℕ, take}
use Rattle.lists.specs.Lists.{Has}
use Rattle.spds_solve.specs.Composing.{AreJoined, IsThere}
use Rattle.spds_solve.proofs.compose.follow.Given as goal

abbrev pub invariant-loop-first : goal.invariant-loop-first
invariant-loop-first l = record {
  joined : AreJoined l.initial.mets l.mets;
  there : (first : ℕ) → Has (take l.first-index l.firsts) first → IsThere l.initial.mets l.mets first l.next;
}
