use Rattle.std.proofs.Common.{◌≢◌, length, take}
use Rattle.jim_grammar.specs.Stacks.{stacks, SoFar}
use Rattle.jim_grammar.proofs.read.least_refused_from.Given as goal

abbrev pub invariant-loop-at : goal.invariant-loop-at
invariant-loop-at l = record {
  some : length l.stacks.items ≢ 0;
  so_far : SoFar (take l.at l.signs) (stacks l.stacks.items);
}
