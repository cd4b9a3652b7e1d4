use Rattle.std.proofs.Common.{◌≡◌, List, take, slice_get, Some}
use Rattle.jim_grammar.specs.Expressions.{Re}
use Rattle.jim_grammar.specs.Stacks.{SoFar}
use Rattle.jim_grammar.specs.Automata.{sets_of, IsAutomaton}
use Rattle.jim_grammar.proofs.read.least_refused.Given as goal

abbrev pub invariant-loop-at : goal.invariant-loop-at
invariant-loop-at l = record {
  made : IsAutomaton l.automaton;
  stacks : List (List Re);
  is_set : slice_get (sets_of l.automaton) l.set ≡ Some stacks;
  so_far : SoFar (take l.at l.signs) stacks;
}
