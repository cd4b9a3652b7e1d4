use Rattle.std.proofs.Common.{ℕ, take}
use Rattle.lists.specs.Lists.{Has}
use Rattle.spds_rules.specs.declared.edge.Edge.{Edge}
use Rattle.cert_work.specs.Roads.{AreAddedIn, EdgeOf}
use Rattle.cert_work.specs.Rules.{IsPopped}
use Rattle.cert_work.proofs.pairs.pop_takers.Given as goal

abbrev pub invariant-loop-taker : goal.invariant-loop-taker
invariant-loop-taker l = record {
  added : AreAddedIn l.view l.fn.written l.written;
  there : (i : ℕ) → Has (take l.taker-index l.takers) i → (e : Edge) → EdgeOf l.view e → IsPopped l.written i l.below.number e;
}
