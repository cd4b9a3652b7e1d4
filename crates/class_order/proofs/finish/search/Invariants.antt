use Rattle.std.proofs.Common.{ℕ, ◌+◌, ◌*◌, length, MatchBool}
use Rattle.class_rules.specs.Paths.{ProperPath}
use Rattle.class_order.specs.Tables.{HasBegun, IsSearch, IsStraight, Under}
use Rattle.class_order.proofs.Searches.{new_count}
use Rattle.class_order.proofs.finish.search.Given as goal

abbrev pub invariant-loop-visit : goal.invariant-loop-visit
invariant-loop-visit l = record {
  searched : IsSearch l.below l.stages.items l.order.items l.path.items;
  begun : HasBegun l.fn.stages.items l.start l.stages.items;
  straight : MatchBool l.straight (IsStraight l.below l.fn.order.items → IsStraight l.below l.order.items) ((a : ℕ) × ProperPath (Under l.below) a a);
}

abbrev pub decreases-loop-visit : goal.decreases-loop-visit
decreases-loop-visit l = 2 * new_count l.stages.items + length l.path.items
