use Rattle.std.proofs.Common.{◌≡◌, ℕ, [], take, Contains, MatchBool, slice_get, Some}
use Rattle.class_order.specs.declared.finish.Stage.TheVariants.{New}
use Rattle.class_rules.specs.Paths.{ProperPath}
use Rattle.class_order.specs.Tables.{IsSearch, IsStraight, Under}
use Rattle.class_order.proofs.finish.finish_order.Given as goal

abbrev pub invariant-loop-start : goal.invariant-loop-start
invariant-loop-start l = record {
  searched : IsSearch l.below l.stages.items l.order.items [];
  begun : (c : ℕ) → Contains (take l.start-index l.starts) c → slice_get l.stages.items c ≡ Some New → ⊥;
  straight : MatchBool l.straight (IsStraight l.below l.order.items) ((a : ℕ) × ProperPath (Under l.below) a a);
}
