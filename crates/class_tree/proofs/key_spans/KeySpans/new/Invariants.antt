use Rattle.std.proofs.Common.{◌≡◌, ℕ, ◌<◌, ◌↔◌, length}
use Rattle.class_order.specs.Groups.{group}
use Rattle.class_order.specs.Spans.{AreApart, Holds, HoldsAny}
use Rattle.class_tree.proofs.key_spans.KeySpans.new.Given as goal

abbrev pub invariant-loop-at : goal.invariant-loop-at
invariant-loop-at l = record {
  len : length l.spans ≡ length l.keys;
  apart : (i : ℕ) → AreApart (group l.spans i);
  exact : (i p : ℕ) → i < l.at → Holds (group l.spans i) p ↔ HoldsAny l.reach (group l.classes i) p;
}
