use Rattle.std.proofs.Common.{◌≡◌, length, take}
use Rattle.class_tree.specs.KeySpans.{AreClassesByKey}
use Rattle.class_tree.proofs.key_spans.classes_by_key.Given as goal

abbrev pub invariant-loop-member : goal.invariant-loop-member
invariant-loop-member l = record {
  len : length l.classes ≡ length l.keys;
  classes : AreClassesByKey (take l.member-index l.members) l.keys l.classes;
}
