use Rattle.std.proofs.Common.{◌≡◌, ◌++◌, take}
use Rattle.post_star.proofs.saturation.complete.Given as goal

abbrev pub invariant-loop-rule : goal.invariant-loop-rule
invariant-loop-rule g l = record {
  steps : l.work.steps ≡ l.fn.work.steps;
  last : l.work.last ≡ l.fn.work.last;
  rules : l.work.rules ≡ l.fn.work.rules ++ take l.rule-index l.rules;
  starts : l.work.starts ≡ l.fn.work.starts;
}

abbrev pub invariant-loop-start : goal.invariant-loop-start
invariant-loop-start g l = record {
  steps : l.work.steps ≡ l.fn.work.steps;
  last : l.work.last ≡ l.fn.work.last;
  rules : l.work.rules ≡ l.fn.work.rules ++ l.rules;
  starts : l.work.starts ≡ l.fn.work.starts ++ take l.start-index l.starts;
}
