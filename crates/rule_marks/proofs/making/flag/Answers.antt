use Rattle.std.proofs.Common.{inl}
use Rattle.rule_marks.proofs.Writing.{flag_set}
use Rattle.rule_marks.proofs.making.flag.Goals as goal

pub returns-then-at-flags-clause-flags : goal.returns-then-at-flags-clause-flags
returns-then-at-flags-clause-flags c = λ n set. flag_set c.args.flags.now c.args.node n set

pub returns-else-at-flags-clause-flags : goal.returns-else-at-flags-clause-flags
returns-else-at-flags-clause-flags c = λ n set. inl set
