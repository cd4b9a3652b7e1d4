use Rattle.std.proofs.lemmas.Result.{IfOk-weaker}
use Rattle.spds_tables.proofs.Made.{call_ones}
use Rattle.spds_tables.proofs.making.common_calls.Goals as goal

pub contracted_calls-requires-clause-ones : goal.contracted_calls-requires-clause-ones
contracted_calls-requires-clause-ones c = rw c.deref.ensures.value (call_ones c.args.calls.now c.numbered.result.now c.in_ok-rules.rules.items c.in_ok-rules.ensures)

pub returns-clause-cells : goal.returns-clause-cells
returns-clause-cells c =
    IfOk-weaker c.contracted_calls.result _ _ (λ side have. (
      c.numbered.result.now,
      c.in_ok-rules.rules.items,
      c.numbered.ensures.value,
      c.in_ok-rules.ensures,
      rw (c.deref.ensures.value, c.deref-2.ensures.value, c.in_ok-kept.ensures) at have,
    )) c.contracted_calls.ensures.cells
