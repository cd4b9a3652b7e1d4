use Rattle.std.proofs.lemmas.Result.{IfOk-weaker}
use Rattle.spds_tables.proofs.Made.{field_ones}
use Rattle.spds_tables.proofs.making.common_fields.Goals as goal

pub contracted-requires : goal.contracted-requires
contracted-requires c = record { ones = rw (c.deref.ensures.value, c.in_ok-rules.ensures) (field_ones c.numbered.result.now) }

pub returns-clause-cells : goal.returns-clause-cells
returns-clause-cells c =
    IfOk-weaker c.contracted.result _ _ (λ side have. (
      c.numbered.result.now,
      c.numbered.ensures.value,
      rw (c.deref.ensures.value, c.in_ok-rules.ensures, c.deref-3.ensures.value, c.in_ok-kept.ensures) at have,
    )) c.contracted.ensures.cells
