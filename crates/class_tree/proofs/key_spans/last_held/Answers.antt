use Rattle.std.proofs.Common.{◌<◌, leb, leb-true, arith, rules}
use Rattle.std.proofs.lemmas.Bool.{leb-false}
use Rattle.std.proofs.lemmas.List.Sorted.{IsPartitionPoint-from_clause, IsPartitionedBy-leb}
use Rattle.class_order.specs.declared.spans.Span.{Span}
use Rattle.class_order.proofs.Spanned.{starts_rise}
use Rattle.class_tree.proofs.Running.{held_below, held_last, held_none}
use Rattle.class_tree.proofs.key_spans.last_held.Goals as goal

pub returns-then-after-eq0 : goal.returns-then-after-eq0
returns-then-after-eq0 c =
    let parted = IsPartitionedBy-leb (λ (s : Span). s.start) c.args.spans.now c.args.to (starts_rise c.args.spans.now c.requires) in
    let point = IsPartitionPoint-from_clause (λ (s : Span). leb s.start c.args.to) _ _ c.partition_point-after.ensures.partitioned parted (λ a r q k. search rules) in
    λ q ge le held. held_none c.args.spans.now c.args.to (λ k e l. leb-false _ _ (point.1 k e (omega (arith, c.if-after-eq0.true)) l)) q le held

pub returns-then-from-last : goal.returns-then-from-last
returns-then-from-last c =
    let parted = IsPartitionedBy-leb (λ (s : Span). s.start) c.args.spans.now c.args.to (starts_rise c.args.spans.now c.requires) in
    let point = IsPartitionPoint-from_clause (λ (s : Span). leb s.start c.args.to) _ _ c.partition_point-after.ensures.partitioned parted (λ a r q k. search rules) in
    let some : 0 < c.partition_point-after.result = omega (arith, c.if-after-eq0.false) in (
      c.if-from-last.true,
      omega (arith, c.min-last.ensures),
      held_last c.args.spans.now c.args.to c.partition_point-after.result _ c.min-last.result c.min-last.ensures c.requires some c.partition_point-after.ensures.bound
          (λ k e h. leb-true _ _ (point.0 k e (omega (arith, h, c.partition_point-after.ensures.bound)) h)) (λ k e h l. leb-false _ _ (point.1 k e h l)),
      held_below c.args.spans.now c.args.to c.partition_point-after.result _ c.min-last.result c.min-last.ensures c.requires some c.partition_point-after.ensures.bound
          (λ k e h. leb-true _ _ (point.0 k e (omega (arith, h, c.partition_point-after.ensures.bound)) h)) (λ k e h l. leb-false _ _ (point.1 k e h l)),
    )

pub returns-else-from-last : goal.returns-else-from-last
returns-else-from-last c =
    let parted = IsPartitionedBy-leb (λ (s : Span). s.start) c.args.spans.now c.args.to (starts_rise c.args.spans.now c.requires) in
    let point = IsPartitionPoint-from_clause (λ (s : Span). leb s.start c.args.to) _ _ c.partition_point-after.ensures.partitioned parted (λ a r q k. search rules) in
    λ q ge le held. held_below c.args.spans.now c.args.to c.partition_point-after.result _ c.min-last.result c.min-last.ensures c.requires (omega (arith, c.if-after-eq0.false)) c.partition_point-after.ensures.bound
    (λ k e h. leb-true _ _ (point.0 k e (omega (arith, h, c.partition_point-after.ensures.bound)) h)) (λ k e h l. leb-false _ _ (point.1 k e h l))
    q (omega (arith, ge, c.if-from-last.false)) le held
