use Rattle.std.proofs.Common.{leb, leb-true, arith, rules}
use Rattle.std.proofs.lemmas.Bool.{leb-false, lt-ltb, ltb-true}
use Rattle.std.proofs.lemmas.List.Sorted.{IsPartitionPoint-from_clause, IsPartitionedBy-leb}
use Rattle.class_order.specs.declared.spans.Span.{Span}
use Rattle.class_order.proofs.Spanned.{holds_at, holds_before, starts_rise}
use Rattle.class_order.proofs.spans.holds.Goals as goal

pub returns-then-after-gt0 : goal.returns-then-after-gt0
returns-then-after-gt0 c =
    let parted = IsPartitionedBy-leb (λ (s : Span). s.start) c.args.spans.now c.args.place (starts_rise c.args.spans.now c.requires) in
    let point = IsPartitionPoint-from_clause (λ (s : Span). leb s.start c.args.place) _ _ c.partition_point-after.ensures.partitioned parted (λ a r q k. search rules) in
    let at = holds_at c.args.spans.now c.args.place c.partition_point-after.result _ c.requires c.if-after-gt0.true c.partition_point-after.ensures.bound
    (λ k e h. leb-true _ _ (point.0 k e (omega arith) h)) (λ k e h l. leb-false _ _ (point.1 k e h l)) in
    (λ t. at.0 (ltb-true _ _ t), λ h. lt-ltb _ _ (at.1 h))

pub returns-else-after-gt0 : goal.returns-else-after-gt0
returns-else-after-gt0 c =
    let parted = IsPartitionedBy-leb (λ (s : Span). s.start) c.args.spans.now c.args.place (starts_rise c.args.spans.now c.requires) in
    let point = IsPartitionPoint-from_clause (λ (s : Span). leb s.start c.args.place) _ _ c.partition_point-after.ensures.partitioned parted (λ a r q k. search rules) in (
      λ t. absurd (omega (arith, ltb-true _ _ t, c.if-after-gt0.false)),
      λ h. absurd (holds_before c.args.spans.now c.args.place (λ k e l. leb-false _ _ (point.1 k e (omega (arith, c.if-after-gt0.false)) l)) h),
    )
