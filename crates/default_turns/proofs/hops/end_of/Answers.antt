use Rattle.std.proofs.Common.{leb, leb-true, arith, rules}
use Rattle.std.proofs.lemmas.Bool.{leb-false}
use Rattle.std.proofs.lemmas.List.Sorted.{IsPartitionPoint-from_clause, IsPartitionedBy-leb}
use Rattle.class_order.specs.declared.spans.Span.{Span}
use Rattle.class_order.proofs.Spanned.{starts_rise}
use Rattle.default_turns.proofs.Covered.{end_is, some_before}
use Rattle.default_turns.proofs.hops.end_of.Goals as goal

pub overflow_sub-result : goal.overflow_sub-result
overflow_sub-result c =
    let parted = IsPartitionedBy-leb (λ (s : Span). s.start) c.args.spans.now c.args.place (starts_rise c.args.spans.now c.requires.apart) in
    let point = IsPartitionPoint-from_clause (λ (s : Span). leb s.start c.args.place) _ _ c.partition_point-after.ensures.partitioned parted (λ a r q k. search rules) in
    some_before c.args.spans.now c.args.place c.partition_point-after.result c.requires.apart c.requires.held c.partition_point-after.ensures.bound
    (λ k e h. leb-true _ _ (point.0 k e (omega arith) h)) (λ k e h l. leb-false _ _ (point.1 k e h l))

pub returns : goal.returns
returns c =
    let parted = IsPartitionedBy-leb (λ (s : Span). s.start) c.args.spans.now c.args.place (starts_rise c.args.spans.now c.requires.apart) in
    let point = IsPartitionPoint-from_clause (λ (s : Span). leb s.start c.args.place) _ _ c.partition_point-after.ensures.partitioned parted (λ a r q k. search rules) in
    end_is c.args.spans.now c.args.place c.partition_point-after.result c.requires.apart c.requires.held c.partition_point-after.ensures.bound
    (λ k e h. leb-true _ _ (point.0 k e (omega arith) h)) (λ k e h l. leb-false _ _ (point.1 k e h l)) _
