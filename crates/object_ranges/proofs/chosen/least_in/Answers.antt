use Rattle.std.proofs.Common.{◌<◌, ◌-◌, suc, leb, leb-true, subst, sym, ap, ◌∙◌, arith, rules}
use Rattle.std.proofs.lemmas.Bool.{leb-false}
use Rattle.std.proofs.lemmas.List.Sorted.{IsPartitionPoint-from_clause, IsPartitionedBy-leb}
use Rattle.class_order.specs.declared.spans.Span.{Span}
use Rattle.object_ranges.specs.Chosen.{StandsInBoth}
use Rattle.object_ranges.specs.Marks.{IsLeastOf, earlier}
use Rattle.object_ranges.proofs.Meeting.{least_meets, none_meets}
use Rattle.object_ranges.proofs.Ordered.{span_ends_rise, span_starts_rise}
use Rattle.object_ranges.proofs.chosen.least_in.Goals as goal

pub returns-then-to-from : goal.returns-then-to-from
returns-then-to-from c =
    let spans = c.args.spans.now in
    let part = c.args.part in
    let from = c.partition_point-from in
    let to = c.partition_point-to in
    let ends = IsPartitionPoint-from_clause (λ (s : Span). leb s.end part.start) spans from.result from.ensures.partitioned
    (IsPartitionedBy-leb (λ (s : Span). s.end) spans part.start (span_ends_rise spans c.requires.spans)) (λ a r q k. search rules) in
    let starts = IsPartitionPoint-from_clause (λ (s : Span). leb (suc s.start) part.end) spans to.result to.ensures.partitioned
    (IsPartitionedBy-leb (λ (s : Span). suc s.start) spans part.end (λ i j d le h. let up = span_starts_rise spans c.requires.spans i j d le h in omega (arith, up))) (λ a r q k. search rules) in
    none_meets c.args.objects.now spans part from.result to.result (λ k d lt h. leb-true _ _ (ends.0 k d (omega arith) lt))
    (λ k d le h. let past = leb-false _ _ (starts.1 k d le h) in omega (arith, past)) c.if-to-from.true

pub returns : goal.returns
returns c =
    let spans = c.args.spans.now in
    let part = c.args.part in
    let from = c.partition_point-from in
    let to = c.partition_point-to in
    let d : Span = record { start = 0; end = 0 } in
    let some : from.result < to.result = c.if-to-from.false in
    let ends = IsPartitionPoint-from_clause (λ (s : Span). leb s.end part.start) spans from.result from.ensures.partitioned
    (IsPartitionedBy-leb (λ (s : Span). s.end) spans part.start (span_ends_rise spans c.requires.spans)) (λ a r q k. search rules) in
    let starts = IsPartitionPoint-from_clause (λ (s : Span). leb (suc s.start) part.end) spans to.result to.ensures.partitioned
    (IsPartitionedBy-leb (λ (s : Span). suc s.start) spans part.end (λ i j d le h. let up = span_starts_rise spans c.requires.spans i j d le h in omega (arith, up))) (λ a r q k. search rules) in
    subst (IsLeastOf (StandsInBoth c.args.objects.now spans part)) (sym (c.earlier-2.ensures ∙ ap (earlier c.least-between.result) c.earlier.ensures))
    (least_meets c.args.objects.now spans part from.result to.result (λ k d lt h. leb-true _ _ (ends.0 k d (omega arith) lt))
    (λ k d le h. let past = leb-false _ _ (starts.1 k d le h) in omega (arith, past)) c.requires.spans c.args.leasts.now c.requires.leasts some to.ensures.bound d d
    (leb-false _ _ (ends.1 from.result d (omega arith) (omega (arith, some, to.ensures.bound))))
    (let below = leb-true _ _ (starts.0 (to.result - 1) d (omega arith) (omega (arith, some))) in omega (arith, below))
    c.least-between.result c.least_in_span-first.result c.least_in_span-last.result c.least-between.ensures c.least_in_span-first.ensures c.least_in_span-last.ensures)
