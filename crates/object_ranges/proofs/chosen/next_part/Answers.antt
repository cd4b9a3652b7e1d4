use Rattle.std.proofs.Common.{leb, leb-true, get_or, ap, arith, rules}
use Rattle.std.proofs.lemmas.List.Sorted.{IsPartitionPoint-from_clause, IsPartitionedBy-leb}
use Rattle.std.proofs.lemmas.Bool.{leb-false}
use Rattle.std.proofs.lemmas.List.Elements.{Contains-get_or}
use Rattle.std.proofs.lemmas.Option.{get_or_from_slice_get, slice_get_within}
use Rattle.class_order.specs.declared.spans.Span.{Span}
use Rattle.object_ranges.specs.declared.parts.Part.{Part}
use Rattle.object_ranges.specs.declared.selection.Selection.TheVariants.{Nothing}
use Rattle.object_ranges.proofs.Ordered.{part_ends_rise, span_ends_rise}
use Rattle.object_ranges.proofs.Passing.{none_before, none_left}
use Rattle.object_ranges.proofs.chosen.next_part.Goals as goal

pub returns-then-passed-spans-clause-passed : goal.returns-then-passed-spans-clause-passed
returns-then-passed-spans-clause-passed c =
    let parts = c.args.parts.now in
    let spans = c.args.spans.now in
    let d : Part = record { start = 0; end = 0; selection = Nothing } in
    let passed = c.partition_point-passed in
    let begin = (get_or parts c.args.from d).start in
    let ends = IsPartitionPoint-from_clause (λ (s : Span). leb s.end begin) spans passed.result passed.ensures.partitioned
    (IsPartitionedBy-leb (λ (s : Span). s.end) spans begin (span_ends_rise spans c.requires.spans)) (λ a r q k. search rules) in
    λ k place part le lt there here held.
    none_left parts spans c.requires.parts c.requires.spans c.args.from d c.if-from-parts.false passed.result (λ i e below within. leb-true _ _ (ends.0 i e (omega arith) below))
    c.if-passed-spans.true k place part le there here held

pub returns-clause-passed : goal.returns-clause-passed
returns-clause-passed c =
    let parts = c.args.parts.now in
    let spans = c.args.spans.now in
    let d : Part = record { start = 0; end = 0; selection = Nothing } in
    let f : Span = record { start = 0; end = 0 } in
    let passed = c.partition_point-passed in
    let next = c.partition_point in
    let begin = (get_or parts c.args.from d).start in
    let start = (get_or spans passed.result f).start in
    let ends = IsPartitionPoint-from_clause (λ (s : Span). leb s.end begin) spans passed.result passed.ensures.partitioned
    (IsPartitionedBy-leb (λ (s : Span). s.end) spans begin (span_ends_rise spans c.requires.spans)) (λ a r q k. search rules) in
    let before = IsPartitionPoint-from_clause (λ (t : Part). leb t.end start) parts next.result next.ensures.partitioned
    (IsPartitionedBy-leb (λ (t : Part). t.end) parts start (part_ends_rise parts c.requires.parts)) (λ a r q k. search rules) in
    λ k place part le lt there here held.
    let is = ap (λ (t : Part). t.end) (get_or_from_slice_get parts k part d there) in
    let low = leb-true _ _ (before.0 k d (omega arith) (omega (arith, le, lt, c.max.ensures))) in
    none_before parts spans c.requires.parts c.requires.spans c.args.from d c.if-from-parts.false passed.result (λ i e below within. leb-true _ _ (ends.0 i e (omega arith) below))
    f c.if-passed-spans.false k place part le there (omega (arith, low, is)) here held

pub returns-clause-met : goal.returns-clause-met
returns-clause-met c =
    let parts = c.args.parts.now in
    let spans = c.args.spans.now in
    let passed = c.partition_point-passed in
    let last = c.partition_point in
    let f : Span = record { start = 0; end = 0 } in
    let d : Part = record { start = 0; end = 0; selection = Nothing } in
    let begin = (get_or parts c.args.from d).start in
    let start = (get_or spans passed.result f).start in
    let ends = IsPartitionPoint-from_clause (λ (s : Span). leb s.end begin) spans passed.result passed.ensures.partitioned
    (IsPartitionedBy-leb (λ (s : Span). s.end) spans begin (span_ends_rise spans c.requires.spans)) (λ a r q k. search rules) in
    let before = IsPartitionPoint-from_clause (λ (t : Part). leb t.end start) parts last.result last.ensures.partitioned
    (IsPartitionedBy-leb (λ (t : Part). t.end) parts start (part_ends_rise parts c.requires.parts)) (λ a r q k. search rules) in
    λ first next at_first at_next.
    let is_first = ap (λ (t : Part). t.start) (get_or_from_slice_get parts c.args.from first d at_first) in
    let is_next = ap (λ (t : Part). t.end) (get_or_from_slice_get parts c.max.result next d at_next) in
    let goes_on = leb-false _ _ (ends.1 passed.result f (omega arith) c.if-passed-spans.false) in
    let ended = leb-false _ _ (before.1 c.max.result d (omega (arith, c.max.ensures)) (slice_get_within parts c.max.result next at_next)) in
    (get_or spans passed.result f, Contains-get_or spans passed.result f c.if-passed-spans.false, omega (arith, goes_on, is_first), omega (arith, ended, is_next))
