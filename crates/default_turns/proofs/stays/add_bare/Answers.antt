use Rattle.std.proofs.Common.{leb, leb-true, arith, rules}
use Rattle.std.proofs.lemmas.Bool.{leb-false}
use Rattle.std.proofs.lemmas.List.Sorted.{IsPartitionPoint-from_clause, IsPartitionedBy-leb}
use Rattle.std.proofs.lemmas.Result.{IfOk-weaker}
use Rattle.class_order.specs.declared.spans.Span.{Span}
use Rattle.default_turns.proofs.Staying.{bare_all, bare_first, bare_next, ends_rise, rest_behind}
use Rattle.default_turns.proofs.stays.add_bare.Goals as goal
use Rattle.default_turns.proofs.stays.add_bare.Goals.{then-loop-at-test+else-hidden-at, else-loop-at-test}

abbrev none : Span
none = record { start = 0; end = 0 }

pub loop-at-init : goal.loop-at-init
loop-at-init c =
    let parted = IsPartitionedBy-leb (λ (s : Span). s.end) c.args.hidden.now c.args.span.start (ends_rise c.args.hidden.now c.requires) in
    let point = IsPartitionPoint-from_clause (λ (s : Span). leb s.end c.args.span.start) _ _ c.partition_point-at.ensures.partitioned parted (λ a r q k. search rules) in
    bare_first c.args.row c.args.span c.args.hidden.now c.requires c.args.stays.now.items c.partition_point-at.result c.partition_point-at.ensures.bound
    (λ k d h. leb-true _ _ (point.0 k d (omega arith) h)) (λ k d h l. leb-false _ _ (point.1 k d h l))

pub loop-at-preserved : goal.loop-at-preserved
loop-at-preserved c =
    bare_next c.args.row c.args.span c.args.hidden.now c.requires c.args.stays.now.items c.loop-at.at c.loop-at.start none c.loop-at.stays.items c.loop-at.invariant
    c.add_stay.new.stays.items c.loop-at-test.true c.if-hidden-at.true c.in_ok-add_stay.ensures

pub returns : goal.returns
returns c = IfOk-weaker c.add_stay-2.result _ _
    (λ _ stay. bare_all c.args.row c.args.span c.args.hidden.now c.requires c.args.stays.now.items c.loop-at.at c.loop-at.start none c.loop-at.stays.items c.loop-at.invariant
    c.add_stay-2.new.stays.items
    (elim c.loop-at-test.branch [
      | then-loop-at-test+else-hidden-at w ↦
          rest_behind c.args.row c.args.span c.args.hidden.now c.requires c.args.stays.now.items c.loop-at.at c.loop-at.start none c.loop-at.stays.items c.loop-at.invariant w.if-hidden-at.false
      | else-loop-at-test w ↦ (λ k e le h. absurd (omega (arith, le, h, w.loop-at-test.false)))
    ])
    stay)
    c.add_stay-2.ensures
