use Rattle.std.proofs.Common.{List, slice_index_or, sym, subst, ◌∙◌, arith}
use Rattle.std.proofs.lemmas.List.{take_all}
use Rattle.std.proofs.lemmas.Option.{slice_get-get_or}
use Rattle.lists.proofs.Places.{take-next}
use Rattle.track_rules.specs.declared.row.ProtocolRow.{ProtocolRow}
use Rattle.site_events.proofs.Closing.{IsEventBy, no_row, rows_all, rows_more, rows_skip}
use Rattle.site_events.proofs.star.event_relation.Goals as goal
use Rattle.site_events.proofs.star.event_relation.Goals.{then-row-event, else-row-event}

pub relation_of-requires-clause-from : goal.relation_of-requires-clause-from
relation_of-requires-clause-from c =
    let there = rw c.rows-row-items.ensures at (slice_get-get_or c.rows-row-items.result.now c.loop-row.row-index no_row c.loop-row-test.true) in
    let range = c.tell_form.ensures.rows (slice_index_or c.args.protocol.now.rows c.loop-row.row-index no_row) (c.loop-row.row-index, there) in
    rw c.rows-row-items.ensures (omega (arith, range.from, c.tell_form.ensures.few))

pub relation_of-requires-clause-to : goal.relation_of-requires-clause-to
relation_of-requires-clause-to c =
    let there = rw c.rows-row-items.ensures at (slice_get-get_or c.rows-row-items.result.now c.loop-row.row-index no_row c.loop-row-test.true) in
    let range = c.tell_form.ensures.rows (slice_index_or c.args.protocol.now.rows c.loop-row.row-index no_row) (c.loop-row.row-index, there) in
    rw c.rows-row-items.ensures (omega (arith, range.to, c.tell_form.ensures.few))

pub loop-row-preserved : goal.loop-row-preserved
loop-row-preserved c =
    let items = c.rows-row-items.result.now in
    let index = c.loop-row.row-index in
    let row = slice_index_or items index no_row in
    let next = take-next items index row (slice_get-get_or items index no_row c.loop-row-test.true) in
    elim c.if-row-event.branch [
      | then-row-event w ↦
          rw (w.relation-is, w.combine-relation.ensures, next)
          (rows_more c.args.event _ row c.loop-row.relation w.relation_of.result w.relation_of.ensures (sym w.if-row-event.true) c.loop-row.invariant)
      | else-row-event w ↦ rw (w.relation-is, next) (rows_skip c.args.event _ row c.loop-row.relation (λ e. w.if-row-event.false (sym e)) c.loop-row.invariant)
    ]

pub returns : goal.returns
returns c =
    let all = take_all c.loop-row.row-index c.rows-row-items.result.now c.loop-row-test.false in
    rows_all c.args.event c.args.protocol.now c.loop-row.relation c.told.ensures
    (subst (λ (rows : List ProtocolRow). IsEventBy c.args.event rows c.loop-row.relation) (all ∙ c.rows-row-items.ensures) c.loop-row.invariant)
