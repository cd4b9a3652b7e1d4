use Rattle.std.proofs.Common.{◌≤◌, ◌<◌, length, subst, arith}
use Rattle.lists.specs.Lists.{Adds}
use Rattle.lists.proofs.Places.{slice_get-adds, slice_get-below}
use Rattle.track_rules.specs.declared.row.ProtocolRow.{ProtocolRow}
use Rattle.protocol_words.specs.Spellings.{named_protocol}
use Rattle.protocol_words.proofs.Counting.{counted_more, counted_none, crowds, named_here}
use Rattle.protocol_words.proofs.numbering.number_names.Goals as goal

pub loop-index-init : goal.loop-index-init
loop-index-init c =
    let adds = subst (λ old. Adds old c.args.spelling.now.first.now c.add.new.self) c.new-states.ensures c.in_ok-add.ensures.last in
    rw (c.new-events.ensures, c.new-rows.ensures.items) (counted_none (named_protocol c.args.spelling.now) c.add.new.self adds)

pub returns-then-len-gt-MOST_STATES-clause-err : goal.returns-then-len-gt-MOST_STATES-clause-err
returns-then-len-gt-MOST_STATES-clause-err c =
    let below : c.loop-index.index < length c.deref-row-items.result.now = omega arith in
    let many : 16 < length c.add-in-loop-index-3.new.self = omega (arith, c.len.ensures.value, c.if-len-gt-MOST_STATES.true) in
    let there = named_here c.args.spelling.now.rows.items c.deref-row-items.result.now c.loop-index.index _ c.deref-row-items.ensures.value below in
    crowds (named_protocol c.args.spelling.now) c.loop-index.index _ there c.loop-index.states c.add-in-loop-index.new.self c.add-in-loop-index-3.new.self c.loop-index.events
    c.add-in-loop-index-2.new.self c.loop-index.rows.items c.loop-index.invariant c.in_ok-from.ensures.last c.in_ok-to.ensures.last many

pub overflow_cast-from : goal.overflow_cast-from
overflow_cast-from c =
    let at = slice_get-adds c.add-in-loop-index.new.self c.add-in-loop-index-3.new.self _ c.in_ok-to.ensures.last c.in_ok-from.from.0 _ c.in_ok-from.ensures.added in
    let below : c.in_ok-from.from.0 < length c.add-in-loop-index-3.new.self = slice_get-below _ _ _ at in
    omega (arith, c.len.ensures.value, c.if-len-gt-MOST_STATES.false, below)

pub overflow_cast-to : goal.overflow_cast-to
overflow_cast-to c =
    let below : c.in_ok-to.to.0 < length c.add-in-loop-index-3.new.self = slice_get-below _ _ _ c.in_ok-to.ensures.added in
    omega (arith, c.len.ensures.value, c.if-len-gt-MOST_STATES.false, below)

pub loop-index-preserved : goal.loop-index-preserved
loop-index-preserved c =
    let below : c.loop-index.index < length c.deref-row-items.result.now = omega arith in
    let few : length c.add-in-loop-index-3.new.self ≤ 16 = omega (arith, c.len.ensures.value, c.if-len-gt-MOST_STATES.false) in
    let there = named_here c.args.spelling.now.rows.items c.deref-row-items.result.now c.loop-index.index _ c.deref-row-items.ensures.value below in
    let numbers : ProtocolRow = record { from = c.in_ok-from.from.0; event = c.in_ok-event.event.0; to = c.in_ok-to.to.0 } in
    rw c.in_ok-push.ensures.items (counted_more (named_protocol c.args.spelling.now) c.loop-index.index _ there c.loop-index.states c.add-in-loop-index.new.self
    c.add-in-loop-index-3.new.self c.loop-index.events c.add-in-loop-index-2.new.self c.loop-index.rows.items c.loop-index.invariant c.in_ok-from.ensures.last c.in_ok-to.ensures.last
    numbers c.in_ok-event.ensures.last c.in_ok-from.ensures.added c.in_ok-event.ensures.added c.in_ok-to.ensures.added few)
