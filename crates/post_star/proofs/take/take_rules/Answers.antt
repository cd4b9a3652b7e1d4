use Rattle.std.proofs.Common.{arith}
use Rattle.std.proofs.lemmas.Option.{slice_get-get_or}
use Rattle.post_star.proofs.Takes.{entries_more, taken_all, taken_none}
use Rattle.post_star.proofs.take.take_rules.Goals as goal

pub loop-entry-init : goal.loop-entry-init
loop-entry-init g c = λ j e h. absurd (omega arith)

pub loop-entry-preserved : goal.loop-entry-preserved
loop-entry-preserved g c = entries_more g.W.Weight.domain c.args.table.now c.args.rules.now c.args.taken c.entries-entries.result.now c.in_ok-nodes.nodes.keys c.in_ok-nodes.ensures c.loop-entry.items.items _ c.loop-entry.entry-index _
    (slice_get-get_or c.entries-entries.result.now c.loop-entry.entry-index _ c.loop-entry-test.true) c.in_ok-take_row.ensures.stays c.in_ok-take_row.ensures.taken c.loop-entry.invariant

pub returns-then-rules-taken : goal.returns-then-rules-taken
returns-then-rules-taken g c = taken_none g.W.Weight.domain c.args.table.now c.args.rules.now c.args.taken _ c.if-rules-taken.true

pub returns : goal.returns
returns g c = taken_all g.W.Weight.domain c.args.table.now c.args.rules.now c.args.taken c.entries-entries.result.now c.entries-entries.ensures.listed c.loop-entry.items.items c.loop-entry.entry-index c.loop-entry-test.false c.loop-entry.invariant
