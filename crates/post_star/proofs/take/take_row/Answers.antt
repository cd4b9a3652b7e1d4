use Rattle.std.proofs.Common.{ap, sym, ◌∙◌, Some}
use Rattle.std.proofs.lemmas.Option.{slice_get-get_or}
use Rattle.post_star.proofs.Takes.{row_none, row_pushes, row_skips, row_all}
use Rattle.post_star.proofs.take.take_row.Goals as goal
use Rattle.post_star.proofs.take.take_row.Goals.{then-contains+in_ok-push_back, else-contains}

pub loop-reached-init : goal.loop-reached-init
loop-reached-init g c = row_none c.args.entry c.row-row.result.now c.args.nodes.now.keys c.args.items.now.items

pub loop-reached-preserved : goal.loop-reached-preserved
loop-reached-preserved g c = elim c.if-contains.branch [
  | then-contains+in_ok-push_back w ↦ rw w.items-is (row_pushes c.args.entry c.row-row.result.now c.args.nodes.now.keys c.args.items.now.items c.loop-reached.items.items _ c.loop-reached.reached-index c.reached-item.result (slice_get-get_or c.row-row.result.now c.loop-reached.reached-index c.reached-item.result c.loop-reached-test.true ∙ ap Some (sym c.reached-item.is)) w.in_ok-push_back.ensures.items c.loop-reached.invariant)
  | else-contains w ↦ rw w.items-is (row_skips c.args.entry c.row-row.result.now c.args.nodes.now.keys c.args.items.now.items c.loop-reached.items.items c.loop-reached.reached-index c.reached-item.result (slice_get-get_or c.row-row.result.now c.loop-reached.reached-index c.reached-item.result c.loop-reached-test.true ∙ ap Some (sym c.reached-item.is)) _ c.contains.ensures w.if-contains.false c.loop-reached.invariant)
]

pub returns-clause-stays : goal.returns-clause-stays
returns-clause-stays g c = c.loop-reached.invariant.stays

pub returns-clause-taken : goal.returns-clause-taken
returns-clause-taken g c = row_all g.W.Weight.domain c.args.table.now c.args.entry c.row-row.result.now c.args.nodes.now.keys c.args.items.now.items c.loop-reached.items.items c.loop-reached.reached-index c.row-row.ensures.each c.loop-reached-test.false c.loop-reached.invariant
