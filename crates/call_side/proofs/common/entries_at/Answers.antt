use Rattle.std.proofs.lemmas.List.{take_all}
use Rattle.std.proofs.lemmas.Option.{slice_get-get_or}
use Rattle.auto_table.specs.declared.entry.Entry.TheVariants.{Base}
use Rattle.call_side.proofs.AtNode.{so_far_all, so_far_more, so_far_none, so_far_skip}
use Rattle.call_side.proofs.common.entries_at.Goals as goal
use Rattle.call_side.proofs.common.entries_at.Goals.{then-is_there+in_ok-push, else-is_there}

pub loop-entry-init : goal.loop-entry-init
loop-entry-init c = so_far_none c.args.table.now c.args.node c.new-entries.result.items c.new-entries.ensures.items

pub loop-entry-preserved : goal.loop-entry-preserved
loop-entry-preserved c =
    let all = c.entries-all.result.now in
    let there = slice_get-get_or all c.loop-entry.entry-index (Base 0) c.loop-entry-test.true in
    elim c.if-is_there.branch [
      | then-is_there+in_ok-push w ↦ rw (w.entries-is, w.in_ok-push.ensures.items)
          (so_far_more c.args.table.now c.args.node all c.loop-entry.entry-index _ c.loop-entry.entries.items there c.at-is_there.result c.at-is_there.ensures c.loop-entry.invariant w.if-is_there.true)
      | else-is_there w ↦ rw w.entries-is
          (so_far_skip c.args.table.now c.args.node all c.loop-entry.entry-index _ c.loop-entry.entries.items there c.at-is_there.result c.at-is_there.ensures c.loop-entry.invariant w.if-is_there.false)
    ]

pub returns : goal.returns
returns c =
    let all = c.entries-all.result.now in
    let whole = take_all c.loop-entry.entry-index all c.loop-entry-test.false in
    so_far_all c.args.table.now c.args.node all c.loop-entry.entries.items c.entries-all.ensures.listed (rw whole at c.loop-entry.invariant)
