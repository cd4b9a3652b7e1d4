use Rattle.std.proofs.lemmas.List.{take_all}
use Rattle.std.proofs.lemmas.Option.{slice_get-get_or}
use Rattle.auto_table.specs.declared.entry.Entry.TheVariants.{Base}
use Rattle.call_side.proofs.Coming.{rows_more}
use Rattle.call_side.proofs.search.add_all.Goals as goal

pub loop-first-preserved : goal.loop-first-preserved
loop-first-preserved c =
    let there = slice_get-get_or c.args.firsts.now c.loop-first.first-index (Base 0) c.loop-first-test.true in
    rows_more c.args.origin c.args.seen.now.pairs.keys c.loop-first.seen.pairs.keys c.add_row.new.seen.pairs.keys c.args.seen.now.origins.items c.loop-first.seen.origins.items c.add_row.new.seen.origins.items
    _ c.args.firsts.now c.args.seconds.now c.loop-first.first-index there c.loop-first.invariant c.in_ok-add_row.ensures

pub returns : goal.returns
returns c = let all = take_all c.loop-first.first-index c.args.firsts.now c.loop-first-test.false in rw all at c.loop-first.invariant
