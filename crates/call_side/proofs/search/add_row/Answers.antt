use Rattle.std.proofs.lemmas.List.{take_all}
use Rattle.std.proofs.lemmas.Option.{slice_get-get_or}
use Rattle.auto_table.specs.declared.entry.Entry.TheVariants.{Base}
use Rattle.call_side.proofs.Coming.{came_one, row_more}
use Rattle.call_side.proofs.search.add_row.Goals as goal

pub loop-second-preserved : goal.loop-second-preserved
loop-second-preserved c =
    let there = slice_get-get_or c.args.seconds.now c.loop-second.second-index (Base 0) c.loop-second-test.true in
    let one = c.in_ok-add.ensures in
    row_more c.args.origin c.args.seen.now.pairs.keys c.loop-second.seen.pairs.keys c.add.new.self.pairs.keys c.args.seen.now.origins.items c.loop-second.seen.origins.items c.add.new.self.origins.items
    c.args.first _ c.args.seconds.now c.loop-second.second-index there c.loop-second.invariant
    (came_one c.args.origin _ c.loop-second.seen.pairs.keys c.add.new.self.pairs.keys c.loop-second.seen.origins.items c.add.new.self.origins.items one.kept one.there one.trail)

pub returns : goal.returns
returns c = let all = take_all c.loop-second.second-index c.args.seconds.now c.loop-second-test.false in rw all at c.loop-second.invariant
