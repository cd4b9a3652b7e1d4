use Rattle.std.proofs.Common.{arith}
use Rattle.std.proofs.lemmas.List.{take_all}
use Rattle.track_tables.proofs.Taken.{loaded_more}
use Rattle.track_tables.proofs.parts.all_loaded.Goals as goal

pub loop-edge-preserved : goal.loop-edge-preserved
loop-edge-preserved c =
    loaded_more c.args.edges.now c.loop-edge.edge-index (omega arith) c.loop-edge.loaded.keys c.add_loaded.new.loaded.keys c.loop-edge.invariant c.in_ok-add_loaded.ensures

pub returns : goal.returns
returns c = let all = take_all c.loop-edge.edge-index c.args.edges.now (omega arith) in rw all at c.loop-edge.invariant
