use Rattle.std.proofs.Common.{ap, sym, ◌∙◌, Some, arith}
use Rattle.std.proofs.lemmas.Option.{slice_get-get_or}
use Rattle.post_star.proofs.Takes.{fresh_more, fresh_all}
use Rattle.post_star.proofs.take.fresh_nodes.Goals as goal

pub loop-i-init : goal.loop-i-init
loop-i-init g c = λ j rule h k at. absurd (omega arith)

pub loop-i-preserved : goal.loop-i-preserved
loop-i-preserved g c = fresh_more c.args.rules.now c.args.taken c.loop-i.nodes.keys c.insert.new.self.keys c.loop-i.i c.from_node.result c.index-rules-i.result
    (slice_get-get_or c.args.rules.now c.loop-i.i c.index-rules-i.result c.loop-i-test.true ∙ ap Some (sym c.index-rules-i.is)) c.from_node.ensures c.in_ok-insert.ensures.keys c.loop-i.invariant

pub returns : goal.returns
returns g c = fresh_all c.args.rules.now c.args.taken c.loop-i.nodes.keys c.loop-i.i c.loop-i-test.false c.loop-i.invariant
