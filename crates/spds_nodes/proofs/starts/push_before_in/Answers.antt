use Rattle.std.proofs.Common.{length, ap, arith}
use Rattle.link_sites.specs.Places.{before}
use Rattle.spds_rules.specs.Nodes.{at}
use Rattle.spds_nodes.specs.Starts.{IsThere}
use Rattle.spds_nodes.proofs.Numbered.{Below-end, Below-next}
use Rattle.spds_nodes.proofs.Started.{there_below, there_index}
use Rattle.spds_nodes.proofs.starts.push_before_in.Goals as goal

pub loop-index-preserved : goal.loop-index-preserved
loop-index-preserved c =
    Below-next (λ i. IsThere c.args.linked.now (at (before c.args.method i) c.args.var)) _ _ _ c.loop-index.index
    (λ a b n x y. there_index c.args.linked.now c.args.var c.args.method a b n x y) c.loop-index.invariant c.in_ok-push_before.ensures

pub returns : goal.returns
returns c =
    Below-end (λ i. IsThere c.args.linked.now (at (before c.args.method i) c.args.var)) _ _ c.loop-index.index
    (λ i n there.
    let below = there_below c.args.linked.now c.args.var c.args.method i n there in
    let same = ap length (c.code-index-end.ensures there.0.method there.0.there) in
    omega (arith, below, same, c.loop-index-test.false))
    c.loop-index.invariant
