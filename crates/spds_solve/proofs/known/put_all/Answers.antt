use Rattle.std.proofs.Common.{◌≡◌, ◌+◌, List, get_or, take, subst, arith}
use Rattle.std.proofs.lemmas.List.{take_all}
use Rattle.lists.specs.Lists.{Has}
use Rattle.call_side.proofs.Lists.{Has-take_more}
use Rattle.spds_solve.specs.Known.{AreSeen}
use Rattle.spds_solve.proofs.Noting.{seen_both, seen_none}
use Rattle.spds_solve.proofs.known.put_all.Goals as goal
use Rattle.spds_tables.specs.declared.numbered.Met.{Met as Numbers}

pub loop-pair-init : goal.loop-pair-init
loop-pair-init c = seen_none c.args.mets.now (Has (take 0 c.args.pairs.now)) c.args.pending.now.keys (λ m has. cc has.1)

pub loop-pair-preserved : goal.loop-pair-preserved
loop-pair-preserved c =
    let at = c.loop-pair.pair-index in
    seen_both c.args.mets.now (Has (take at c.args.pairs.now)) (λ m. m ≡ get_or c.args.pairs.now at _) (Has (take (at + 1) c.args.pairs.now)) c.args.pending.now.keys c.loop-pair.pending.keys
    c.put.new.pending.keys c.loop-pair.invariant c.in_ok-put.ensures (λ m. Has-take_more c.args.pairs.now at _ m (omega arith))

pub returns : goal.returns
returns c =
    subst (λ (xs : List Numbers). AreSeen c.args.mets.now (Has xs) c.args.pending.now.keys c.loop-pair.pending.keys) (take_all c.loop-pair.pair-index c.args.pairs.now (omega arith))
    c.loop-pair.invariant
