use Rattle.lists.proofs.Keys.{Adds-insert_key}
use Rattle.lists.specs.Lists.{Adds}
use Rattle.lists.proofs.Joined.{Has-adds}
use Rattle.spds_solve.proofs.Noting.{seen_met, seen_put}
use Rattle.spds_solve.proofs.SameKey.{same_met, self_met}
use Rattle.spds_solve.proofs.known.put.Goals as goal
use Rattle.spds_tables.specs.contracts.numbered.MetPartialEq.TheImpl.{eq-value}

pub returns-then-contains : goal.returns-then-contains
returns-then-contains c = seen_met c.args.mets.now c.args.pending.now.keys c.args.pair (c.contains.ensures.0 c.if-contains.true)

pub returns : goal.returns
returns c =
    let adds : Adds c.args.pending.now.keys c.args.pair c.insert.new.self.keys = rw c.in_ok-insert.ensures.keys (Adds-insert_key (eq-value).it same_met self_met c.args.pending.now.keys c.args.pair) in
    seen_put c.args.mets.now c.args.pending.now.keys c.insert.new.self.keys c.args.pair (Has-adds c.args.pending.now.keys c.insert.new.self.keys c.args.pair adds)
