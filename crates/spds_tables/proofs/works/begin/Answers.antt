use Rattle.std.proofs.Common.{inr}
use Rattle.lists.proofs.Places.{IsApart-adds}
use Rattle.spds_tables.proofs.works.begin.Goals as goal

pub returns-in_ok-add_start-clause-apart : goal.returns-in_ok-add_start-clause-apart
returns-in_ok-add_start-clause-apart c apart =
    let added = rw c.if-branch.true at c.in_ok-add.ensures in
    IsApart-adds c.args.begun.now c.add.new.self c.args.start apart (inr (added.1, added.0))
